use Rattle.beam_http.proofs.response.Response.bytes.Goals as goal

-- the body and its length are appended last
pub returns-clause-length : goal.returns-clause-length
returns-clause-length c = (c.put_policies.new.bytes.items, c.in_ok-put_body.ensures)
