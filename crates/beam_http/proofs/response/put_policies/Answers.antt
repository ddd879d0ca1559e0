use Rattle.std.proofs.Common.{◌≡◌, ℕ, List, ◌++◌, append_assoc, ap, ◌∙◌}
use Rattle.beam_http.specs.Responses.{policies}
use Rattle.beam_http.proofs.response.put_policies.Goals as goal

-- what is appended in three parts is appended as one
in_three : (old first second third after_first after_second after_third : List ℕ)
    → after_first ≡ old ++ first → after_second ≡ after_first ++ second → after_third ≡ after_second ++ third
    → after_third ≡ old ++ (first ++ second ++ third)
in_three old first second third after_first after_second after_third one two three =
    rw (three, two, one) (simp append_assoc)

pub returns : goal.returns
unfolding policies
returns c =
    in_three c.args.bytes.now.items _ _ _ _ _ _ (c.in_ok-extend_from_slice.ensures.items ∙ ap (λ text. c.args.bytes.now.items ++ text) c.as_bytes.ensures.value)
    (c.in_ok-extend_from_slice-2.ensures.items ∙ ap (λ text. c.extend_from_slice.new.self.items ++ text) c.as_bytes-2.ensures.value)
    (c.in_ok-extend_from_slice-3.ensures.items ∙ ap (λ text. c.extend_from_slice-2.new.self.items ++ text) c.as_bytes-3.ensures.value)
