use Rattle.std.proofs.Common.{◌≡◌, ◌++◌, IsTrue}
use Rattle.beam_model.specs.Prelude.{is_byte_list, bytes_of_list}
use Rattle.beam_etf.proofs.writing.write_text.Given as goal

-- the output so far, with the remaining bytes written, is the whole
abbrev pub invariant-loop-head : goal.invariant-loop-head
invariant-loop-head l = (l.out.items ++ bytes_of_list l.rest ≡ l.fn.out.items ++ bytes_of_list l.text) × IsTrue (is_byte_list l.rest)
