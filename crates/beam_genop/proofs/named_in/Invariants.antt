use Rattle.std.proofs.Common.{◌≡◌, ℕ, ◌<◌, get_or, drop, find}
use Rattle.beam_model.specs.declared.opcode.Opcode.{Opcode}
use Rattle.beam_model.specs.Prelude.{same_text, name_of}
use Rattle.beam_genop.proofs.named_in.Given as goal

abbrev pub invariant-loop-opcode : goal.invariant-loop-opcode
invariant-loop-opcode l = record {
  apart : (k : ℕ) (d : Opcode) → k < l.opcode-index → name_of (get_or l.opcodes k d) ≡ l.text → ⊥;
  left : find (λ o. same_text (name_of o) l.text) (drop l.opcode-index l.opcodes) ≡ find (λ o. same_text (name_of o) l.text) l.opcodes;
}
