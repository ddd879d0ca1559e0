-- No opcode has the number, so none is found in the table.
use Rattle.std.proofs.Common.{rules, ◌≡◌, ◌≢◌, ℕ, List, [], ◌∷◌, None, ◌==◌, refl, sym, arith, find}
use Rattle.std.proofs.lemmas.Bool.Decides.{nat_tests}
use Rattle.beam_model.specs.declared.opcode.Opcode.{Opcode}
use Rattle.beam_model.specs.Prelude.{number_of, opcodes}
use Rattle.beam_genop.proofs.by_number.Goals as goal

nowhere : (n : ℕ) → ((o : Opcode) → number_of o ≢ n) → (os : List Opcode) → find (λ o. number_of o == n) os ≡ None
nowhere n apart [] = refl
nowhere n apart (o ∷ os) = grind (arith, nat_tests, apart o, nowhere n apart os)

pub returns-in_default-clause-value : goal.returns-in_default-clause-value
returns-in_default-clause-value c =
    let apart : (o : Opcode) → number_of o ≢ c.args.number = search rules in
    sym (nowhere c.args.number apart opcodes)
