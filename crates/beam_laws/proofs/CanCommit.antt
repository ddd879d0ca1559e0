-- A process that is out can be committed.
use Rattle.std.proofs.Common.{◌≡◌, true, false, ◌⊎◌, inl, inr, true≢false, sym, subst, ◌∙◌, Some}
use Rattle.std.proofs.lemmas.Option.{same_Some}
use Rattle.beam_machine.specs.Prelude.{Debugged, Process, is_ended, process_of}
use Rattle.beam_laws.specs.Prelude.{IsEarlierCode, same_numbers, Origin, IsAsItWas, IsOut, CanCommit}
use Rattle.beam_laws.proofs.Kinship.{is_same}

lives_on : (d : Debugged) (o : Origin) (q : Process) → is_ended q.status ≡ false → (is_ended q.status ≡ true) ⊎ IsAsItWas d o q → IsAsItWas d o q
lives_on d o q lives (inl over) = absurd (true≢false (sym over ∙ lives))
lives_on d o q lives (inr was) = was

pub can_commit : (d : Debugged) (o : Origin) (q : Process) → IsOut d o → process_of d.node.processes o.pid ≡ Some q → is_ended q.status ≡ false
    → IsEarlierCode o.code d.node → same_numbers o.code d.node.code ≡ true → d.spots ≡ o.spots → CanCommit d o q
can_commit d o q (z, there, was) at lives kin numbers spots =
    let one : z ≡ q = same_Some z q (sym there ∙ at) in
    let own : (is_ended q.status ≡ true) ⊎ IsAsItWas d o q = subst (λ x. (is_ended x.status ≡ true) ⊎ IsAsItWas d o x) one was in
    (at, lives_on d o q lives own, sym (is_same o.code d.node kin numbers), spots)
