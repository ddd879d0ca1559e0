-- What a purge comes to.
use Rattle.std.proofs.Common.{◌≡◌, ℕ, Bool, List, sym, ap, ◌∙◌, Option}
use Rattle.std.specs.List.{list_any}
use Rattle.beam_machine.specs.declared.event.Reply.TheVariants.{Changed}
use Rattle.beam_machine.specs.Prelude.{Code, old_of, purged, lingers_at, killing, replied, next_purge, Process}
use Rattle.beam_state.specs.Prelude.{node, parts}

pub purge_is : (code new : Code) (ps qs : List Process) (name : List ℕ) (old : Option ℕ) (ended : Bool) (clock n references : ℕ)
    → old ≡ old_of code name → new ≡ purged code name → qs ≡ killing (lingers_at old) ps → ended ≡ list_any (lingers_at old) ps
    → next_purge (node code (parts ps clock n references)) name ≡ replied (node new (parts qs clock n references)) (Changed ended)
purge_is code new ps qs name old ended clock n references is gone killed some =
    let others : qs ≡ killing (lingers_at (old_of code name)) ps = killed ∙ ap (λ o. killing (lingers_at o) ps) is in
    let one : ended ≡ list_any (lingers_at (old_of code name)) ps = some ∙ ap (λ o. list_any (lingers_at o) ps) is in
    ap (λ c. replied (node c (parts (killing (lingers_at (old_of code name)) ps) clock n references)) (Changed (list_any (lingers_at (old_of code name)) ps))) (sym gone)
    ∙ (ap (λ rs. replied (node new (parts rs clock n references)) (Changed (list_any (lingers_at (old_of code name)) ps))) (sym others)
    ∙ ap (λ b. replied (node new (parts qs clock n references)) (Changed b)) (sym one))
