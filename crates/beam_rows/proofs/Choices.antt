-- Choices and new elements, one at a time.
use Rattle.std.proofs.Common.{◌≡◌, ℕ, ◌==◌, length, Bool, true, false, if◌then◌else◌, List, [], ◌∷◌, ◌++◌, Option, Some, None, refl, ap, ◌∙◌}
use Rattle.beam_model.specs.Prelude.{is_equal, Place}
use Rattle.beam_machine.specs.declared.action.Choice.{Choice}
use Rattle.beam_machine.specs.declared.action.Update.{Update}
use Rattle.beam_machine.specs.Prelude.{Process, read, chosen, illegal, put_elements, stores_tuple, updates_record}
use Rattle.beam_machine.specs.declared.action.Register.{Register}
use Rattle.beam_term.specs.Prelude.{TermValue}

-- the target of some choices and a last one: the last choice's target, if that is chosen, becomes the target of no choice
pub chosen_last : (p : Process) (t v : TermValue) (cs : List Choice) (c : Choice) (fail : Option ℕ) → read p c.value ≡ Some v → chosen p t (cs ++ c ∷ []) fail ≡ chosen p t cs (if is_equal t v then c.target else fail)
chosen_last p t v [] c fail e = rw e refl
chosen_last p t v (d ∷ cs) c fail e = rw (chosen_last p t v cs c fail e) refl

pub chosen_here : (p : Process) (t v : TermValue) (cs : List Choice) (c : Choice) (fail : Option ℕ) → read p c.value ≡ Some v → is_equal t v ≡ true → chosen p t (cs ++ c ∷ []) fail ≡ chosen p t cs c.target
chosen_here p t v cs c fail e h = chosen_last p t v cs c fail e ∙ ap (λ b. chosen p t cs (if b then c.target else fail)) h

pub chosen_later : (p : Process) (t v : TermValue) (cs : List Choice) (c : Choice) (fail : Option ℕ) → read p c.value ≡ Some v → is_equal t v ≡ false → chosen p t (cs ++ c ∷ []) fail ≡ chosen p t cs fail
chosen_later p t v cs c fail e h = chosen_last p t v cs c fail e ∙ ap (λ b. chosen p t cs (if b then c.target else fail)) h

pub chosen_none : (p : Process) (t : TermValue) (cs : List Choice) (c : Choice) (fail : Option ℕ) → read p c.value ≡ None → chosen p t (cs ++ c ∷ []) fail ≡ None
chosen_none p t [] c fail e = rw e refl
chosen_none p t (d ∷ cs) c fail e = at (read p d.value) refl (chosen_none p t cs c fail e)
  where
    at : (o : Option TermValue) → read p d.value ≡ o → chosen p t (cs ++ c ∷ []) fail ≡ None → chosen p t ((d ∷ cs) ++ c ∷ []) fail ≡ None
    at (Some v) g h = rw (h, g) refl
    at None g h = rw (h, g) refl

pub put_none : (p : Process) (us : List Update) → put_elements p us None ≡ None
put_none p [] = refl
put_none p (u ∷ us) = refl

-- a tuple of another size has no new elements
pub updates : (p : Process) (next : Place) (n : ℕ) (dest : Register) (us : List Update) (xs : List TermValue) → updates_record p next n dest us xs ≡ stores_tuple p next dest (if length xs == n then put_elements p us (Some xs) else None)
updates p next n dest us xs = at (length xs == n)
  where
    at : (b : Bool) → (if b then stores_tuple p next dest (put_elements p us (Some xs)) else illegal p) ≡ stores_tuple p next dest (if b then put_elements p us (Some xs) else None)
    at true = refl
    at false = refl
