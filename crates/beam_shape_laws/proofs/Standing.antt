-- Frames of a process after an exception, a write and a drop.
use Rattle.std.proofs.Common.{◌≡◌, ℕ, ◌+◌, ◌==◌, nat_lt, Bool, true, false, cond, List, [], ◌∷◌, length, refl, sym, ap, subst, ◌∙◌, true≢false, Option, Some, None, is_some, slice_set, drop}
use Rattle.beam_model.specs.declared.exception.Exception.{Exception}
use Rattle.beam_model.specs.declared.instruction.Instruction.{Instruction}
use Rattle.beam_model.specs.Prelude.{exit_reason, bare, sized, any, is_value, is_there as is_there_in, put_all, after_effect, drops, trims, Place, Shape}
use Rattle.beam_term.specs.Prelude.{TermValue, nil_term}
use Rattle.beam_machine.specs.declared.process.Frame.{Frame}
use Rattle.beam_machine.specs.declared.process.Slot.{Slot}
use Rattle.beam_machine.specs.declared.process.Status.TheVariants.{Running}
use Rattle.beam_machine.specs.Prelude.{Code, Process, ended, read_slots, read_y, put_slots, put_y, with_slots, without_slots, dropped, tag_of, caught_at, unwound, raises}
use Rattle.beam_machine.specs.declared.process.Tag.{Tag}
use Rattle.beam_shape_laws.specs.Finds.{newest, is_bare}
use Rattle.beam_shape_laws.specs.Shaped.{Holds, HasShape, Fits, Catches, Wait, WaitBehind, AreFit, IsShaped}
use Rattle.beam_shape_laws.proofs.Slots.{value_held, same_length, set_held}
use Rattle.beam_shape_laws.proofs.Small.{chosen_some}

-- ---- processes that run

pub running : (code : Code) (q : Process) → q.status ≡ Running → AreFit code q.goes q.frames → IsShaped code q
running code q r k = λ e. (k, λ d w f. cc)

pub over : (code : Code) (p : Process) (reason value : TermValue) → IsShaped code (ended p reason value)
over code p reason value = λ e. absurd (true≢false e)

-- ---- raising

caught : (code : Code) (p : Process) (e : Exception) (frame : Frame) (older : List Frame) (otherwise : Process) (o : Option Tag)
    → p.status ≡ Running → ((tag : Tag) → o ≡ Some tag → Fits code tag.place frame.y) → Wait code frame.back older → IsShaped code otherwise → IsShaped code (caught_at p e (frame ∷ older) otherwise o)
caught code p e frame older otherwise None r c w k = k
caught code p e frame older otherwise (Some tag) r c w k = running code (caught_at p e (frame ∷ older) otherwise (Some tag)) r (c tag refl, w)

unwound_behind : (code : Code) (p : Process) (e : Exception) (back : Option Place) (older : List Frame) → p.status ≡ Running → Wait code back older → IsShaped code (unwound p e older)
unwound_behind code p e None [] r w = over code p (exit_reason e) nil_term
unwound_behind code p e (Some place) [] r w = absurd w
unwound_behind code p e None (frame ∷ older) r w = absurd w
unwound_behind code p e (Some place) (frame ∷ older) r w =
    caught code p e frame older (unwound p e older) (tag_of frame.y) r w.1 w.2 (unwound_behind code p e frame.back older r w.2)

unwound_fits : (code : Code) (p : Process) (e : Exception) (frames : List Frame) → p.status ≡ Running → Catches code (newest frames) → WaitBehind code frames → IsShaped code (unwound p e frames)
unwound_fits code p e [] r c w = absurd w
unwound_fits code p e (frame ∷ older) r c w = caught code p e frame older (unwound p e older) (tag_of frame.y) r c w (unwound_behind code p e frame.back older r w)

pub raises_shaped : (code : Code) (p : Process) (e : Exception) → p.status ≡ Running → Catches code (newest p.frames) → WaitBehind code p.frames → IsShaped code (raises p e)
raises_shaped code p e r c w = unwound_fits code p e p.frames r c w

-- y registers without a tag catch nothing
pub bare_catches : (code : Code) → Catches code None
bare_catches code tag e = cc

-- after a call the newest frame waits for a return too
pub waits_from : (code : Code) (place : Place) (frames : List Frame) → Fits code place (newest frames) → Catches code (newest frames) → WaitBehind code frames → Wait code (Some place) frames
waits_from code place [] f c w = absurd w
waits_from code place (frame ∷ older) f c w = (f, c, w)

-- whether a frame has exactly n y registers
abbrev pub are_many : ℕ → Option (List Slot) → Bool
are_many n (Some y) = length y == n
are_many n None = false

abbrev pub has_many : ℕ → List Frame → Bool
has_many n frames = are_many n (newest frames)

module _ (instance : ℕ) (instrs : List Instruction) where
  -- ---- reading

  read_slots_there : (s : Shape) (y : Option (List Slot)) (n : ℕ) → HasShape instance instrs s y → is_value s n ≡ true → is_some (read_slots y n) ≡ true
  read_slots_there bare y n h e = absurd (true≢false (sym e))
  read_slots_there any y n h e = absurd (true≢false (sym e))
  read_slots_there (sized ts) None n h e = absurd h
  read_slots_there (sized ts) (Some y) n h e = value_held instance instrs ts y n h e

  pub read_there : (s : Shape) (frames : List Frame) (n : ℕ) → HasShape instance instrs s (newest frames) → is_value s n ≡ true → is_some (read_y frames n) ≡ true
  read_there s [] n h e = read_slots_there s None n h e
  read_there s (frame ∷ older) n h e = read_slots_there s frame.y n h e

-- a label has a row, and the registers fit it
abbrev pub FitsRow : Code → ℕ → Option (List Slot) → Option ℕ → Type 0
FitsRow code instance y None = ⊥
FitsRow code instance y (Some at) = Fits code (record { instance = instance; at = at }) y

pub row_there : (code : Code) (instance : ℕ) (y : Option (List Slot)) (o : Option ℕ) → FitsRow code instance y o → is_some o ≡ true
row_there code instance y None k = absurd k
row_there code instance y (Some at) k = refl

module _ (code : Code) (instance : ℕ) (instrs : List Instruction) where
  -- the process runs, and its newest frame has the shape
  abbrev pub Stands : Shape → Process → Type 0
  Stands s q = HasShape instance instrs s (newest q.frames) × WaitBehind code q.frames × (q.status ≡ Running)

  abbrev pub StandsIf : Shape → Option Process → Type 0
  StandsIf s (Some q) = Stands s q
  StandsIf s None = ⊥

  pub stands_some : (s : Shape) (o : Option Process) → StandsIf s o → is_some o ≡ true
  stands_some s None k = absurd k
  stands_some s (Some q) k = refl

  -- ---- writing

  put_slots_stands : (s : Shape) (p : Process) (frame : Frame) (older : List Frame) (y : Option (List Slot)) (n : ℕ) (tag : Option ℕ) (slot : Slot)
      → HasShape instance instrs s y → Wait code frame.back older → p.status ≡ Running → is_there_in s n ≡ true → Holds instance instrs tag slot
      → StandsIf (put_all tag (n ∷ []) s) (put_slots p frame older y n slot)
  put_slots_stands bare p frame older y n tag slot h w r e i = absurd (true≢false (sym e))
  put_slots_stands any p frame older y n tag slot h w r e i = absurd (true≢false (sym e))
  put_slots_stands (sized ts) p frame older None n tag slot h w r e i = absurd h
  put_slots_stands (sized ts) p frame older (Some y) n tag slot h w r e i =
      let is : nat_lt n (length y) ≡ true = ap (nat_lt n) (sym (same_length instance instrs ts y h)) ∙ e in
      subst (λ c. StandsIf (sized (slice_set ts n tag)) (cond c (Some (with_slots p frame older (Some (slice_set y n slot)))) None)) (sym is)
      (set_held instance instrs ts y n tag slot h i, w, r)

  pub put_y_stands : (s : Shape) (p : Process) (frames : List Frame) (n : ℕ) (tag : Option ℕ) (slot : Slot)
      → HasShape instance instrs s (newest frames) → WaitBehind code frames → p.status ≡ Running → is_there_in s n ≡ true → Holds instance instrs tag slot
      → StandsIf (put_all tag (n ∷ []) s) (put_y p frames n slot)
  put_y_stands s p [] n tag slot h w r e i = absurd w
  put_y_stands s p (frame ∷ older) n tag slot h w r e i = put_slots_stands s p frame older frame.y n tag slot h w r e i

  -- ---- dropping

  many : (s : Shape) (y : Option (List Slot)) (n : ℕ) → HasShape instance instrs s y → is_some (after_effect (drops n) s) ≡ true → are_many n y ≡ true
  many bare y n h e = absurd (true≢false (sym e))
  many any y n h e = absurd (true≢false (sym e))
  many (sized ts) None n h e = absurd h
  many (sized ts) (Some y) n h e = ap (λ m. m == n) (sym (same_length instance instrs ts y h)) ∙ chosen_some (length ts == n) bare e

  pub size_there : (s : Shape) (frames : List Frame) (n : ℕ) → HasShape instance instrs s (newest frames) → is_some (after_effect (drops n) s) ≡ true → has_many n frames ≡ true
  size_there s frames n h e = many s (newest frames) n h e

  many_trim : (s : Shape) (y : Option (List Slot)) (m n : ℕ) → HasShape instance instrs s y → is_some (after_effect (trims m n) s) ≡ true → are_many (m + n) y ≡ true
  many_trim bare y m n h e = absurd (true≢false (sym e))
  many_trim any y m n h e = absurd (true≢false (sym e))
  many_trim (sized ts) None m n h e = absurd h
  many_trim (sized ts) (Some y) m n h e = ap (λ k. k == m + n) (sym (same_length instance instrs ts y h)) ∙ chosen_some (length ts == m + n) (sized (drop m ts)) e

  pub trim_there : (s : Shape) (frames : List Frame) (m n : ℕ) → HasShape instance instrs s (newest frames) → is_some (after_effect (trims m n) s) ≡ true → has_many (m + n) frames ≡ true
  trim_there s frames m n h e = many_trim s (newest frames) m n h e

  without_slots_stands : (p : Process) (frame : Frame) (older : List Frame) (y : Option (List Slot)) (n : ℕ) → are_many n y ≡ true → Wait code frame.back older → p.status ≡ Running
      → StandsIf bare (without_slots n p frame older y)
  without_slots_stands p frame older None n e w r = absurd (true≢false (sym e))
  without_slots_stands p frame older (Some y) n e w r = subst (λ c. StandsIf bare (cond c (Some (with_slots p frame older None)) None)) (sym e) (tt, w, r)

  pub dropped_stands : (p : Process) (frames : List Frame) (n : ℕ) → has_many n frames ≡ true → WaitBehind code frames → p.status ≡ Running → StandsIf bare (dropped n p frames)
  dropped_stands p [] n e w r = absurd w
  dropped_stands p (frame ∷ older) n e w r = without_slots_stands p frame older frame.y n e w r

  -- ---- frames without y registers

  pub bare_slots : (y : Option (List Slot)) → HasShape instance instrs bare y → y ≡ None
  bare_slots None h = refl
  bare_slots (Some y) h = absurd h

  pub bare_there : (frames : List Frame) → HasShape instance instrs bare (newest frames) → WaitBehind code frames → is_bare frames ≡ true
  bare_there [] h w = absurd w
  bare_there (frame ∷ older) h w = go frame.y h
    where
      go : (y : Option (List Slot)) → HasShape instance instrs bare y → is_bare (record frame { y = y } ∷ older) ≡ true
      go None h = refl
      go (Some y) h = absurd h
