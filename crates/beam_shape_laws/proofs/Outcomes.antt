-- The next row of a process that is shaped finds what it names, and leaves a process that is shaped.
use Rattle.std.proofs.Common.{◌≡◌, ℕ, ◌&&◌, nat_lt, true, cond, List, [], refl, sym, ap, subst, Option, Some, None, is_some, slice_get, option_map, option_and_then, unwrap_or}
use Rattle.std.proofs.lemmas.Bool.{and_parts}
use Rattle.std.proofs.lemmas.Option.{slice_get_within}
use Rattle.std.specs.List.{list_all}
use Rattle.beam_model.specs.declared.exception.Exception.TheVariants as exception
use Rattle.beam_model.specs.declared.exception.Fault.TheVariants.{IllegalOperand}
use Rattle.beam_model.specs.declared.instruction.Instruction.{Instruction}
use Rattle.beam_model.specs.Prelude.{end_of_code, row_at, IsWellFormed, Listing, is_row, next_row, defined_labels, are_new, are_targets, all_operands, is_within, is_known, kinds_of, Place, Shape}
use Rattle.beam_machine.specs.declared.action.Step.{Step}
use Rattle.beam_machine.specs.declared.process.Frame.{Frame}
use Rattle.beam_machine.specs.declared.process.Goes.TheVariants.{At, Enter, Nowhere}
use Rattle.beam_machine.specs.declared.process.Status.TheVariants.{Running}
use Rattle.beam_machine.specs.Prelude.{illegal_action, action_by, action_of, step_at, callee_named, Code, listing_of, step_of, Process, is_ended, performs, outcome_at, outcome}
use Rattle.beam_machine.specs.declared.process.Goes.{Goes}
use Rattle.beam_shape_laws.specs.Finds.{newest, is_bare, FindsAt, FindsNext}
use Rattle.beam_shape_laws.specs.Shaped.{HasShape, Fits, WaitBehind, IsFirst, AreFit, IsShaped}
use Rattle.beam_shape_laws.proofs.Dispatch.{fits_right}
use Rattle.beam_shape_laws.proofs.Landing.{Facts, facts_at}
use Rattle.beam_shape_laws.proofs.Opcodes.{Before}
use Rattle.beam_shape_laws.proofs.Operands.{AreGood, all_good}
use Rattle.beam_shape_laws.proofs.Actions.{Comes, Enters, called_only}
use Rattle.beam_shape_laws.proofs.Standing.{raises_shaped}
use Rattle.beam_shape_laws.proofs.Small.{all_at}

module _ (code : Code) (enter : Enters code) where
  -- a step leaves a process that is shaped, and finds what it names
  abbrev Steps : ℕ → Option Step → Process → Type 0
  Steps instance o p = FindsAt o p × Comes code (performs code instance o p)

  module _ (instance : ℕ) (l : Listing) (found : listing_of code instance ≡ Some l) (w : IsWellFormed l) (at : ℕ) (s : Shape) (p : Process)
      (has : HasShape instance l.instructions s (newest p.frames)) (behind : WaitBehind code p.frames) (run : p.status ≡ Running) where
    abbrev is : List Instruction
    is = l.instructions

    good_operands : (i : Instruction) → slice_get is at ≡ Some i → AreGood (defined_labels is) (kinds_of i.opcode) i.operands
    good_operands i e =
        let labels = and_parts (are_new [] (defined_labels is) && list_all (λ n. nat_lt n l.label_count) (defined_labels is)) (list_all (are_targets (defined_labels is)) is) w.labels in
        all_good (defined_labels is) (kinds_of i.opcode) i.operands
        (all_at (λ i. all_operands is_within (kinds_of i.opcode) i.operands) is at i w.limits e)
        (all_at (λ i. all_operands is_known (kinds_of i.opcode) i.operands) is at i w.natives e)
        (all_at (are_targets (defined_labels is)) is at i labels.1 e)

    abbrev done : Instruction → Option Step
    done i = Some (record { action = action_of is i; next = next_row at is })

    row_done : (i : Instruction) → slice_get is at ≡ Some i → is_row i ≡ true → Facts code instance l found w i at s (newest p.frames) → Steps instance (done i) p
    row_done i e r h =
        let here : Before = record {
          code = code;
          enter = enter;
          instance = instance;
          l = l;
          found = found;
          w = w;
          at = at;
          inside = slice_get_within is at i e;
          s = s;
          p = p;
          has = has;
          behind = behind;
          run = run;
        } in
        let within : all_operands is_within (kinds_of i.opcode) i.operands ≡ true = all_at (λ i. all_operands is_within (kinds_of i.opcode) i.operands) is at i w.limits e in
        subst (λ b. Steps instance (Some (record { action = cond b (action_by is i.opcode i.operands) illegal_action; next = next_row at is })) p) (sym within)
        (fits_right here i.opcode i.operands r (good_operands i e) h)

    at_row : (o : Option Instruction) → slice_get is at ≡ o → is_row (row_at is at) ≡ true → Facts code instance l found w (row_at is at) at s (newest p.frames)
        → Steps instance (option_map (λ i. record { action = action_of is i; next = next_row at is }) o) p
    at_row None e r h =
        let facts : Facts code instance l found w end_of_code at s (newest p.frames) = subst (λ o. Facts code instance l found w (unwrap_or o end_of_code) at s (newest p.frames)) e h in
        (tt, raises_shaped code p (exception.Fault IllegalOperand) run (facts.raises refl) behind)
    at_row (Some i) e r h =
        row_done i e (subst (λ o. is_row (unwrap_or o end_of_code) ≡ true) e r) (subst (λ o. Facts code instance l found w (unwrap_or o end_of_code) at s (newest p.frames)) e h)

  pub steps_right : (place : Place) (p : Process) → Fits code place (newest p.frames) → WaitBehind code p.frames → p.status ≡ Running → Steps place.instance (step_of code place) p
  unfolding step_of
  steps_right place p f behind run =
      let facts = facts_at code place.instance f.listing f.found f.lawful place.at f.shape (newest p.frames) f.before (f.within, f.row) f.has in
      subst (λ o. Steps place.instance (option_and_then (λ l. step_at l place.at) o) p) (sym f.found)
      (at_row place.instance f.listing f.found f.lawful place.at f.shape p f.has behind run (slice_get f.listing.instructions place.at) refl f.row facts)

  -- ---- the entry

  first_bare : (frames : List Frame) → IsFirst frames → is_bare frames ≡ true
  first_bare frames e = ap is_bare e

  goes_right : (goes : Goes) (p : Process) → AreFit code goes p.frames → p.status ≡ Running → FindsNext code goes p × Comes code (outcome_at code goes p)
  goes_right (At place) p f run = let done = steps_right place p f.0 f.1 run in ((ap is_some f.0.found, done.0), done.1)
  goes_right (Enter «module» function arity) p f run =
      (first_bare p.frames f, called_only code (callee_named «module» function arity) p enter (ap newest f, subst (WaitBehind code) (sym f) tt, run))
  goes_right Nowhere p f run = absurd f

  pub outcome_right : (p : Process) → IsShaped code p → p.status ≡ Running → FindsNext code p.goes p × Comes code (outcome code p)
  outcome_right p k run = goes_right p.goes p (k (ap is_ended run)).0 run
