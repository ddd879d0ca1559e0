-- Private rows over break spots.
use Rattle.std.proofs.Common.{◌≡◌, ℕ, zero, suc, ◌+◌, cond, not, Bool, true, false, List, [], refl, sym, ap, subst, ◌∙◌, arith, Option, None, ◌&&◌}
use Rattle.beam_machine.specs.declared.process.Goes.{Goes}
use Rattle.beam_machine.specs.declared.process.Goes.TheVariants.{At, Enter, Nowhere}
use Rattle.beam_machine.specs.declared.process.Signal.{Signal}
use Rattle.beam_machine.specs.declared.process.Status.{Status}
use Rattle.beam_machine.specs.declared.process.Status.TheVariants.{Running, Waiting, Ended}
use Rattle.beam_machine.specs.Prelude.{Code, is_at_spot, Process, is_running, Outcome, makes, sends, asks, sleeps, outcome, Private, End, at_limit, after_row, at_spot, stops, with_first_row, with_first_sending, private_by, private_rows, private_to_spot}
use Rattle.beam_model.specs.Prelude.{Place}
use Rattle.beam_laws.specs.Prelude.{with_name_and_transit, IsStill, with_name_and_transit_of}
use Rattle.beam_laws.proofs.Ending.{runs_on}
use Rattle.beam_laws.proofs.Follows.{Comes, outcome_comes}
use Rattle.beam_laws.proofs.Unread.{with, moved, outcome_same}
use Rattle.beam_laws.proofs.Private.{having_having, private_having, rows_keep}

-- ---- as many rows

abbrev ending : End → Private → Private
ending end rows = record rows { end = end }

abbrev Cut : (Process → Private) → (ℕ → Process → Private) → Process → Type 0
Cut rest limited p = limited (rest p).count p ≡ ending at_limit (rest p)

module _ (code : Code) (rest : Process → Private) (limited : ℕ → Process → Private) (h : (p : Process) → Cut rest limited p) where
  -- a row, and as many rows as the rest are
  row_cut : (all : ℕ → Process → Private) (p : Process) (o : Outcome)
      → ((k : ℕ) → all (suc k) p ≡ private_by (limited k) p o) → all 0 p ≡ stops p at_limit
      → all (private_by rest p o).count p ≡ ending at_limit (private_by rest p o)
  row_cut all p (makes q) more none =
      let one : (rest q).count + 1 ≡ suc (rest q).count = omega arith in
      ap (λ k. all k p) one ∙ (more (rest q).count ∙ ap with_first_row (h q))
  row_cut all p (sends q to signal) more none =
      let one : (rest q).count + 1 ≡ suc (rest q).count = omega arith in
      ap (λ k. all k p) one ∙ (more (rest q).count ∙ ap (with_first_sending (record { to = to; signal = signal })) (h q))
  row_cut all p (asks q native arity after) more none = none
  row_cut all p (sleeps q k next) more none = none

module _ (spots : List Place) (code : Code) where
  abbrev rows : Bool → ℕ → Process → Private
  rows passes n p = private_to_spot spots passes code n p

  abbrev pub by_row : Bool → ℕ → Process → Bool → Bool → Private
  by_row passes n p runs stopped = cond runs (cond stopped (stops p at_spot) (private_by (rows false n) p (outcome code p))) (stops p after_row)

  go_cut : (passes : Bool) (n : ℕ) (p : Process) (runs stopped : Bool) → is_running p.status ≡ runs → (not passes && is_at_spot spots p.goes) ≡ stopped
      → ((p : Process) → Cut (rows false n) (rows false) p)
      → rows passes (by_row passes n p runs stopped).count p ≡ ending at_limit (by_row passes n p runs stopped)
  go_cut passes n p false stopped r e h = refl
  go_cut passes n p true true r e h = refl
  go_cut passes n p true false r e h =
      row_cut code (rows false n) (rows false) h (rows passes) p (outcome code p)
      (λ k. ap (λ b. by_row passes k p b (not passes && is_at_spot spots p.goes)) r ∙ ap (by_row passes k p true) e) refl

  rows_cut : (passes : Bool) (n : ℕ) (p : Process) → Cut (rows passes n) (rows passes) p
  rows_cut passes zero p = refl
  rows_cut passes (suc n) p = go_cut passes n p (is_running p.status) (not passes && is_at_spot spots p.goes) refl refl (rows_cut false n)

  -- rows over break spots are private rows, as many
  go_prefix : (passes : Bool) (n : ℕ) (p : Process) (runs stopped : Bool) → is_running p.status ≡ runs
      → ((p : Process) → Cut (rows false n) (private_rows code) p)
      → private_rows code (by_row passes n p runs stopped).count p ≡ ending at_limit (by_row passes n p runs stopped)
  go_prefix passes n p false stopped r h = refl
  go_prefix passes n p true true r h = refl
  go_prefix passes n p true false r h =
      row_cut code (rows false n) (private_rows code) h (private_rows code) p (outcome code p)
      (λ k. ap (λ b. cond b (private_by (private_rows code k) p (outcome code p)) (stops p after_row)) r) refl

  prefix : (passes : Bool) (n : ℕ) (p : Process) → Cut (rows passes n) (private_rows code) p
  prefix passes zero p = refl
  prefix passes (suc n) p = go_prefix passes n p (is_running p.status) (not passes && is_at_spot spots p.goes) refl (prefix false n)

  -- ---- neither the name nor the signals in transit are read

  abbrev Unread : Bool → ℕ → Type 0
  Unread passes n = (p : Process) (name : Option (List ℕ)) (transit : List Signal) → rows passes n (with_name_and_transit name transit p) ≡ private_having name transit (rows passes n p)

  again : (name m : Option (List ℕ)) (transit t : List Signal) (r : Private) → private_having name transit (private_having m t r) ≡ private_having name transit r
  again name m transit t r = ap (λ p. record r { process = p }) (having_having name m transit t r.process)

  both : (n : ℕ) → Unread false n → (q : Process) (name m : Option (List ℕ)) (transit t : List Signal)
      → rows false n (with_name_and_transit name transit q) ≡ private_having name transit (rows false n (with_name_and_transit m t q))
  both n u q name m transit t = u q name transit ∙ (sym (again name m transit t (rows false n q)) ∙ sym (ap (private_having name transit) (u q m t)))

  row_unread : (n : ℕ) → Unread false n → (p : Process) (name m : Option (List ℕ)) (transit t : List Signal) (o : Outcome)
      → private_by (rows false n) (with name transit p) (moved name transit o) ≡ private_having name transit (private_by (rows false n) (with m t p) (moved m t o))
  row_unread n u p name m transit t (makes q) = ap with_first_row (both n u q name m transit t)
  row_unread n u p name m transit t (sends q to signal) = ap (with_first_sending (record { to = to; signal = signal })) (both n u (record q { status = Running }) name m transit t)
  row_unread n u p name m transit t (asks q native arity after) = refl
  row_unread n u p name m transit t (sleeps q k next) = refl

  running_unread : (n : ℕ) → Unread false n → (p : Process) (name : Option (List ℕ)) (transit : List Signal) (stopped : Bool)
      → cond stopped (stops (with name transit p) at_spot) (private_by (rows false n) (with name transit p) (outcome code (with name transit p)))
      ≡ private_having name transit (cond stopped (stops (with p.name p.transit p) at_spot) (private_by (rows false n) (with p.name p.transit p) (outcome code (with p.name p.transit p))))
  running_unread n u p name transit true = refl
  running_unread n u p name transit false =
      ap (private_by (rows false n) (with name transit p)) (outcome_same name transit code p)
      ∙ (row_unread n u p name p.name transit p.transit (outcome code (with None [] p))
      ∙ ap (λ o. private_having name transit (private_by (rows false n) (with p.name p.transit p) o)) (sym (outcome_same p.name p.transit code p)))

  more_unread : (passes : Bool) (n : ℕ) → Unread false n → (p : Process) (name : Option (List ℕ)) (transit : List Signal) (status : Status)
      → rows passes (suc n) (with_name_and_transit name transit (record p { status = status })) ≡ private_having name transit (rows passes (suc n) (record p { status = status }))
  more_unread passes n u p name transit Waiting = refl
  more_unread passes n u p name transit (Ended reason value) = refl
  more_unread passes n u p name transit Running = running_unread n u p name transit (not passes && is_at_spot spots p.goes)

  rows_unread : (passes : Bool) (n : ℕ) → Unread passes n
  rows_unread passes zero p name transit = refl
  rows_unread passes (suc n) p name transit = more_unread passes n (rows_unread false n) p name transit p.status

pub spot_later : (spots : List Place) (passes : Bool) (code : Code) (n : ℕ) (p q : Process) → IsStill p q
    → private_to_spot spots passes code n q ≡ with_name_and_transit_of q (private_to_spot spots passes code n p)
spot_later spots passes code n p q still = ap (private_to_spot spots passes code n) still ∙ rows_unread spots code passes n p q.name q.transit

pub spot_unread : (spots : List Place) (passes : Bool) (code : Code) (n : ℕ) (p : Process) (name : Option (List ℕ)) (transit : List Signal)
    → private_to_spot spots passes code n (with_name_and_transit name transit p) ≡ private_having name transit (private_to_spot spots passes code n p)
spot_unread spots passes code n p name transit = rows_unread spots code passes n p name transit

pub spot_prefix : (spots : List Place) (passes : Bool) (code : Code) (n : ℕ) (p : Process)
    → private_rows code (private_to_spot spots passes code n p).count p ≡ record (private_to_spot spots passes code n p) { end = at_limit }
spot_prefix spots passes code n p = prefix spots code passes n p

pub spot_cut : (spots : List Place) (passes : Bool) (code : Code) (n : ℕ) (p : Process)
    → private_to_spot spots passes code (private_to_spot spots passes code n p).count p ≡ record (private_to_spot spots passes code n p) { end = at_limit }
spot_cut spots passes code n p = rows_cut spots code passes n p

pub spot_keeps : (spots : List Place) (passes : Bool) (code : Code) (n : ℕ) (p : Process)
    → with_name_and_transit p.name p.transit (private_to_spot spots passes code n p).process ≡ (private_to_spot spots passes code n p).process
spot_keeps spots passes code n p =
    subst (λ (r : Private). with_name_and_transit p.name p.transit r.process ≡ r.process) (spot_prefix spots passes code n p) (rows_keep code (private_to_spot spots passes code n p).count p)

-- ---- the pid

row_pid : (rest : Process → Private) (p : Process) (o : Outcome) → ((q : Process) → (rest q).process.pid ≡ q.pid) → Comes p.pid p.name o → (private_by rest p o).process.pid ≡ p.pid
row_pid rest p (makes q) h c = h q ∙ c.0
row_pid rest p (sends q to signal) h c = h q ∙ c.0
row_pid rest p (asks q native arity after) h c = refl
row_pid rest p (sleeps q k next) h c = refl

go_pid : (spots : List Place) (passes : Bool) (code : Code) (n : ℕ) (p : Process) (runs stopped : Bool) → is_running p.status ≡ runs
    → ((q : Process) → (private_to_spot spots false code n q).process.pid ≡ q.pid) → (by_row spots code passes n p runs stopped).process.pid ≡ p.pid
go_pid spots passes code n p false stopped r h = refl
go_pid spots passes code n p true true r h = refl
go_pid spots passes code n p true false r h =
    row_pid (private_to_spot spots false code n) p (outcome code p) h (outcome_comes p.pid p.name code p (refl, (refl, runs_on p.status r)))

pub spot_pid : (spots : List Place) (passes : Bool) (code : Code) (n : ℕ) (p : Process) → (private_to_spot spots passes code n p).process.pid ≡ p.pid
spot_pid spots passes code zero p = refl
spot_pid spots passes code (suc n) p = go_pid spots passes code n p (is_running p.status) (not passes && is_at_spot spots p.goes) refl (spot_pid spots false code n)

-- ---- without break spots

pub none_at : (passes : Bool) (goes : Goes) → (not passes && is_at_spot [] goes) ≡ false
none_at true goes = refl
none_at false (At place) = refl
none_at false (Enter m f arity) = refl
none_at false Nowhere = refl

row_none : (rest later : Process → Private) (p : Process) (o : Outcome) → ((q : Process) → rest q ≡ later q) → private_by rest p o ≡ private_by later p o
row_none rest later p (makes q) h = ap with_first_row (h q)
row_none rest later p (sends q to signal) h = ap (with_first_sending (record { to = to; signal = signal })) (h q)
row_none rest later p (asks q native arity after) h = refl
row_none rest later p (sleeps q k next) h = refl

pub spot_none : (passes : Bool) (code : Code) (n : ℕ) (p : Process) → private_to_spot [] passes code n p ≡ private_rows code n p
spot_none passes code zero p = refl
spot_none passes code (suc n) p =
    ap (λ b. by_row [] code passes n p (is_running p.status) b) (none_at passes p.goes)
    ∙ ap (λ (r : Private). cond (is_running p.status) r (stops p after_row)) (row_none (private_to_spot [] false code n) (private_rows code n) p (outcome code p) (spot_none false code n))
