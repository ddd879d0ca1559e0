-- Rows of a slice, also those after a send, find what they name.
use Rattle.std.proofs.Common.{◌≡◌, ℕ, zero, suc, ◌+◌, Bool, true, false, cond, List, refl, sym, ap, subst, ◌∙◌, arith}
use Rattle.beam_model.specs.Prelude.{Place}
use Rattle.beam_machine.specs.Prelude.{Code, Private, Sent, at_limit, after_row, private_by, private_rows, private_to_spot, stops, Process, is_running, Outcome, makes, sends, asks, sleeps, outcome}
use Rattle.beam_laws.proofs.Spots.{spot_prefix}
use Rattle.beam_rows.specs.Prelude.{AlwaysFinds}
use Rattle.beam_shape_laws.specs.Finds.{FindsNext}
use Rattle.beam_step.specs.Slices.{Made, joined}

-- n rows of a process that were all executed, and then m more, lead where m rows lead from the process after the first n
abbrev Goes : Code → ℕ → ℕ → Process → Type 0
Goes code n m p = (private_rows code n p).count ≡ n → (private_rows code (n + m) p).process ≡ (private_rows code m (private_rows code n p).process).process

rows_on : (code : Code) (n m : ℕ) (p : Process) → Goes code n m p
rows_on code zero m p e =
    let none : zero + m ≡ m = omega arith in
    ap (λ k. (private_rows code k p).process) none
rows_on code (suc n) m p e =
    let more : suc n + m ≡ suc (n + m) = omega arith in
    ap (λ k. (private_rows code k p).process) more ∙ at (is_running p.status) (λ q. rows_on code n m q) e
  where
    by : (o : Outcome) → ((q : Process) → Goes code n m q) → (private_by (private_rows code n) p o).count ≡ suc n
        → (private_by (private_rows code (n + m)) p o).process ≡ (private_rows code m (private_by (private_rows code n) p o).process).process
    by (makes q) on e = on q (omega (arith, e))
    by (sends q to signal) on e = on q (omega (arith, e))
    by (asks q native arity after) on e = absurd (omega (arith, e))
    by (sleeps q k place) on e = absurd (omega (arith, e))

    at : (b : Bool) → ((q : Process) → Goes code n m q) → (cond {A = Private} b (private_by (private_rows code n) p (outcome code p)) (stops p after_row)).count ≡ suc n
        → (cond {A = Private} b (private_by (private_rows code (n + m)) p (outcome code p)) (stops p after_row)).process
        ≡ (private_rows code m (cond {A = Private} b (private_by (private_rows code n) p (outcome code p)) (stops p after_row)).process).process
    at true on e = by (outcome code p) on e
    at false on e = absurd (omega (arith, e))

-- after rows of a slice the process still always finds what its rows name
pub made_finds : (spots : List Place) (passes : Bool) (code : Code) (p : Process) (count : ℕ) (sent : List Sent) (still : Bool) (q : Process)
    → Made spots passes code p count sent still q → AlwaysFinds code p → AlwaysFinds code q
made_finds spots passes code p count sent still q made finds =
    let rows : Private = private_to_spot spots passes code count p in
    let none : count ≡ count + 0 = omega arith in
    let is : rows ≡ joined count sent (private_to_spot spots still code 0 q) = ap (λ k. private_to_spot spots passes code k p) none ∙ made 0 in
    let whole : private_rows code rows.count p ≡ record rows { end = at_limit } = spot_prefix spots passes code count p in
    let counts : rows.count ≡ count = ap (λ (r : Private). r.count) is ∙ sym none in
    let ends : (private_rows code count p).process ≡ q =
    ap (λ k. (private_rows code k p).process) (sym counts) ∙ (ap (λ (r : Private). r.process) whole ∙ ap (λ (r : Private). r.process) is) in
    let done : (private_rows code count p).count ≡ count =
    ap (λ k. (private_rows code k p).count) (sym counts) ∙ (ap (λ (r : Private). r.count) whole ∙ counts) in
    λ m. subst (λ (r : Process). is_running r.status ≡ true → FindsNext code r.goes r)
    (rows_on code count m p done ∙ ap (λ (r : Process). (private_rows code m r).process) ends) (finds (count + m))
