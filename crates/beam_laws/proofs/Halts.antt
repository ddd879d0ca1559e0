-- Rows of a slice are the process's next rows in the node with its debugger.
use Rattle.std.proofs.Common.{◌≡◌, ℕ, zero, suc, ◌+◌, ◌==◌, nat_lt, Bool, true, false, cond, not, List, [], ◌∷◌, ◌++◌, refl, sym, ap, subst, ◌∙◌, arith, ◌&&◌, Some, None, option_map}
use Rattle.std.proofs.lemmas.Bool.Decides.{nat_tests}
use Rattle.beam_model.specs.Prelude.{Place}
use Rattle.beam_machine.specs.declared.process.Signal.{Signal}
use Rattle.beam_machine.specs.Prelude.{Code, is_at_spot, Halting, no_rows, and_one, halts_or, halting, Process, is_running, is_ended, Outcome, makes, sends, asks, sleeps, outcome, State, process_of, with_process, posted, Rows, made_process, done_by, row, running, row_and, Private, at_limit, at_spot, after_row, stops, private_by, private_rows, private_to_spot}
use Rattle.beam_machine.specs.Next.{steps}
use Rattle.beam_laws.specs.Prelude.{with_signals, after_private, passes_after, before_halting}
use Rattle.beam_laws.proofs.Commits.{rows_go_on}
use Rattle.beam_laws.proofs.Hearing.{hearing_here}
use Rattle.beam_laws.proofs.Numbered.{put_here}
use Rattle.beam_laws.proofs.Posting.{posted_at}
use Rattle.beam_laws.proofs.Spots.{spot_unread, spot_prefix}

-- ---- n rows, none of them that of a break spot

module _ (spots : List Place) (pid m : ℕ) where
  -- these rows are the next ones, and further ones go on from there
  abbrev GoOn : Bool → State → ℕ → Type 0
  GoOn passes s count = halting spots passes s pid (count + m) ≡ before_halting count (halting spots (passes_after count passes) (steps s pid count).state pid m)

  none_go_on : (passes : Bool) (s : State) → GoOn passes s 0
  none_go_on passes s =
      let count : 0 + m ≡ m = omega arith in
      let h : Halting = halting spots passes s pid m in
      let none : h.rows.count ≡ 0 + h.rows.count = omega arith in
      ap (halting spots passes s pid) count ∙ ap (λ k. record h { rows = record h.rows { count = k } }) none

  pub passed : (count : ℕ) → passes_after count false ≡ false
  passed count = by (nat_lt 0 count)
    where
      by : (b : Bool) → cond b false false ≡ false
      by true = refl
      by false = refl

  pub passed_one : (count : ℕ) (passes : Bool) → passes_after (count + 1) passes ≡ false
  passed_one count passes = let more : nat_lt 0 (count + 1) ≡ true = grind (arith, nat_tests) in ap (λ b. cond b false passes) more

  -- a row that isn't that of a break spot, and then the rest
  one_goes_on : (passes : Bool) (s : State) (p : Process) (count : ℕ) → running (process_of s.processes pid) ≡ Some p → (not passes && is_at_spot spots p.goes) ≡ false
      → GoOn false (row s pid p) count → GoOn passes s (count + 1)
  one_goes_on passes s p count e free rest =
      let t : State = (steps (row s pid p) pid count).state in
      let h : Halting = halting spots false t pid m in
      let whole : (count + 1) + m ≡ suc (count + m) = omega arith in
      let one : count + 1 ≡ suc count = omega arith in
      let sum : (count + h.rows.count) + 1 ≡ (count + 1) + h.rows.count = omega arith in
      let reached : (steps s pid (count + 1)).state ≡ t = ap (λ k. (steps s pid k).state) one ∙ ap (λ o. (row_and (λ u. steps u pid count) s pid o).state) e in
      ap (halting spots passes s pid) whole
      ∙ (ap (halts_or (λ u. halting spots false u pid (count + m)) spots passes s pid) e
      ∙ (ap (λ b. cond {A = Halting} b (no_rows s true) (and_one (halting spots false (row s pid p) pid (count + m)))) free
      ∙ (ap and_one (rest ∙ ap (λ b. before_halting count (halting spots b t pid m)) (passed count))
      ∙ (ap (λ k. record h { rows = record h.rows { count = k } }) sum
      ∙ (ap (λ b. before_halting (count + 1) (halting spots b t pid m)) (sym (passed_one count passes))
      ∙ ap (λ u. before_halting (count + 1) (halting spots (passes_after (count + 1) passes) u pid m)) (sym reached))))))

  -- ---- the rows of a slice

  abbrev Slices : Code → Bool → ℕ → Type 0
  Slices code passes n = (s : State) (p : Process) → s.code ≡ code → process_of s.processes pid ≡ Some p → GoOn passes s (private_to_spot spots passes code n p).count

  -- the process after a signal that it sent, perhaps to itself
  sent_goes_on : (code : Code) (n : ℕ) → Slices code false n → (s : State) (p q : Process) (to : ℕ) (signal : Signal) → s.code ≡ code → process_of s.processes pid ≡ Some p
      → GoOn false (done_by s pid (sends q to signal)) (private_to_spot spots false code n q).count
  sent_goes_on code n slices s p q to signal c e =
      let ps : List Process = with_process s.processes pid q in
      let signals : List Signal = cond (to == pid) (signal ∷ []) [] in
      let there : process_of (posted ps to signal) pid ≡ Some (with_signals signals q) = posted_at ps to pid signal (to == pid) refl ∙ ap (option_map (with_signals signals)) (put_here s.processes pid p q e) in
      let as_many : (private_to_spot spots false code n (with_signals signals q)).count ≡ (private_to_spot spots false code n q).count =
      ap (λ (r : Private). r.count) (spot_unread spots false code n q q.name (q.transit ++ signals)) in
      subst (GoOn false (done_by s pid (sends q to signal))) as_many (slices (done_by s pid (sends q to signal)) (with_signals signals q) c there)

  row_goes_on : (code : Code) (passes : Bool) (n : ℕ) → Slices code false n → (s : State) (p : Process) (o : Outcome) → s.code ≡ code → process_of s.processes pid ≡ Some p
      → running (process_of s.processes pid) ≡ Some p → (not passes && is_at_spot spots p.goes) ≡ false → outcome s.code p ≡ o
      → GoOn passes s (private_by (private_to_spot spots false code n) p o).count
  row_goes_on code passes n slices s p (makes q) c e r free same =
      one_goes_on passes s p (private_to_spot spots false code n q).count r free
      (subst (λ o. GoOn false (done_by s pid o) (private_to_spot spots false code n q).count) (sym same) (slices (made_process s pid q) q c (hearing_here pid q.status (with_process s.processes pid q) q (put_here s.processes pid p q e) refl)))
  row_goes_on code passes n slices s p (sends q to signal) c e r free same =
      one_goes_on passes s p (private_to_spot spots false code n q).count r free
      (subst (λ o. GoOn false (done_by s pid o) (private_to_spot spots false code n q).count) (sym same) (sent_goes_on code n slices s p q to signal c e))
  row_goes_on code passes n slices s p (asks q native arity after) c e r free same = none_go_on passes s
  row_goes_on code passes n slices s p (sleeps q k next) c e r free same = none_go_on passes s

  more_go_on : (code : Code) (passes : Bool) (n : ℕ) → Slices code false n → (s : State) (p : Process) (runs stopped : Bool) → s.code ≡ code → process_of s.processes pid ≡ Some p
      → is_running p.status ≡ runs → (not passes && is_at_spot spots p.goes) ≡ stopped
      → GoOn passes s (cond runs (cond stopped (stops p at_spot) (private_by (private_to_spot spots false code n) p (outcome code p))) (stops p after_row)).count
  more_go_on code passes n slices s p false stopped c e r h = none_go_on passes s
  more_go_on code passes n slices s p true true c e r h = none_go_on passes s
  more_go_on code passes n slices s p true false c e r h =
      row_goes_on code passes n slices s p (outcome code p) c e (ap running e ∙ ap (λ b. cond b (Some p) None) r) h (ap (λ code. outcome code p) c)

  slices_go_on : (code : Code) (passes : Bool) (n : ℕ) → Slices code passes n
  slices_go_on code passes zero s p c e = none_go_on passes s
  slices_go_on code passes (suc n) s p c e =
      more_go_on code passes n (slices_go_on code false n) s p (is_running p.status) (not passes && is_at_spot spots p.goes) c e refl refl

-- ---- the state after them

pub slice_state : (s : State) (spots : List Place) (passes : Bool) (pid n : ℕ) (p : Process) → process_of s.processes pid ≡ Some p → is_ended p.status ≡ false
    → (steps s pid (private_to_spot spots passes s.code n p).count).state ≡ after_private s pid (private_to_spot spots passes s.code n p)
slice_state s spots passes pid n p e lives =
    let rows : Private = private_to_spot spots passes s.code n p in
    let none : rows.count + 0 ≡ rows.count = omega arith in
    let same : private_rows s.code rows.count p ≡ record rows { end = at_limit } = spot_prefix spots passes s.code n p in
    ap (λ k. (steps s pid k).state) (sym none)
    ∙ subst (λ (r : Private). (steps s pid (r.count + 0)).state ≡ after_private s pid r) same (ap (λ (r : Rows). r.state) (rows_go_on s pid rows.count 0 p e lives))

pub halting_goes_on : (s : State) (spots : List Place) (passes : Bool) (pid n m : ℕ) (p : Process) → process_of s.processes pid ≡ Some p → is_ended p.status ≡ false
    → halting spots passes s pid ((private_to_spot spots passes s.code n p).count + m)
    ≡ before_halting (private_to_spot spots passes s.code n p).count
    (halting spots (passes_after (private_to_spot spots passes s.code n p).count passes) (after_private s pid (private_to_spot spots passes s.code n p)) pid m)
halting_goes_on s spots passes pid n m p e lives =
    let rows : Private = private_to_spot spots passes s.code n p in
    slices_go_on spots pid m s.code passes n s p refl e
    ∙ ap (λ t. before_halting rows.count (halting spots (passes_after rows.count passes) t pid m)) (slice_state s spots passes pid n p e lives)
