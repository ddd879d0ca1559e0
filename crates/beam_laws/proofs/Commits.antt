-- Private rows of a process are its next rows in the node.
use Rattle.std.proofs.Common.{◌≡◌, ◌≢◌, ℕ, zero, suc, ◌+◌, ◌==◌, eq-eqb, true≢false, Bool, true, false, cond, List, [], ◌∷◌, ◌++◌, refl, sym, ap, subst, ◌∙◌, arith, Option, Some, None}
use Rattle.std.proofs.lemmas.Bool.Decides.{nat_tests}
use Rattle.beam_machine.specs.declared.process.Signal.{Signal}
use Rattle.beam_machine.specs.declared.process.Status.{Status}
use Rattle.beam_machine.specs.declared.process.Status.TheVariants.{Running, Waiting, Ended}
use Rattle.beam_machine.specs.Prelude.{Code, Process, is_running, is_ended, Outcome, makes, sends, asks, sleeps, outcome, State, process_of, with_process, alive, live_process, posted_to, posted, hearing_by, Rows, put_process, made_process, done_by, row, one_more, running, row_and, Private, End, at_limit, after_row, before_node_row, stops, with_first_row, with_first_sending, private_by, private_rows}
use Rattle.beam_machine.specs.Next.{steps}
use Rattle.beam_laws.specs.Prelude.{with_name_and_transit, posted_all, after_private, before}
use Rattle.beam_laws.proofs.Ending.{alive_is}
use Rattle.beam_laws.proofs.Numbered.{positive, put_same, put_put, put_commutes, put_here, put_elsewhere, alive_of, gone}
use Rattle.beam_laws.proofs.Hearing.{none_hear}
use Rattle.beam_laws.proofs.Private.{having_status, private_having, rows_unread, rows_keep, row_keeps, Keeps}

abbrev with_processes : State → List Process → State
with_processes s ps = record s { processes = ps }

-- ---- a signal posted, and the process put

-- a signal to another process
posted_commutes : (ps : List Process) (pid to : ℕ) (signal : Signal) (p r : Process) (o : Option Process) → process_of ps pid ≡ Some p → pid ≢ to → live_process ps to ≡ o
    → with_process (posted_to ps to signal o) pid r ≡ posted_to (with_process ps pid r) to signal o
posted_commutes ps pid to signal p r None e ne l = refl
posted_commutes ps pid to signal p r (Some x) e ne l =
    let there : process_of ps to ≡ Some x = (alive_is (process_of ps to) x l).0 in
    sym (put_commutes ps pid to r (record x { transit = x.transit ++ signal ∷ [] }) ne (positive ps pid p e) (positive ps to x there))

pub elsewhere : (ps : List Process) (pid to : ℕ) (signal : Signal) (p r : Process) → process_of ps pid ≡ Some p → pid ≢ to
    → with_process (posted ps to signal) pid r ≡ posted (with_process ps pid r) to signal
elsewhere ps pid to signal p r e ne =
    posted_commutes ps pid to signal p r (live_process ps to) e ne refl
    ∙ ap (λ o. posted_to (with_process ps pid r) to signal (alive o)) (sym (put_elsewhere ps pid to r (λ h. ne (sym h)) (positive ps pid p e)))

stays : (ps : List Process) (pid to : ℕ) (signal : Signal) (p : Process) (o : Option Process) → process_of ps pid ≡ Some p → pid ≢ to → live_process ps to ≡ o
    → process_of (posted_to ps to signal o) pid ≡ Some p
stays ps pid to signal p None e ne l = e
stays ps pid to signal p (Some x) e ne l =
    let there : process_of ps to ≡ Some x = (alive_is (process_of ps to) x l).0 in
    put_elsewhere ps to pid (record x { transit = x.transit ++ signal ∷ [] }) ne (positive ps to x there) ∙ e

-- a signal to the process itself, which runs
own : (ps : List Process) (pid : ℕ) (signal : Signal) (p : Process) → process_of ps pid ≡ Some p → is_ended p.status ≡ false
    → posted ps pid signal ≡ with_process ps pid (record p { transit = p.transit ++ signal ∷ [] })
own ps pid signal p e lives = ap (λ o. posted_to ps pid signal (alive o)) e ∙ ap (posted_to ps pid signal) (alive_of p lives)

abbrev more : Signal → Process → Process
more signal p = record p { transit = p.transit ++ signal ∷ [] }

-- the process after rows, put before its signal to itself is posted and after it
own_commutes : (ps : List Process) (pid : ℕ) (signal : Signal) (p r : Process) (b : Bool) → is_ended r.status ≡ b → process_of ps pid ≡ Some p → with_name_and_transit p.name p.transit r ≡ r
    → with_process ps pid (with_name_and_transit p.name (p.transit ++ signal ∷ []) r) ≡ posted (with_process ps pid r) pid signal
own_commutes ps pid signal p r true over e keeps =
    ap (λ b. with_process ps pid (cond b r (record r { name = p.name; transit = p.transit ++ signal ∷ [] }))) over
    ∙ sym (ap (λ o. posted_to (with_process ps pid r) pid signal (alive o)) (put_here ps pid p r e) ∙ ap (posted_to (with_process ps pid r) pid signal) (gone r over))
own_commutes ps pid signal p r false lives e keeps =
    let is : record r { name = p.name; transit = p.transit } ≡ r = sym (ap (λ b. cond b r (record r { name = p.name; transit = p.transit })) lives) ∙ keeps in
    ap (λ b. with_process ps pid (cond b r (record r { name = p.name; transit = p.transit ++ signal ∷ [] }))) lives
    ∙ (ap (λ x. with_process ps pid (more signal x)) is
    ∙ (sym (put_put ps pid r (more signal r)) ∙ sym (own (with_process ps pid r) pid signal r (put_here ps pid p r e) lives)))

-- ---- one row

abbrev Runs : State → ℕ → ℕ → State → ℕ → Type 0
Runs s pid count t m = steps s pid (count + m) ≡ before count (steps t pid m)

none_run : (s : State) (pid m : ℕ) → Runs s pid 0 s m
none_run s pid m =
    let count : 0 + m ≡ m = omega arith in
    let none : (steps s pid m).count ≡ 0 + (steps s pid m).count = omega arith in
    ap (steps s pid) count ∙ ap (λ k. record (steps s pid m) { count = k }) none

stopped : (s : State) (pid m : ℕ) (p : Process) (end : End) → process_of s.processes pid ≡ Some p → is_ended p.status ≡ false → Runs s pid 0 (after_private s pid (stops p end)) m
stopped s pid m p end e lives =
    let same : hearing_by pid p.status (with_process s.processes pid p) ≡ s.processes =
    none_hear pid p.status (with_process s.processes pid p) lives ∙ put_same s.processes pid p e in
    none_run s pid m ∙ ap (λ ps. before 0 (steps (with_processes s ps) pid m)) (sym same)

one_row : (s : State) (pid k : ℕ) (p : Process) → process_of s.processes pid ≡ Some p → is_running p.status ≡ true → steps s pid (suc k) ≡ one_more (steps (row s pid p) pid k)
one_row s pid k p e r =
    ap (λ o. row_and (λ t. steps t pid k) s pid (running o)) e
    ∙ ap (λ b. row_and (λ t. steps t pid k) s pid (cond b (Some p) None)) r

then_more : (s u t : State) (pid c m : ℕ) → ((k : ℕ) → steps s pid (suc k) ≡ one_more (steps u pid k)) → Runs u pid c t m → Runs s pid (c + 1) t m
then_more s u t pid c m first_row rest =
    let rows : Rows = steps t pid m in
    let whole : (c + 1) + m ≡ suc (c + m) = omega arith in
    let count : (c + rows.count) + 1 ≡ (c + 1) + rows.count = omega arith in
    ap (steps s pid) whole ∙ (first_row (c + m) ∙ (ap one_more rest ∙ ap (λ k. record rows { count = k }) count))

-- ---- rows

abbrev Commits : Code → ℕ → ℕ → ℕ → Type 0
Commits code n pid m = (s : State) (p : Process) → s.code ≡ code → process_of s.processes pid ≡ Some p → is_ended p.status ≡ false → Runs s pid (private_rows code n p).count (after_private s pid (private_rows code n p)) m

-- a process that has ended does no rows
over_rows : (code : Code) (n : ℕ) (q : Process) → is_ended q.status ≡ true → (end : End) × (private_rows code n q ≡ stops q end)
over_rows code zero q over = (at_limit, refl)
over_rows code (suc n) q over = (after_row, ap (λ b. cond b (private_by (private_rows code n) q (outcome code q)) (stops q after_row)) (idle q.status over))
  where
    idle : (status : Status) → is_ended status ≡ true → is_running status ≡ false
    idle Running e = cc
    idle Waiting e = refl
    idle (Ended reason value) e = refl

makes_commits : (code : Code) (n pid m : ℕ) → Commits code n pid m → (s : State) (p q : Process) → s.code ≡ code → process_of s.processes pid ≡ Some p
    → ((k : ℕ) → steps s pid (suc k) ≡ one_more (steps (done_by s pid (makes q)) pid k))
    → Runs s pid ((private_rows code n q).count + 1) (after_private s pid (with_first_row (private_rows code n q))) m
makes_commits code n pid m commits s p q c e first_row = go (is_ended q.status) refl
  where
    go : (b : Bool) → is_ended q.status ≡ b → Runs s pid ((private_rows code n q).count + 1) (after_private s pid (with_first_row (private_rows code n q))) m
    go true over =
        let none = over_rows code n q over in
        subst (λ (rows : Private). Runs s pid (rows.count + 1) (after_private s pid (with_first_row rows)) m) (sym none.1)
        (then_more s (made_process s pid q) (made_process s pid q) pid 0 m first_row (none_run (made_process s pid q) pid m))
    go false lives =
        let rows : Private = private_rows code n q in
        let u : State = put_process s pid q in
        let made : made_process s pid q ≡ u = ap (with_processes s) (none_hear pid q.status (with_process s.processes pid q) lives) in
        let same : after_private u pid rows ≡ after_private s pid rows =
        ap (λ ps. with_processes s (hearing_by pid rows.process.status (posted_all ps rows.sent))) (put_put s.processes pid q rows.process) in
        then_more s u (after_private s pid rows) pid rows.count m (λ k. first_row k ∙ ap (λ t. one_more (steps t pid k)) made)
        (commits u q c (put_here s.processes pid p q e) lives ∙ ap (λ t. before rows.count (steps t pid m)) same)

-- the rows of a process after a signal was posted
from_post : (code : Code) (n pid m : ℕ) → Commits code n pid m → (s : State) (p q x r : Process) (to : ℕ) (signal : Signal) (rows : Private) → s.code ≡ code
    → process_of (posted (with_process s.processes pid q) to signal) pid ≡ Some x → is_ended x.status ≡ false → private_rows code n x ≡ record rows { process = r } → r.status ≡ rows.process.status
    → with_process (posted (with_process s.processes pid q) to signal) pid r ≡ posted (with_process (with_process s.processes pid q) pid rows.process) to signal
    → ((k : ℕ) → steps s pid (suc k) ≡ one_more (steps (done_by s pid (sends q to signal)) pid k))
    → Runs s pid (rows.count + 1) (after_private s pid (with_first_sending (record { to = to; signal = signal }) rows)) m
from_post code n pid m commits s p q x r to signal rows c there lives same stands put first_row =
    let ps : List Process = with_process s.processes pid q in
    let u : State = with_processes s (posted ps to signal) in
    let after : State = after_private s pid (with_first_sending (record { to = to; signal = signal }) rows) in
    let again : with_process ps pid rows.process ≡ with_process s.processes pid rows.process = put_put s.processes pid q rows.process in
    let reached : after_private u pid (record rows { process = r }) ≡ after =
    ap (λ qs. with_processes s (hearing_by pid r.status (posted_all qs rows.sent))) (put ∙ ap (λ qs. posted qs to signal) again)
    ∙ ap (λ status. with_processes s (hearing_by pid status (posted_all (posted (with_process s.processes pid rows.process) to signal) rows.sent))) stands in
    let runs : Runs u pid rows.count (after_private u pid (record rows { process = r })) m =
    subst (λ (rs : Private). Runs u pid rs.count (after_private u pid rs) m) same (commits u x c there lives) in
    then_more s u after pid rows.count m first_row (runs ∙ ap (λ t. before rows.count (steps t pid m)) reached)

-- a process that sends a signal to itself: its rows don't read the signals in transit
sends_commits : (code : Code) (n pid m : ℕ) → Commits code n pid m → (s : State) (p q : Process) (to : ℕ) (signal : Signal) (b : Bool) → (pid == to) ≡ b
    → s.code ≡ code → process_of s.processes pid ≡ Some p → is_ended q.status ≡ false
    → ((k : ℕ) → steps s pid (suc k) ≡ one_more (steps (done_by s pid (sends q to signal)) pid k))
    → Runs s pid ((private_rows code n q).count + 1) (after_private s pid (with_first_sending (record { to = to; signal = signal }) (private_rows code n q))) m
sends_commits code n pid m commits s p q to signal false ne c e lives first_row =
    let ps : List Process = with_process s.processes pid q in
    let here : process_of ps pid ≡ Some q = put_here s.processes pid p q e in
    let other : pid ≢ to = λ h. true≢false (sym (eq-eqb pid to h) ∙ ne) in
    let rows : Private = private_rows code n q in
    from_post code n pid m commits s p q q rows.process to signal rows c (stays ps pid to signal q (live_process ps to) here other refl) lives refl refl (elsewhere ps pid to signal q rows.process here other) first_row
sends_commits code n pid m commits s p q to signal true is c e lives first_row =
    let ps : List Process = with_process s.processes pid q in
    let here : process_of ps pid ≡ Some q = put_here s.processes pid p q e in
    let rows : Private = private_rows code n q in
    let own_to : pid ≡ to = grind (arith, nat_tests) in
    let x : Process = more signal q in
    let posts : posted ps pid signal ≡ with_process ps pid x = own ps pid signal q here lives in
    let unread : private_rows code n x ≡ private_having q.name x.transit rows = ap (private_rows code n) (sym (ap (λ b. cond b q (more signal q)) lives)) ∙ rows_unread code n q q.name x.transit in
    let r : Process = with_name_and_transit q.name x.transit rows.process in
    let put : with_process (posted ps pid signal) pid r ≡ posted (with_process ps pid rows.process) pid signal =
    ap (λ qs. with_process qs pid r) posts ∙ (put_put ps pid x r ∙ own_commutes ps pid signal q rows.process (is_ended rows.process.status) refl here (rows_keep code n q)) in
    let there : process_of (posted ps pid signal) pid ≡ Some x = ap (λ qs. process_of qs pid) posts ∙ put_here ps pid q x here in
    let row_to : (k : ℕ) → steps s pid (suc k) ≡ one_more (steps (done_by s pid (sends q pid signal)) pid k) = subst (λ to. (k : ℕ) → steps s pid (suc k) ≡ one_more (steps (done_by s pid (sends q to signal)) pid k)) (sym own_to) first_row in
    subst (λ to. Runs s pid (rows.count + 1) (after_private s pid (with_first_sending (record { to = to; signal = signal }) rows)) m) own_to
    (from_post code n pid m commits s p q x r pid signal rows c there lives unread (having_status q.name x.transit rows.process) put row_to)

row_commits : (code : Code) (n pid m : ℕ) → Commits code n pid m → (s : State) (p : Process) (o : Outcome) → s.code ≡ code → process_of s.processes pid ≡ Some p → is_ended p.status ≡ false
    → Keeps p.name p.transit o → ((k : ℕ) → steps s pid (suc k) ≡ one_more (steps (done_by s pid o) pid k))
    → Runs s pid (private_by (private_rows code n) p o).count (after_private s pid (private_by (private_rows code n) p o)) m
row_commits code n pid m commits s p (makes q) c e lives keeps first_row = makes_commits code n pid m commits s p q c e first_row
row_commits code n pid m commits s p (sends q to signal) c e lives keeps first_row =
    sends_commits code n pid m commits s p q to signal (pid == to) refl c e (ap (λ x. is_ended x.status) keeps) first_row
row_commits code n pid m commits s p (asks q native arity after) c e lives keeps first_row = stopped s pid m p before_node_row e lives
row_commits code n pid m commits s p (sleeps q k next) c e lives keeps first_row = stopped s pid m p before_node_row e lives

more_commit : (code : Code) (n pid m : ℕ) → Commits code n pid m → (s : State) (p : Process) (b : Bool) → is_running p.status ≡ b → s.code ≡ code → process_of s.processes pid ≡ Some p → is_ended p.status ≡ false
    → Runs s pid (cond b (private_by (private_rows code n) p (outcome code p)) (stops p after_row)).count (after_private s pid (cond b (private_by (private_rows code n) p (outcome code p)) (stops p after_row))) m
more_commit code n pid m commits s p false r c e lives = stopped s pid m p after_row e lives
more_commit code n pid m commits s p true r c e lives =
    row_commits code n pid m commits s p (outcome code p) c e lives (row_keeps code p r)
    (λ k. one_row s pid k p e r ∙ ap (λ code. one_more (steps (done_by s pid (outcome code p)) pid k)) c)

commits : (code : Code) (n pid m : ℕ) → Commits code n pid m
commits code zero pid m s p c e lives = stopped s pid m p at_limit e lives
commits code (suc n) pid m s p c e lives = more_commit code n pid m (commits code n pid m) s p (is_running p.status) refl c e lives

pub rows_go_on : (s : State) (pid n m : ℕ) (p : Process) → process_of s.processes pid ≡ Some p → is_ended p.status ≡ false
    → steps s pid ((private_rows s.code n p).count + m) ≡ before (private_rows s.code n p).count (steps (after_private s pid (private_rows s.code n p)) pid m)
rows_go_on s pid n m p e lives = commits s.code n pid m s p refl e lives
