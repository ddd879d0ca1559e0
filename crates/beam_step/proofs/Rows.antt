-- Private rows over break spots, one after another.
use Rattle.std.proofs.Common.{◌≡◌, ℕ, zero, suc, ◌+◌, ◌-◌, ◌<◌, List, [], ◌∷◌, ◌++◌, Option, Some, None, Bool, true, false, cond, refl, sym, ap, subst, Result, Ok, Err, ◌≤◌, ◌∙◌, arith, add-one, append_assoc, is_some, ◌==◌, if◌then◌else◌, eqb-true, append-nil}
use Rattle.std.proofs.lemmas.Bool.Decides.{nat_tests}
use Rattle.beam_machine.specs.declared.callee.After.TheVariants.{Return}
use Rattle.beam_machine.specs.declared.process.Signal.{Signal}
use Rattle.beam_machine.specs.declared.process.Signal.TheVariants.{Message}
use Rattle.beam_machine.specs.Prelude.{is_quiet, Code, Process, dropped, ended, is_running, put_x, read_x, Outcome, makes, sends, asks, after_dropping, goes_on, outcome, Sent, Private, End, at_limit, after_row, before_node_row, at_spot, private_by, private_to_spot, stops, with_first_row, with_first_sending}
use Rattle.beam_machine.specs.declared.process.Status.TheVariants.{Running}
use Rattle.std.specs.declared.alloc.AllocError.{AllocError}
use Rattle.beam_model.specs.Prelude.{Place}
use Rattle.beam_term.specs.Prelude.{TermValue}
use Rattle.beam_rows.specs.declared.request.Request.{Request}
use Rattle.beam_rows.specs.declared.request.Request.TheVariants.{Send, Ask, AskDropping, Sleep}
use Rattle.beam_rows.specs.Prelude.{asked, can_ask, LeadsTo, ClearRows, is_stopped, passes_after}
use Rattle.beam_rows.proofs.Clearing.{clear_further, passes_no_more}
use Rattle.beam_rows.proofs.Leading.{leads_further}
use Rattle.beam_step.specs.declared.cause.Cause.{Cause}
use Rattle.beam_step.specs.declared.row.Did.{Did}
use Rattle.beam_step.specs.declared.row.Did.TheVariants.{ARow, Nothing}
use Rattle.beam_step.specs.declared.cause.Cause.TheVariants.{AtLimit, AfterRow, BeforeNodeRow, AtSpot, WantOfMemory}
use Rattle.beam_step.specs.Slices.{rows_of, is_cut, IsCut, RowsComeTo, joined, is_send, Made, MadeMore, DoesRow, DoesRows, Responds}
use Rattle.beam_rows.proofs.AskedLoud.{asked_loud}

-- the row of a running process that doesn't stop before it, followed by m rows
row_before : (spots : List Place) (passes : Bool) (code : Code) (m : ℕ) (p : Process) (o : Outcome) → p.status ≡ Running → is_stopped spots passes p ≡ false
    → outcome code p ≡ o → private_to_spot spots passes code (suc m) p ≡ private_by (private_to_spot spots false code m) p o
row_before spots passes code m p o r clear e = at (is_running p.status) (is_stopped spots passes p) (ap is_running r) clear
  where
    at : (b s : Bool) → b ≡ true → s ≡ false
        → cond {A = Private} b (cond {A = Private} s (stops p at_spot) (private_by (private_to_spot spots false code m) p (outcome code p))) (stops p after_row)
        ≡ private_by (private_to_spot spots false code m) p o
    at true false h k = ap (private_by (private_to_spot spots false code m) p) e
    at true true h k = cc
    at false s h k = cc

joined_first : (count : ℕ) (sent : List Sent) (r : Private) → joined count sent (with_first_row r) ≡ joined (count + 1) sent r
joined_first count sent r =
    let counts : count + (r.count + 1) ≡ (count + 1) + r.count = omega arith in
    ap (λ n. record r { count = n; sent = sent ++ r.sent }) counts

joined_sending : (count : ℕ) (sent : List Sent) (x : Sent) (r : Private) → joined count sent (with_first_sending x r) ≡ joined (count + 1) (sent ++ x ∷ []) r
joined_sending count sent x r =
    let counts : count + (r.count + 1) ≡ (count + 1) + r.count = omega arith in
    ap (λ n. record r { count = n; sent = sent ++ (x ∷ r.sent) }) counts
    ∙ ap (λ l. record r { count = (count + 1) + r.count; sent = l }) (sym (append_assoc sent (x ∷ []) r.sent))

one_later : (spots : List Place) (passes : Bool) (code : Code) (p : Process) (count m : ℕ)
    → private_to_spot spots passes code ((count + 1) + m) p ≡ private_to_spot spots passes code (count + suc m) p
one_later spots passes code p count m =
    let counts : (count + 1) + m ≡ count + suc m = omega arith in
    ap (λ n. private_to_spot spots passes code n p) counts

made_more : (spots : List Place) (passes : Bool) (code : Code) (old new : Process) (sent : List Sent) → old.status ≡ Running → is_stopped spots passes old ≡ false
    → outcome code old ≡ makes new → MadeMore spots passes code old sent 1 sent new
made_more spots passes code old new sent r clear e p others count made m =
    one_later spots others code p count m
    ∙ (made (suc m)
    ∙ (ap (joined count sent) (row_before spots passes code m old (makes new) r clear e)
    ∙ joined_first count sent (private_to_spot spots false code m new)))

sent_more : (spots : List Place) (passes : Bool) (code : Code) (old new : Process) (sent : List Sent) (to : ℕ) (signal : Signal) → old.status ≡ Running
    → is_stopped spots passes old ≡ false → outcome code old ≡ sends new to signal → MadeMore spots passes code old sent 1 (sent ++ record { to = to; signal = signal } ∷ []) new
sent_more spots passes code old new sent to signal r clear e p others count made m =
    one_later spots others code p count m
    ∙ (made (suc m)
    ∙ (ap (joined count sent) (row_before spots passes code m old (sends new to signal) r clear e)
    ∙ joined_sending count sent (record { to = to; signal = signal }) (private_to_spot spots false code m new)))

asks_stops : (rest : Process → Private) (p : Process) (r : Request) → is_send r ≡ false → can_ask p r ≡ true → private_by rest p (asked p r) ≡ stops p before_node_row
asks_stops rest p (Send to next) n h = cc
asks_stops rest p (Ask native arity after) n h = refl
asks_stops rest p (AskDropping n' native arity) n h = at (dropped n' p p.frames) h
  where
    at : (o : Option Process) → is_some o ≡ true → private_by rest p (after_dropping p o (λ q. asks q native arity Return)) ≡ stops p before_node_row
    at None h = cc
    at (Some q) h = refl
asks_stops rest p (Sleep n' at next) n h = refl

node_row : (spots : List Place) (passes : Bool) (code : Code) (p : Process) (r : Request) → p.status ≡ Running → is_stopped spots passes p ≡ false
    → outcome code p ≡ asked p r → can_ask p r ≡ true → is_send r ≡ false → (m : ℕ) → private_to_spot spots passes code (m + 1) p ≡ stops p before_node_row
node_row spots passes code p r runs clear e h n m =
    rw add-one (row_before spots passes code m p (asked p r) runs clear e ∙ asks_stops (private_to_spot spots false code m) p r n h)

-- ---- where the rows end

-- n rows that were all executed are what n rows come to
pub at_its_limit : (spots : List Place) (passes : Bool) (code : Code) (p q : Process) (count : ℕ) (sent : List Sent) (still : Bool) → Made spots passes code p count sent still q
    → record { count = count; process = q; sent = sent; end = at_limit } ≡ private_to_spot spots passes code count p
at_its_limit spots passes code p q count sent still made =
    let whole : private_to_spot spots passes code (count + 0) p ≡ joined count sent (stops q at_limit) = made 0 in
    let counts : count + 0 ≡ count = omega arith in
    sym (sym (ap (λ n. private_to_spot spots passes code n p) counts)
    ∙ (whole
    ∙ (ap (λ l. record { count = count + 0; process = q; sent = l; end = at_limit }) (append-nil sent)
    ∙ ap (λ n. record { count = n; process = q; sent = sent; end = at_limit }) counts)))

-- rows that end after `count`, before the limit, are what `rows` come to
pub stopped : (spots : List Place) (passes : Bool) (code : Code) (p q : Process) (count rows : ℕ) (sent : List Sent) (still : Bool) (end : End)
    → Made spots passes code p count sent still q → count < rows → ((m : ℕ) → private_to_spot spots still code (m + 1) q ≡ stops q end)
    → record { count = count; process = q; sent = sent; end = end } ≡ private_to_spot spots passes code rows p
stopped spots passes code p q count rows sent still end made l stop =
    let more : count + ((rows - (count + 1)) + 1) ≡ rows = omega arith in
    let counts : count + 0 ≡ count = omega arith in
    sym (sym (ap (λ n. private_to_spot spots passes code n p) more)
    ∙ (made ((rows - (count + 1)) + 1)
    ∙ (ap (joined count sent) (stop (rows - (count + 1)))
    ∙ (ap (λ l. record { count = count + 0; process = q; sent = l; end = end }) (append-nil sent)
    ∙ ap (λ n. record { count = n; process = q; sent = sent; end = end }) counts))))

pub halted : (spots : List Place) (passes : Bool) (code : Code) (q : Process) → is_running q.status ≡ false → (m : ℕ) → private_to_spot spots passes code (m + 1) q ≡ stops q after_row
halted spots passes code q h m = rw add-one (at (is_running q.status) h)
  where
    at : (b : Bool) → b ≡ false
        → cond {A = Private} b (cond {A = Private} (is_stopped spots passes q) (stops q at_spot) (private_by (private_to_spot spots false code m) q (outcome code q))) (stops q after_row)
        ≡ stops q after_row
    at true h = cc
    at false h = refl

at_a_spot : (spots : List Place) (passes : Bool) (code : Code) (q : Process) → q.status ≡ Running → is_stopped spots passes q ≡ true
    → (m : ℕ) → private_to_spot spots passes code (m + 1) q ≡ stops q at_spot
at_a_spot spots passes code q runs stopped m = rw add-one (at (is_running q.status) (is_stopped spots passes q) (ap is_running runs) stopped)
  where
    at : (b s : Bool) → b ≡ true → s ≡ true
        → cond {A = Private} b (cond {A = Private} s (stops q at_spot) (private_by (private_to_spot spots false code m) q (outcome code q))) (stops q after_row)
        ≡ stops q at_spot
    at true true h k = refl
    at true false h k = cc
    at false s h k = cc

-- rows that end after `count`, where the next row wasn't executed and left the process and the signals as they were
stopped_as : (spots : List Place) (passes : Bool) (code : Code) (p q r : Process) (count rows : ℕ) (sent after : List Sent) (still : Bool) (end : End) → r ≡ q → after ≡ sent
    → Made spots passes code p count sent still q → count < rows → ((m : ℕ) → private_to_spot spots still code (m + 1) q ≡ stops q end)
    → record { count = count; process = r; sent = after; end = end } ≡ private_to_spot spots passes code rows p
stopped_as spots passes code p q r count rows sent after still end e f made l stop =
    ap (λ (t : Process). record { count = count; process = t; sent = after; end = end }) e
    ∙ (ap (λ (l : List Sent). record { count = count; process = q; sent = l; end = end }) f
    ∙ stopped spots passes code p q count rows sent still end made l stop)

cut_as : (spots : List Place) (passes : Bool) (code : Code) (p q r : Process) (count rows : ℕ) (sent after : List Sent) (still : Bool) → r ≡ q → after ≡ sent
    → Made spots passes code p count sent still q → count < rows → is_running q.status ≡ true → is_quiet code q ≡ false
    → IsCut spots passes code rows p (record { count = count; process = r; sent = after; end = at_limit })
cut_as spots passes code p q r count rows sent after still e f made l runs loud = record {
  short = l;
  done = ap (λ (t : Process). record { count = count; process = t; sent = after; end = at_limit }) e
      ∙ (ap (λ (l : List Sent). record { count = count; process = q; sent = l; end = at_limit }) f
      ∙ at_its_limit spots passes code p q count sent still made);
  runs = ap (λ (t : Process). is_running t.status) e ∙ runs;
  loud = ap (λ (t : Process). is_quiet code t) e ∙ loud;
}

pub all_done : (spots : List Place) (passes : Bool) (code : Code) (p q : Process) (count rows : ℕ) (sent : List Sent) (still : Bool) → count ≤ rows → rows ≤ count
    → Made spots passes code p count sent still q
    → record { count = rows; process = q; sent = sent; end = at_limit } ≡ private_to_spot spots passes code rows p
all_done spots passes code p q count rows sent still l m made =
    let same : count ≡ rows = omega arith in
    subst (λ n. record { count = n; process = q; sent = sent; end = at_limit } ≡ private_to_spot spots passes code n p) same
    (at_its_limit spots passes code p q count sent still made)

-- ---- the requests of rows

nothing : (old new : Process) (before after : List Sent) (r : Request) → Responds old before r (Ok Nothing) new after → (new ≡ old) × (after ≡ before) × (is_send r ≡ false)
nothing old new before after (Send to next) h = h
nothing old new before after (Ask native arity ways) h = h
nothing old new before after (AskDropping n native arity) h = h
nothing old new before after (Sleep n at next) h = h

refused : (old new : Process) (before after : List Sent) (r : Request) (e : AllocError) → Responds old before r (Err e) new after → (new ≡ old) × (after ≡ before)
refused old new before after (Send to next) e h = h
refused old new before after (Ask native arity ways) e h = h
refused old new before after (AskDropping n native arity) e h = h
refused old new before after (Sleep n at next) e h = h

sent_row : (spots : List Place) (passes : Bool) (code : Code) (old new : Process) (before after : List Sent) (r : Request) → old.status ≡ Running
    → is_stopped spots passes old ≡ false → outcome code old ≡ asked old r → Responds old before r (Ok ARow) new after → MadeMore spots passes code old before 1 after new
sent_row spots passes code old new before after (Send to next) runs clear e h p others count made =
    subst (λ q. Made spots others code p (count + 1) after false q) (sym h.0)
    (subst (λ l. Made spots others code p (count + 1) l false (goes_on (put_x old 0 (read_x old.x 1)) next)) (sym h.1)
    (sent_more spots passes code old (goes_on (put_x old 0 (read_x old.x 1)) next) before to (Message (read_x old.x 1)) runs clear e p others count made))
sent_row spots passes code old new before after (Ask native arity ways) runs clear e h p others count made = absurd h
sent_row spots passes code old new before after (AskDropping n native arity) runs clear e h p others count made = absurd h
sent_row spots passes code old new before after (Sleep n at next) runs clear e h p others count made = absurd h

asked_row : (spots : List Place) (passes : Bool) (code : Code) (old new : Process) (before after : List Sent) (r : Request) (result : Result Did AllocError)
    → old.status ≡ Running → is_stopped spots passes old ≡ false → outcome code old ≡ asked old r → can_ask old r ≡ true → Responds old before r result new after
    → DoesRow spots passes code old before result new after
asked_row spots passes code old new before after r (Ok ARow) runs clear e can h = sent_row spots passes code old new before after r runs clear e h
asked_row spots passes code old new before after r (Ok Nothing) runs clear e can h =
    let k = nothing old new before after r h in
    (k.0, k.1, node_row spots passes code old r runs clear e can k.2)
asked_row spots passes code old new before after r (Err x) runs clear e can h =
    let k = refused old new before after r x h in
    (k.0, k.1, asked_loud code old r e can)

-- ---- private rows, after others

made_rows : (spots : List Place) (passes : Bool) (code : Code) (n : ℕ) (p q before : Process) (with_first_row : Bool) (count : ℕ) (sent : List Sent) → LeadsTo code n p q
    → ClearRows code spots passes n p → Made spots with_first_row code before count sent passes p → Made spots with_first_row code before (count + n) sent (passes_after passes n) q
made_rows spots passes code zero p q before with_first_row count sent h clear made =
    let counts : count ≡ count + 0 = omega arith in
    subst (λ k. Made spots with_first_row code before k sent passes q) counts (subst (λ (t : Process). Made spots with_first_row code before count sent passes t) (sym h) made)
made_rows spots passes code (suc n) p q before with_first_row count sent h clear made =
    let counts : (count + 1) + n ≡ count + suc n = omega arith in
    subst (λ k. Made spots with_first_row code before k sent false q) counts
    (subst (λ b. Made spots with_first_row code before ((count + 1) + n) sent b q) (passes_no_more n)
    (made_rows spots false code n h.1.0 q before with_first_row (count + 1) sent h.1.1.1 (clear.1 h.1.0 h.1.1.0)
    (made_more spots passes code p h.1.0 sent h.0 clear.0 h.1.1.0 before with_first_row count made)))

begun : (spots : List Place) (passes : Bool) (code : Code) (p : Process) → Made spots passes code p 0 [] passes p
begun spots passes code p m =
    let counts : 0 + m ≡ m = omega arith in
    let more : (private_to_spot spots passes code m p).count ≡ 0 + (private_to_spot spots passes code m p).count = omega arith in
    ap (λ k. private_to_spot spots passes code k p) counts ∙ ap (λ k. record (private_to_spot spots passes code m p) { count = k }) more

private_made : (spots : List Place) (passes : Bool) (code : Code) (n : ℕ) (p q : Process) → LeadsTo code n p q → ClearRows code spots passes n p
    → Made spots passes code p n [] (passes_after passes n) q
private_made spots passes code n p q h clear =
    let counts : 0 + n ≡ n = omega arith in
    subst (λ k. Made spots passes code p k [] (passes_after passes n) q) counts (made_rows spots passes code n p q p passes 0 [] h clear (begun spots passes code p))

pub rows_at_limit : (spots : List Place) (passes : Bool) (code : Code) (n count : ℕ) (p q : Process) (before : List Sent) → LeadsTo code count p q → ClearRows code spots passes count p
    → count ≡ n → DoesRows spots passes code n p before count (Some AtLimit) q before
rows_at_limit spots passes code n count p q before h clear e = (
  omega arith,
  refl,
  at_its_limit spots passes code p q count [] (passes_after passes count) (private_made spots passes code count p q h clear) ∙ ap (λ k. private_to_spot spots passes code k p) e,
)

pub rows_after_one : (spots : List Place) (passes : Bool) (code : Code) (n count : ℕ) (p q : Process) (before : List Sent) → LeadsTo code count p q → ClearRows code spots passes count p
    → count < n → is_running q.status ≡ false → DoesRows spots passes code n p before count (Some AfterRow) q before
rows_after_one spots passes code n count p q before h clear l halts =
    let still = passes_after passes count in
    (omega arith, refl, stopped spots passes code p q count n [] still after_row (private_made spots passes code count p q h clear) l (halted spots still code q halts))

-- rows after the last of which the process doesn't run, as many as were asked for or fewer
pub rows_after : (spots : List Place) (passes : Bool) (code : Code) (n count : ℕ) (p q : Process) (before : List Sent) → LeadsTo code count p q → ClearRows code spots passes count p
    → count ≤ n → is_running q.status ≡ false → DoesRows spots passes code n p before count (Some (if count == n then AtLimit else AfterRow)) q before
rows_after spots passes code n count p q before h clear l halts = at (count == n) refl
  where
    at : (b : Bool) → (count == n) ≡ b → DoesRows spots passes code n p before count (Some (if b then AtLimit else AfterRow)) q before
    at true e = rows_at_limit spots passes code n count p q before h clear (eqb-true count n e)
    at false e =
        let less : count < n = grind (arith, nat_tests) in
        rows_after_one spots passes code n count p q before h clear less halts

-- rows of which the last ends the process
pub rows_ending : (spots : List Place) (passes : Bool) (code : Code) (n count : ℕ) (p q r : Process) (before : List Sent) (reason value : TermValue) → LeadsTo code count p q
    → ClearRows code spots passes count p → count < n → q.status ≡ Running → outcome code q ≡ makes (ended q reason value) → is_stopped spots (passes_after passes count) q ≡ false
    → r ≡ ended q reason value → DoesRows spots passes code n p before (count + 1) (Some (if count + 1 == n then AtLimit else AfterRow)) r before
rows_ending spots passes code n count p q r before reason value h clear l runs e clear_here is =
    let done : outcome code q ≡ makes r = e ∙ ap makes (sym is) in
    rows_after spots passes code n (count + 1) p r before (leads_further code count p q r h runs done) (clear_further code spots passes count p q clear h clear_here)
    (omega arith) (ap (λ (t : Process). is_running t.status) is)

pub rows_at_spot : (spots : List Place) (passes : Bool) (code : Code) (n count : ℕ) (p q : Process) (before : List Sent) → LeadsTo code count p q → ClearRows code spots passes count p
    → count < n → q.status ≡ Running → is_stopped spots (passes_after passes count) q ≡ true → DoesRows spots passes code n p before count (Some AtSpot) q before
rows_at_spot spots passes code n count p q before h clear l runs stops =
    let still = passes_after passes count in
    (omega arith, refl, stopped spots passes code p q count n [] still at_spot (private_made spots passes code count p q h clear) l (at_a_spot spots still code q runs stops))

-- the next row was refused memory, which isn't quiet, and the process is as before that row
pub rows_cut : (spots : List Place) (passes : Bool) (code : Code) (n count : ℕ) (p q r : Process) (before after : List Sent) → LeadsTo code count p q → ClearRows code spots passes count p
    → after ≡ before → r ≡ q → count < n → q.status ≡ Running → is_quiet code q ≡ false → DoesRows spots passes code n p before count (Some WantOfMemory) r after
rows_cut spots passes code n count p q r before after h clear same is l runs loud =
    let made = private_made spots passes code count p q h clear in
    (omega arith, same, cut_as spots passes code p q r count n [] [] (passes_after passes count) is refl made l (ap is_running runs) loud)

pub rows_asking : (spots : List Place) (passes : Bool) (code : Code) (n count : ℕ) (p q r : Process) (before after : List Sent) (request : Request) → LeadsTo code count p q
    → ClearRows code spots passes count p → count < n → q.status ≡ Running → outcome code q ≡ asked q request → can_ask q request ≡ true
    → is_stopped spots (passes_after passes count) q ≡ false → Responds q before request (Ok Nothing) r after
    → DoesRows spots passes code n p before count (Some BeforeNodeRow) r after
rows_asking spots passes code n count p q r before after request h clear l runs e can clear_here responds =
    let still = passes_after passes count in
    let row = asked_row spots still code q r before after request (Ok Nothing) runs clear_here e can responds in
    let made = private_made spots passes code count p q h clear in
    (omega arith, row.1, stopped_as spots passes code p q r count n [] [] still before_node_row row.0 refl made l row.2)

pub rows_refused : (spots : List Place) (passes : Bool) (code : Code) (n count : ℕ) (p q r : Process) (before after : List Sent) (request : Request) (x : AllocError)
    → LeadsTo code count p q → ClearRows code spots passes count p → count < n → q.status ≡ Running → outcome code q ≡ asked q request → can_ask q request ≡ true
    → is_stopped spots (passes_after passes count) q ≡ false → Responds q before request (Err x) r after
    → DoesRows spots passes code n p before count (Some WantOfMemory) r after
rows_refused spots passes code n count p q r before after request x h clear l runs e can clear_here responds =
    let row = asked_row spots (passes_after passes count) code q r before after request (Err x) runs clear_here e can responds in
    rows_cut spots passes code n count p q r before after h clear row.1 row.0 l runs row.2

pub rows_sending : (spots : List Place) (passes : Bool) (code : Code) (n count : ℕ) (p q r : Process) (before after : List Sent) (request : Request) → LeadsTo code count p q
    → ClearRows code spots passes count p → count < n → q.status ≡ Running → outcome code q ≡ asked q request → can_ask q request ≡ true
    → is_stopped spots (passes_after passes count) q ≡ false → Responds q before request (Ok ARow) r after
    → DoesRows spots passes code n p before (count + 1) None r after
rows_sending spots passes code n count p q r before after request h clear l runs e can clear_here responds = (
  omega arith,
  omega arith,
  λ others with_first_row m made.
      let counts : (m + count) + 1 ≡ m + (count + 1) = omega arith in
      let rows = made_rows spots passes code count p q others with_first_row m before h clear made in
      subst (λ k. Made spots with_first_row code others k after false r) counts
      (asked_row spots (passes_after passes count) code q r before after request (Ok ARow) runs clear_here e can responds others with_first_row (m + count) rows),
)

come_after : (spots : List Place) (passes still : Bool) (code : Code) (others p q : Process) (count more n limit : ℕ) (before after : List Sent) (end : End)
    → Made spots passes code others count before still p → after ≡ before → count + n ≡ limit
    → record { count = more; process = q; sent = []; end = end } ≡ private_to_spot spots still code n p
    → record { count = count + more; process = q; sent = after; end = end } ≡ private_to_spot spots passes code limit others
come_after spots passes still code others p q count more n limit before after end made same counts e =
    ap (λ (l : List Sent). record { count = count + more; process = q; sent = l; end = end }) (same ∙ sym (append-nil before))
    ∙ (ap (joined count before) e
    ∙ (sym (made n)
    ∙ ap (λ k. private_to_spot spots passes code k others) counts))

-- the last batch of rows, after others, completes what all come to
pub rows_in_all : (spots : List Place) (passes still : Bool) (code : Code) (others p q : Process) (count more limit : ℕ) (before after : List Sent) (end : Cause)
    → Made spots passes code others count before still p → count ≤ limit → DoesRows spots still code (limit - count) p before more (Some end) q after
    → RowsComeTo spots passes code limit others (rows_of q after (count + more) end) (is_cut end)
rows_in_all spots passes still code others p q count more limit before after end made l h =
    let counts : count + (limit - count) ≡ limit = omega arith in
    go end counts h
  where
    go : (end : Cause) → count + (limit - count) ≡ limit → DoesRows spots still code (limit - count) p before more (Some end) q after
        → RowsComeTo spots passes code limit others (rows_of q after (count + more) end) (is_cut end)
    go AtLimit counts h = come_after spots passes still code others p q count more (limit - count) limit before after at_limit made h.1 counts h.2
    go AfterRow counts h = come_after spots passes still code others p q count more (limit - count) limit before after after_row made h.1 counts h.2
    go BeforeNodeRow counts h = come_after spots passes still code others p q count more (limit - count) limit before after before_node_row made h.1 counts h.2
    go AtSpot counts h = come_after spots passes still code others p q count more (limit - count) limit before after at_spot made h.1 counts h.2
    go WantOfMemory counts h =
        let short : more < limit - count = h.2.short in
        record {
          short = omega arith;
          done = come_after spots passes still code others p q count more more (count + more) before after at_limit made h.1 refl h.2.done;
          runs = h.2.runs;
          loud = h.2.loud;
        }
