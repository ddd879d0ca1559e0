-- Rows that are to be committed are those of a slice which can be committed.
use Rattle.std.proofs.Common.{◌≡◌, ◌≢◌, ℕ, zero, suc, ◌+◌, ◌<◌, ◌≤◌, ◌==◌, ◌&&◌, ◌||◌, Bool, true, false, cond, nat_lt, List, [], ◌∷◌, Option, Some, None, Ok, refl, sym, ap, subst, ◌∙◌, arith, is_some, length, nat_eq, slice_get}
use Rattle.std.proofs.lemmas.Bool.Decides.{nat_tests}
use Rattle.std.specs.Option.{option_eq}
use Rattle.std.proofs.lemmas.Bool.{and_parts}
use Rattle.beam_lemmas.proofs.Tests.{itself}
use Rattle.beam_model.specs.Prelude.{Place, is_same_place, same_text}
use Rattle.beam_machine.specs.declared.debug.DebugEvent.TheVariants.{Node as NodeEvent}
use Rattle.beam_machine.specs.declared.debug.DebugReply.{DebugReply}
use Rattle.beam_machine.specs.declared.debug.DebugReply.TheVariants.{Held, Node as NodeReply}
use Rattle.beam_machine.specs.declared.event.Event.TheVariants.{Steps}
use Rattle.beam_machine.specs.declared.event.Reply.TheVariants.{Ran}
use Rattle.beam_machine.specs.declared.event.Then.{Then}
use Rattle.beam_machine.specs.declared.event.Then.TheVariants.{GoesOn, Waits, Ended}
use Rattle.beam_machine.specs.Prelude.{Code, Instance, Debugged, DebugAnswer, DebugNext, debug_next, debug_cut_event, DebugAnswers, Private, End, at_limit, after_row, before_node_row, at_spot, stops, Process, is_running, then_of, effective_rows, live_process, process_of, View}
use Rattle.beam_laws.proofs.Ending.{alive_is}
use Rattle.beam_codesrv.specs.Homes.{number_of}
use Rattle.beam_codesrv.specs.Numbers as codesrv
use Rattle.beam_laws.specs.Prelude.{IsEarlierCode, same_number, same_numbers, Origin, IsOut, slice_of, rows_at_end, rows_of_event}
use Rattle.beam_laws.proofs.CanCommit.{can_commit}
use Rattle.beam_laws.proofs.Committing.{slice_rows, slice_at_spot, slice_node_row}
use Rattle.beam_laws.proofs.Kinship.{is_same, same_itself}
use Rattle.beam_laws.proofs.SpotEnds.{ends_at_limit, ends_after_row, ends_before_node_row, ends_at_spot}
use Rattle.beam_debug.specs.Prelude.{AreSlices}
use Rattle.beam_step.specs.Slices.{RowsComeTo, capped}
use Rattle.beam_shared.specs.declared.checked_out.CheckoutEntry.{CheckoutEntry}
use Rattle.beam_shared.specs.Prelude.{event_of, CodeContext, FinishedSlice, IsFinishedSlice, context_of, context_in, IsHanded, is_alike, same_places}

-- ---- a slice's rows

capped_few : (n : ℕ) → capped n ≤ 4000
capped_few n = by (nat_lt 4000 n) refl
  where
    by : (b : Bool) → nat_lt 4000 n ≡ b → cond b 4000 n ≤ 4000
    by true e = omega arith
    by false e = grind (arith, nat_tests, e)

-- what the rows of an origin come to is a slice of some limit, also where memory was refused
slice_by : (o : Origin) (n : ℕ) (rows : Private) (cut : Bool) → n ≤ 4000 → RowsComeTo o.spots o.passes o.code n o.process rows cut
    → (limit : ℕ) × (limit ≤ 4000) × (rows ≡ slice_of o limit)
slice_by o n rows false few is = (n, few, is)
slice_by o n rows true few is =
    let short : rows.count < n = is.short in
    (rows.count, omega (arith, few, short), is.done)

pub comes_of_slice : (f : FinishedSlice) → IsFinishedSlice f → (limit : ℕ) × (limit ≤ 4000) × (f.rows ≡ slice_of f.origin limit)
comes_of_slice f (limit, comes) = slice_by f.origin (capped limit) f.rows f.cut (capped_few limit) comes

few_by : (o : Origin) (n : ℕ) (end : End) → (slice_of o n).end ≡ end → (slice_of o n).count ≤ n
few_by o n at_limit e =
    let same : (slice_of o n).count ≡ n = ends_at_limit o n e in
    omega (arith, same)
few_by o n after_row e = (ends_after_row o n e).0
few_by o n before_node_row e =
    let less : (slice_of o n).count < n = (ends_before_node_row o n e).0 in
    omega (arith, less)
few_by o n at_spot e =
    let less : (slice_of o n).count < n = (ends_at_spot o n e).0 in
    omega (arith, less)

pub few_rows : (o : Origin) (n : ℕ) (rows : Private) → rows ≡ slice_of o n → n ≤ 4000 → rows.count ≤ 4000
few_rows o n rows is few =
    let less : (slice_of o n).count ≤ n = few_by o n (slice_of o n).end refl in
    let same : rows.count ≡ (slice_of o n).count = ap (λ (r : Private). r.count) is in
    omega (arith, less, same, few)

-- a process that waits or has ended executes no rows
ran_if : (b : Bool) (x y : Private) → rows_of_event y ≡ 0 → rows_of_event (cond b x y) ≢ 0 → b ≡ true
ran_if true x y none some = refl
ran_if false x y none some = absurd (some none)

ran_in : (o : Origin) (n : ℕ) → rows_of_event (slice_of o n) ≢ 0 → is_running o.process.status ≡ true
ran_in o zero some = absurd (some refl)
ran_in o (suc n) some = ran_if (is_running o.process.status) _ (stops o.process after_row) refl some

pub it_ran : (o : Origin) (n : ℕ) (rows : Private) → rows ≡ slice_of o n → rows_of_event rows ≢ 0 → is_running o.process.status ≡ true
it_ran o n rows is some = ran_in o n (subst (λ r. rows_of_event r ≢ 0) is some)

-- ---- code and break spots

same_one : (a b : Option Instance) → option_eq nat_eq (number_of a) (number_of b) ≡ same_number a b
same_one None None = refl
same_one None (Some j) = refl
same_one (Some i) None = refl
same_one (Some i) (Some j) = refl

and_in_turn : (a b c d : Bool) → ((a && (b && c)) && d) ≡ (a && (b && (c && d)))
and_in_turn false b c d = refl
and_in_turn true false c d = refl
and_in_turn true true c d = refl

same_code : (code others : Code) → codesrv.same_numbers code others ≡ same_numbers code others
same_code [] [] = refl
same_code [] (w ∷ others) = refl
same_code (v ∷ code) [] = refl
same_code (v ∷ code) (w ∷ others) =
    and_in_turn (same_text v.name w.name) (option_eq nat_eq (number_of v.current) (number_of w.current)) (option_eq nat_eq (number_of v.old) (number_of w.old))
    (codesrv.same_numbers code others)
    ∙ (ap (λ b. same_text v.name w.name && (b && (option_eq nat_eq (number_of v.old) (number_of w.old) && codesrv.same_numbers code others))) (same_one v.current w.current)
    ∙ (ap (λ b. same_text v.name w.name && (same_number v.current w.current && (b && codesrv.same_numbers code others))) (same_one v.old w.old)
    ∙ ap (λ b. same_text v.name w.name && (same_number v.current w.current && (same_number v.old w.old && b))) (same_code code others)))

place_is : (a b : Place) → is_same_place a b ≡ true → a ≡ b
place_is a b e =
    let parts = and_parts (a.instance == b.instance) (a.at == b.at) e in
    let instance : a.instance ≡ b.instance = grind (arith, nat_tests, parts.0) in
    let at : a.at ≡ b.at = grind (arith, nat_tests, parts.1) in
    ap (λ n. record { instance = n; at = a.at }) instance ∙ ap (λ n. record { instance = b.instance; at = n }) at

places_are : (spots others : List Place) → same_places spots others ≡ true → spots ≡ others
places_are [] [] e = refl
places_are [] (b ∷ others) e = absurd (cc e)
places_are (a ∷ spots) [] e = absurd (cc e)
places_are (a ∷ spots) (b ∷ others) e =
    let parts = and_parts (is_same_place a b) (same_places spots others) e in
    ap (λ p. p ∷ spots) (place_is a b parts.0) ∙ ap (λ ps. b ∷ ps) (places_are spots others parts.1)

place_itself : (a : Place) → is_same_place a a ≡ true
place_itself a = ap (λ b. b && (a.at == a.at)) (itself a.instance) ∙ itself a.at

places_itself : (spots : List Place) → same_places spots spots ≡ true
places_itself [] = refl
places_itself (a ∷ spots) = ap (λ b. b && same_places spots spots) (place_itself a) ∙ places_itself spots

pub ended_places : (spots others : List Place) (r : Bool) → length spots ≡ 0 → r ≡ (length others == 0) → r ≡ same_places spots others
ended_places [] [] r none left = left
ended_places [] (b ∷ rest) r none left = left ∙ grind (arith, nat_tests)
ended_places (a ∷ rest) others r none left = absurd (omega (arith, none))

alike_is : (d : Debugged) (context : CodeContext) → IsEarlierCode context.code d.node → is_alike d context ≡ true → context_in d ≡ context
alike_is d context kin e =
    let parts = and_parts (codesrv.same_numbers context.code d.node.code) (same_places context.spots d.spots) e in
    let code : context.code ≡ d.node.code = is_same context.code d.node kin (sym (same_code context.code d.node.code) ∙ parts.0) in
    let spots : context.spots ≡ d.spots = places_are context.spots d.spots parts.1 in
    ap (λ c. record { code = c; spots = d.spots }) (sym code) ∙ ap (λ ps. record { code = context.code; spots = ps }) (sym spots)

itself_alike : (d : Debugged) → is_alike d (context_in d) ≡ true
itself_alike d =
    ap (λ b. b && same_places d.spots d.spots) (same_code d.node.code d.node.code ∙ same_itself d.node.code) ∙ places_itself d.spots

not_alike : (d : Debugged) (context : CodeContext) → is_alike d context ≡ false → context_in d ≢ context
not_alike d context e same =
    let is : is_alike d context ≡ true = subst (λ c. is_alike d c ≡ true) same (itself_alike d) in
    absurd (cc (is, e))

some_is : (a b : Origin) (o : Option Origin) → o ≡ Some a → o ≡ Some b → a ≡ b
some_is a b o e f = cc (e, f)

module _ (d : Debugged) (changes : ℕ) (handed : List Origin) (e : CheckoutEntry) (o : Origin) (i : IsHanded d changes handed e)
    (there : slice_get handed e.serial ≡ Some o) where
  own : i.origin ≡ o
  own = some_is i.origin o (slice_get handed e.serial) i.handed_out there

  same_by : (context : CodeContext) (unchanged alike : Bool) → context ≡ context_of o → (e.changes == changes) ≡ unchanged → is_alike d context ≡ alike
      → (unchanged || alike) ≡ true → context_in d ≡ context
  same_by context true alike over same tells holds =
      let now : e.changes ≡ changes = grind (arith, nat_tests, same) in
      i.context now ∙ (ap context_of own ∙ sym over)
  same_by context false alike over same tells holds =
      let kin : IsEarlierCode context.code d.node = subst (λ (c : CodeContext). IsEarlierCode c.code d.node) (ap context_of own ∙ sym over) i.kin in
      alike_is d context kin (tells ∙ holds)

  pub context_same : (context : CodeContext) (b : Bool) → context ≡ context_of o → b ≡ ((e.changes == changes) || is_alike d context) → b ≡ true → context_in d ≡ context
  context_same context b over is holds = same_by context (e.changes == changes) (is_alike d context) over refl refl (sym is ∙ holds)

  differs_by : (context : CodeContext) (unchanged alike : Bool) → is_alike d context ≡ alike → (unchanged || alike) ≡ false → context_in d ≢ context
  differs_by context true alike tells fails = absurd (cc fails)
  differs_by context false alike tells fails = not_alike d context (tells ∙ fails)

  pub context_differs : (context : CodeContext) (b : Bool) → b ≡ ((e.changes == changes) || is_alike d context) → b ≡ false → context_in d ≢ context
  context_differs context b is fails = differs_by context (e.changes == changes) (is_alike d context) refl (sym is ∙ fails)

  slices_by : (pid : ℕ) (rows : Private) (limit : ℕ) (q : Option Process) → o.pid ≡ pid → live_process d.node.processes pid ≡ q → is_some q ≡ true
      → context_in d ≡ context_of o → rows ≡ slice_of o limit → rows_of_event rows ≢ 0 → AreSlices d pid rows
  slices_by pid rows limit None of at lives same done some = absurd (cc lives)
  slices_by pid rows limit (Some p) of at lives same done some =
      let found = alive_is (process_of d.node.processes pid) p at in
      let code : d.node.code ≡ o.code = ap (λ (c : CodeContext). c.code) same in
      let spots : d.spots ≡ o.spots = ap (λ (c : CodeContext). c.spots) same in
      let kin : IsEarlierCode o.code d.node = subst (λ (x : Origin). IsEarlierCode x.code d.node) own i.kin in
      record {
        origin = o;
        own = of;
        runs = it_ran o limit rows done some;
        limit = limit;
        done = done;
        now = p;
        can = can_commit d o p (subst (λ x. IsOut d x) own i.is_out) (ap (process_of d.node.processes) of ∙ found.0) found.1 kin
            (ap (same_numbers o.code) code ∙ same_itself o.code) spots;
      }

  pub are_slices : (pid : ℕ) (rows : Private) (limit : ℕ) → o.pid ≡ pid → is_some (live_process d.node.processes pid) ≡ true → context_in d ≡ context_of o
      → rows ≡ slice_of o limit → rows_of_event rows ≢ 0 → AreSlices d pid rows
  are_slices pid rows limit of lives same done some = slices_by pid rows limit (live_process d.node.processes pid) of refl lives same done some

-- ---- the event as which the rows are entered

granted_by : (n : ℕ) (b : Bool) → cond b n n ≡ n
granted_by n true = refl
granted_by n false = refl

all_granted : (n : ℕ) (then : Then) → effective_rows n n then ≡ n
all_granted n GoesOn = granted_by n (nat_lt 0 n && nat_lt n n)
all_granted n Waits = refl
all_granted n (Ended reason value) = refl

abbrev Says : Debugged → ℕ → ℕ → DebugReply View → Type 0
Says d pid m reply = (debug_next d (NodeEvent (Steps pid m))).answer ≡ Ok reply

reply_is : (a : DebugAnswer) (x y : DebugReply View) → a ≡ Ok x → a ≡ Ok y → y ≡ x
reply_is a x y e f = cc (e, f)

cut_ran : (d : Debugged) (pid m : ℕ) (reply : DebugReply View) (then : Then) → Says d pid m reply → Says d pid m (NodeReply (Ran m then))
    → debug_cut_event (NodeEvent (Steps pid m)) (Ok reply) ≡ NodeEvent (Steps pid m)
cut_ran d pid m reply then e f =
    let is : NodeReply (Ran m then) ≡ reply = reply_is (debug_next d (NodeEvent (Steps pid m))).answer reply (NodeReply (Ran m then)) e f in
    subst (λ r. debug_cut_event (NodeEvent (Steps pid m)) (Ok r) ≡ NodeEvent (Steps pid m)) is (ap (λ n. NodeEvent (Steps pid n)) (all_granted m then))

cut_held : (d : Debugged) (pid m count : ℕ) (reply : DebugReply View) → Says d pid m reply → Says d pid m (Held count)
    → debug_cut_event (NodeEvent (Steps pid m)) (Ok reply) ≡ NodeEvent (Steps pid m)
cut_held d pid m count reply e f =
    let is : Held count ≡ reply = reply_is (debug_next d (NodeEvent (Steps pid m))).answer reply (Held count) e f in
    subst (λ r. debug_cut_event (NodeEvent (Steps pid m)) (Ok r) ≡ NodeEvent (Steps pid m)) is refl

module _ (d : Debugged) (pid : ℕ) (rows : Private) (reply : DebugReply View) (s : AreSlices d pid rows) (says : Says d pid (rows_of_event rows) reply) where
  says_of : (n : DebugNext) (m : ℕ) (r : DebugReply View) → rows_of_event rows ≡ m → debug_next d (NodeEvent (Steps s.origin.pid m)) ≡ n → n.answer ≡ Ok r → Says d pid (rows_of_event rows) r
  says_of n m r count is answer =
      subst (λ k. Says d pid k r) (sym count) (subst (λ p. Says d p m r) s.own (ap (λ (n : DebugNext). n.answer) is ∙ answer))

  cut_by : (end : End) → rows.end ≡ end → debug_cut_event (event_of pid rows) (Ok reply) ≡ event_of pid rows
  cut_by at_limit e =
      let count : rows_of_event rows ≡ rows.count = ap (λ x. rows.count + rows_at_end x) e ∙ omega arith in
      let ran = says_of _ rows.count (NodeReply (Ran rows.count (then_of rows.process.status))) count (slice_rows d s.origin s.limit s.now rows s.done s.can s.runs) refl in
      cut_ran d pid (rows_of_event rows) reply (then_of rows.process.status) says
      (subst (λ k. Says d pid (rows_of_event rows) (NodeReply (Ran k (then_of rows.process.status)))) (sym count) ran)
  cut_by after_row e =
      let count : rows_of_event rows ≡ rows.count = ap (λ x. rows.count + rows_at_end x) e ∙ omega arith in
      let ran = says_of _ rows.count (NodeReply (Ran rows.count (then_of rows.process.status))) count (slice_rows d s.origin s.limit s.now rows s.done s.can s.runs) refl in
      cut_ran d pid (rows_of_event rows) reply (then_of rows.process.status) says
      (subst (λ k. Says d pid (rows_of_event rows) (NodeReply (Ran k (then_of rows.process.status)))) (sym count) ran)
  cut_by before_node_row e =
      let count : rows_of_event rows ≡ rows.count + 1 = ap (λ x. rows.count + rows_at_end x) e in
      let next = slice_node_row d s.origin s.limit s.now rows s.done s.can s.runs e in
      let ran = says_of _ (rows.count + 1) (NodeReply (Ran (rows.count + 1) (then_of next.0.status))) count next.2 refl in
      cut_ran d pid (rows_of_event rows) reply (then_of next.0.status) says
      (subst (λ k. Says d pid (rows_of_event rows) (NodeReply (Ran k (then_of next.0.status)))) (sym count) ran)
  cut_by at_spot e =
      let count : rows_of_event rows ≡ rows.count + 1 = ap (λ x. rows.count + rows_at_end x) e in
      cut_held d pid (rows_of_event rows) rows.count reply says
      (says_of _ (rows.count + 1) (Held rows.count) count (slice_at_spot d s.origin s.limit s.now rows s.done s.can s.runs e) refl)

  pub not_cut : debug_cut_event (event_of pid rows) (Ok reply) ≡ event_of pid rows
  not_cut = cut_by rows.end refl

  pub rows_answer : (x : Debugged) → debug_next d (event_of pid rows) ≡ record { answer = Ok reply; state = x } → DebugAnswers d (event_of pid rows) (Ok reply) x
  rows_answer x e = ap (debug_next d) not_cut ∙ e
