-- Process n has pid n, an ended process is its pid, its reason and its value, and no two processes have one name: each event keeps this.
use Rattle.std.proofs.Common.{◌≡◌, ℕ, zero, suc, ◌+◌, ◌-◌, ◌==◌, ◌&&◌, Bool, true, false, cond, not, List, [], ◌∷◌, ◌++◌, length, map, slice_get, refl, sym, ap, subst, ◌∙◌, true≢false, arith, codes, Option, Some, None, Result, option_map, unwrap_or, flat_map, slice_set}
use Rattle.std.proofs.lemmas.Option.{slice_get-map, same_Some}
use Rattle.std.specs.Cmp.Lexicographic.{nat_list_eq_equiv}
use Rattle.beam_model.specs.declared.exception.Fault.{Fault}
use Rattle.beam_model.specs.declared.native.NodeNative.{NodeNative}
use Rattle.beam_model.specs.Prelude.{Listing, same_text}
use Rattle.beam_machine.specs.declared.event.Event.{Event}
use Rattle.beam_machine.specs.declared.process.Status.{Status}
use Rattle.beam_machine.specs.declared.process.Status.TheVariants.{Running, Waiting, Ended}
use Rattle.beam_machine.specs.declared.process.Monitor.{Monitor as MonitorValue}
use Rattle.beam_machine.specs.declared.process.Signal.{Signal}
use Rattle.beam_machine.specs.declared.process.Signal.TheVariants.{Message, Exit as ExitSignal, Down}
use Rattle.beam_machine.specs.Prelude.{Process, is_ended, started, ended, killed, monitor_of, Outcome, makes, sends, asks, sleeps, answers, outcome, own_number, arguments_of, goes_on, State, process_of, with_process, live_process, has_name, registered, posted_to, posted, with_signals, downs, hearing_by, lingers, lingers_in_old, lingers_in_olds, pids_of, ends_or_hears, killing, Answered, is_alive, posted_if_own as signals, or_noproc, put_monitor, monitored, answer_of, Rows, raised, continues, deadline_at, done_by, row, running, row_and, received, signalled, notified, arrived, delivered, next, run, Touch, touch_of, Touches, stays, in_turn, loads, deletes, ends as ends_olds, purges, runs, arrives, times_out, ticks, posts, starts, Sent}
use Rattle.beam_machine.specs.declared.callee.After.{After}
use Rattle.beam_term.specs.Prelude.{TermValue, atom_term, nil_term}
use Rattle.beam_machine.specs.Next.{steps}
pub use Rattle.beam_laws.specs.Orderly.{Numbered, Apart, Orderly}
use Rattle.beam_laws.proofs.Ending.{running_is, alive_is, at_index, final}
use Rattle.beam_laws.proofs.Follows.{Ends, Follows, Lives, on, over, answered, Comes, outcome_comes}
use Rattle.beam_laws.specs.Prelude.{downs_of_end}
use Rattle.beam_laws.proofs.Hearing.{hears, hearing_is}
use Rattle.beam_laws.proofs.Touching.{next_touches}
use Rattle.beam_laws.proofs.NodeAnswers.{Answers, keeps_all, starts_one, names_one, unnames_one, posts_one, makes_one, monitors_one, answer_is}

pub none_orderly : Orderly []
none_orderly = ((λ i p e. cc), λ i j p q name e f g h. cc)

-- ---- lists that are changed

pub got : {C : Type 0} (ps : List Process) (i j : ℕ) (q r : Process) → slice_get (slice_set ps i q) j ≡ Some r → (i ≡ j → q ≡ r → C) → (slice_get ps j ≡ Some r → C) → C
got [] i j q r e f g = g e
got (p ∷ ps) zero zero q r e f g = f refl (same_Some q r e)
got (p ∷ ps) zero (suc j) q r e f g = g e
got (p ∷ ps) (suc i) zero q r e f g = g e
got (p ∷ ps) (suc i) (suc j) q r e f g = got ps i j q r e (λ s. f (ap suc s)) g

pushed : {C : Type 0} (ps : List Process) (j : ℕ) (x r : Process) → slice_get (ps ++ x ∷ []) j ≡ Some r → (j ≡ length ps → x ≡ r → C) → (slice_get ps j ≡ Some r → C) → C
pushed [] zero x r e f g = f refl (same_Some x r e)
pushed [] (suc j) x r e f g = g e
pushed (p ∷ ps) zero x r e f g = g e
pushed (p ∷ ps) (suc j) x r e f g = pushed ps j x r e (λ s. f (ap suc s)) g

pub mapped : {C : Type 0} (f : Process → Process) (o : Option Process) (q : Process) → option_map f o ≡ Some q → ((p : Process) → o ≡ Some p → f p ≡ q → C) → C
mapped f None q e g = cc
mapped f (Some p) q e g = g p refl (same_Some (f p) q e)

pub nameless : {C : Type 0} (name : List ℕ) → None ≡ Some name → C
nameless name e = cc

itself : (p : Process) → Ends p → Follows p.pid p.name p
itself p ends = (refl, ((λ n e. e), ends))

-- each process of the second list was made of the one at its place in the first
abbrev Made : List Process → List Process → Type 0
Made ps qs = (i : ℕ) (q : Process) → slice_get qs i ≡ Some q → (p : Process) × ((slice_get ps i ≡ Some p) × Follows p.pid p.name q)

carried : (ps qs : List Process) → Orderly ps → Made ps qs → Orderly qs
carried ps qs o m = (
  (λ i q e.
      let a = m i q e in
      (a.1.1.0 ∙ (o.0 i a.0 a.1.0).0, a.1.1.1.1)),
  λ i j p q name e f g h.
      let a = m i p e in
      let b = m j q f in
      o.1 i j a.0 b.0 name a.1.0 b.1.0 (a.1.1.1.0 name g) (b.1.1.1.0 name h),
)

set_made : (ps : List Process) (at : ℕ) (p q : Process) → Orderly ps → slice_get ps at ≡ Some p → Follows p.pid p.name q → Made ps (slice_set ps at q)
set_made ps at p q o e f = λ i r g.
    got {C = (p : Process) × ((slice_get ps i ≡ Some p) × Follows p.pid p.name r)} ps at i q r g
    (λ same is. (p, (subst (λ k. slice_get ps k ≡ Some p) same e, subst (Follows p.pid p.name) is f)))
    (λ h. (r, (h, itself r (o.0 i r h).1)))

pub set_orderly : (ps : List Process) (at : ℕ) (p q : Process) → Orderly ps → slice_get ps at ≡ Some p → Follows p.pid p.name q → Orderly (slice_set ps at q)
set_orderly ps at p q o e f = carried ps (slice_set ps at q) o (set_made ps at p q o e f)

push_orderly : (ps : List Process) (name function : List ℕ) (arguments : List TermValue) → Orderly ps → Orderly (ps ++ started (length ps + 1) name function arguments ∷ [])
push_orderly ps name function arguments o =
    let x : Process = started (length ps + 1) name function arguments in (
      (λ j r e.
          pushed {C = (r.pid ≡ j + 1) × Ends r} ps j x r e (λ at is. subst (λ r. (r.pid ≡ j + 1) × Ends r) is (ap (λ k. k + 1) (sym at), λ reason value e. cc)) (λ h. o.0 j r h)),
      λ i j p q n e f g h.
          pushed {C = i ≡ j} ps i x p e (λ at is. nameless n (ap (λ p. p.name) is ∙ g))
          (λ e. pushed {C = i ≡ j} ps j x q f (λ at is. nameless n (ap (λ p. p.name) is ∙ h)) (λ f. o.1 i j p q n e f g h)),
    )

-- a process with more signals in transit to it
signalled_follows : (signals : List Signal) (p : Process) → Ends p → Follows p.pid p.name (with_signals signals p)
signalled_follows signals p ends = go (is_ended p.status) refl
  where
    go : (b : Bool) → is_ended p.status ≡ b → Follows p.pid p.name (cond b p (record p { transit = p.transit ++ signals }))
    go true e = itself p ends
    go false e = on p.pid p.name (record p { transit = p.transit ++ signals }) (refl, (refl, e))

map_orderly : (f : Process → Process) (ps : List Process) → ((p : Process) → Ends p → Follows p.pid p.name (f p)) → Orderly ps → Orderly (map f ps)
map_orderly f ps follows h = carried ps (map f ps) h (λ i q e.
    mapped {C = (p : Process) × ((slice_get ps i ≡ Some p) × Follows p.pid p.name q)} f (slice_get ps i) q (sym (slice_get-map f ps i) ∙ e)
    (λ p there is. (p, (there, subst (Follows p.pid p.name) is (follows p (h.0 i p there).1)))))

-- the DOWNs of an end keep the order
pub hearing_orderly : (pid : ℕ) (status : Status) (ps : List Process) → Orderly ps → Orderly (hearing_by pid status ps)
hearing_orderly pid status ps h =
    subst Orderly (sym (hearing_is pid status ps)) (map_orderly (hears pid status) ps (λ p ends. signalled_follows (downs_of_end pid status p) p ends) h)

pub killing_orderly : (test : Process → Bool) (ps : List Process) → Orderly ps → Orderly (killing test ps)
killing_orderly test ps h = map_orderly (ends_or_hears test (pids_of test ps)) ps follows h
  where
    follows : (p : Process) → Ends p → Follows p.pid p.name (ends_or_hears test (pids_of test ps) p)
    follows p ends =
        let signals : List Signal = flat_map (λ pid. downs pid killed p.monitors) (pids_of test ps) in
        elim (test p) as (λ b. Follows p.pid p.name (cond b (ended p killed nil_term) (with_signals signals p))) [
          | true ↦ over p.pid p.name p killed nil_term refl
          | false ↦ signalled_follows signals p ends
        ]

-- ---- names

pub unregistered : (ps : List Process) (name : List ℕ) (j : ℕ) (q : Process) → registered ps name ≡ None → slice_get ps j ≡ Some q → q.name ≡ Some name → ⊥
unregistered [] name j q h e g = cc
unregistered (p ∷ ps) name zero q h e g =
    let named : p.name ≡ Some name = ap (λ p. p.name) (same_Some p q e) ∙ g in
    let found : has_name name p.name ≡ true = ap (has_name name) named ∙ nat_list_eq_equiv.refl name in
    contradiction p.pid (sym h ∙ ap (λ b. cond b (Some p.pid) (registered ps name)) found)
  where
    contradiction : (n : ℕ) → None ≡ Some n → ⊥
    contradiction n e = cc
unregistered (p ∷ ps) name (suc j) q h e g =
    unregistered ps name j q (elim (has_name name p.name) as (λ b. cond b (Some p.pid) (registered ps name) ≡ None → registered ps name ≡ None) [ true ↦ λ e. cc | false ↦ λ e. e ] h) e g

named_orderly : (ps : List Process) (name : List ℕ) (at : ℕ) (x : Process) → Orderly ps → slice_get ps at ≡ Some x → is_ended x.status ≡ false → registered ps name ≡ None → Orderly (slice_set ps at (record x { name = Some name }))
named_orderly ps name at x o there lives free =
    let q : Process = record x { name = Some name } in (
      (λ i r g.
          got {C = (r.pid ≡ i + 1) × Ends r} ps at i q r g
          (λ same is. subst (λ r. (r.pid ≡ i + 1) × Ends r) is ((o.0 at x there).0 ∙ ap (λ k. k + 1) same, λ reason value e. absurd (true≢false (sym (ap is_ended e) ∙ lives))))
          (λ h. o.0 i r h)),
      λ i j r s n e f g h.
          got {C = i ≡ j} ps at i q r e
          (λ same is. got {C = i ≡ j} ps at j q s f (λ same' is'. sym same ∙ same') (λ old. absurd (unregistered ps name j s free old (h ∙ sym (ap (λ p. p.name) is ∙ g)))))
          (λ old. got {C = i ≡ j} ps at j q s f (λ same is. absurd (unregistered ps name i r free old (g ∙ sym (ap (λ p. p.name) is ∙ h)))) (λ old'. o.1 i j r s n old old' g h)),
    )

-- ---- natives of the node: they end no process

abbrev NoneEnds : List Process → List Process → Type 0
NoneEnds ps qs = (i : ℕ) (q : Process) → slice_get qs i ≡ Some q → is_ended q.status ≡ true → slice_get ps i ≡ Some q

abbrev Tame : List Process → List Process → Type 0
Tame ps qs = Orderly qs × NoneEnds ps qs

set_ends_none : (ps : List Process) (at : ℕ) (q : Process) → is_ended q.status ≡ false → NoneEnds ps (slice_set ps at q)
set_ends_none ps at q lives = λ i r g over.
    got {C = slice_get ps i ≡ Some r} ps at i q r g (λ same is. absurd (true≢false (sym over ∙ (ap (λ p. is_ended p.status) (sym is) ∙ lives)))) (λ h. h)

push_ends_none : (ps : List Process) (x : Process) → is_ended x.status ≡ false → NoneEnds ps (ps ++ x ∷ [])
push_ends_none ps x lives = λ i r g over.
    pushed {C = slice_get ps i ≡ Some r} ps i x r g (λ same is. absurd (true≢false (sym over ∙ (ap (λ p. is_ended p.status) (sym is) ∙ lives)))) (λ h. h)

same_tame : (ps : List Process) → Orderly ps → Tame ps ps
same_tame ps o = (o, λ i q e f. e)

-- a process that hasn't ended gets signals, or loses its name
live_tame : (ps : List Process) (at : ℕ) (x q : Process) → Orderly ps → live_process ps at ≡ Some x → Lives x.pid q.name q → ((n : List ℕ) → q.name ≡ Some n → x.name ≡ Some n) → Tame ps (with_process ps at q)
live_tame ps at x q o e lives named =
    let a = alive_is (process_of ps at) x e in
    let f : Follows x.pid q.name q = on x.pid q.name q lives in
    (set_orderly ps (at - 1) x q o (at_index ps at x a.0) (lives.0, (named, f.1.1)), set_ends_none ps (at - 1) q lives.1.1)

posted_tame : (ps : List Process) (to : ℕ) (signal : Signal) (o : Option Process) → live_process ps to ≡ o → Orderly ps → Tame ps (posted_to ps to signal o)
posted_tame ps to signal None e h = same_tame ps h
posted_tame ps to signal (Some x) e h =
    let a = alive_is (process_of ps to) x e in
    live_tame ps to x (record x { transit = x.transit ++ signal ∷ [] }) h e (refl, (refl, a.1)) (λ n e. e)

watching_tame : (ps : List Process) (caller n : ℕ) (watched : TermValue) (o : Option Process) → live_process ps caller ≡ o → Orderly ps → Tame ps (put_monitor ps caller n watched o)
watching_tame ps caller n watched None e h = same_tame ps h
watching_tame ps caller n watched (Some x) e h =
    let a = alive_is (process_of ps caller) x e in
    live_tame ps caller x (record x { monitors = _ }) h e (refl, (refl, a.1)) (λ n e. e)

noproc_tame : (ps : List Process) (caller n : ℕ) (watched : TermValue) → Orderly ps → Tame ps (or_noproc ps caller n watched)
noproc_tame ps caller n watched h =
    let signal : Signal = Down n (atom_term (codes "noproc")) in
    elim (is_alive ps (own_number watched)) as (λ b. Tame ps (cond b ps (posted ps caller signal))) [ true ↦ same_tame ps h | false ↦ posted_tame ps caller signal (live_process ps caller) refl h ]

-- two such changes, one after another
both_tame : (ps qs rs : List Process) → Tame ps qs → Tame qs rs → Tame ps rs
both_tame ps qs rs a b = (b.0, λ i q e over. a.1 i q (b.1 i q e over) over)

monitored_tame : (ps : List Process) (caller : ℕ) (watched : TermValue) (n : ℕ) → Orderly ps → Tame ps (monitored ps caller watched n)
monitored_tame ps caller watched n h =
    let qs : List Process = or_noproc ps caller n watched in
    let first : Tame ps qs = noproc_tame ps caller n watched h in
    both_tame ps qs (put_monitor qs caller n watched (live_process qs caller)) first (watching_tame qs caller n watched (live_process qs caller) refl first.0)

answered_tame : (references : ℕ) (ps : List Process) (caller : ℕ) (native : NodeNative) (xs : List Sent) (a : Answered) → Orderly ps → Answers references ps caller native xs a
    → Tame ps a.processes
answered_tame references ps caller native _ _ h (keeps_all value) = same_tame ps h
answered_tame references ps caller native _ _ h (starts_one name function arguments value) =
    (push_orderly ps name function arguments h, push_ends_none ps (started (length ps + 1) name function arguments) refl)
answered_tame references ps caller native _ _ h (names_one name at x value e free) =
    let a = alive_is (process_of ps at) x e in
    (named_orderly ps name (at - 1) x h (at_index ps at x a.0) a.1 free, set_ends_none ps (at - 1) (record x { name = Some name }) a.1)
answered_tame references ps caller native _ _ h (unnames_one at x value e) =
    let a = alive_is (process_of ps at) x e in
    live_tame ps at x (record x { name = None }) h e (refl, (refl, a.1)) (λ n e. nameless n e)
answered_tame references ps caller native _ _ h (posts_one to signal value plain) = posted_tame ps to signal (live_process ps to) refl h
answered_tame references ps caller native _ _ h (makes_one value) = same_tame ps h
answered_tame references ps caller native _ _ h (monitors_one watched value is) = monitored_tame ps caller watched (references + 1) h

answer_tame : (references : ℕ) (ps : List Process) (caller : ℕ) (native : NodeNative) (ts : List TermValue) → Orderly ps → Tame ps (answer_of references ps caller native ts).processes
answer_tame references ps caller native ts h = answered_tame references ps caller native _ _ h (answer_is references ps caller native ts)

-- ---- rows

continues_orderly : (s : State) (at : ℕ) (after : After) (value : Result TermValue Fault) (o : Option Process) → process_of s.processes at ≡ o → ((q : Process) → o ≡ Some q → is_ended q.status ≡ false) → Orderly s.processes → Orderly (continues s at after value o).processes
continues_orderly s at after value None e lives h = h
continues_orderly s at after value (Some q) e lives h =
    let r : Process = answers q after (raised value) in
    hearing_orderly at r.status (with_process s.processes at r) (set_orderly s.processes (at - 1) q r h (at_index s.processes at q e) (answered q.pid q.name q after (raised value) (refl, (refl, lives q refl))))

pub done_orderly : (s : State) (at : ℕ) (p : Process) (o : Outcome) → process_of s.processes at ≡ Some p → is_ended p.status ≡ false → Comes p.pid p.name o → Orderly s.processes → Orderly (done_by s at o).processes
done_orderly s at p (makes q) e lives c h =
    hearing_orderly at q.status (with_process s.processes at q) (set_orderly s.processes (at - 1) p q h (at_index s.processes at p e) c)
done_orderly s at p (sends q to signal) e lives c h =
    let ps = with_process s.processes at q in
    (posted_tame ps to signal (live_process ps to) refl (set_orderly s.processes (at - 1) p q h (at_index s.processes at p e) (on p.pid p.name q c))).0
done_orderly s at p (sleeps q n place) e lives c h =
    let r : Process = record q { deadline = Some (deadline_at s.clock n place) } in
    set_orderly s.processes (at - 1) p r h (at_index s.processes at p e) (on p.pid p.name r c)
done_orderly s at p (asks q native arity after) e lives c h =
    let ps = with_process s.processes at q in
    let a = answer_of s.references ps at native (arguments_of q arity) in
    let t : Tame ps a.processes = answer_tame s.references ps at native (arguments_of q arity) (set_orderly s.processes (at - 1) p q h (at_index s.processes at p e) (on p.pid p.name q c)) in
    continues_orderly (record s { processes = a.processes; references = unwrap_or a.made s.references }) at after a.value (process_of a.processes at) refl
    (λ r f. asker r (is_ended r.status) refl (t.1 (at - 1) r (at_index a.processes at r f))) t.0
  where
    asker : (r : Process) (b : Bool) → is_ended r.status ≡ b → (is_ended r.status ≡ true → slice_get (with_process s.processes at q) (at - 1) ≡ Some r) → is_ended r.status ≡ false
    asker r false f g = f
    asker r true f g =
        got {C = is_ended r.status ≡ false} s.processes (at - 1) (at - 1) q r (g f) (λ same is. ap (λ p. is_ended p.status) (sym is) ∙ c.1.1)
        (λ old. ap (λ p. is_ended p.status) (same_Some r p (sym old ∙ at_index s.processes at p e)) ∙ lives)

row_and_orderly : (s : State) (at : ℕ) (rest : State → Rows) (o : Option Process) → running (process_of s.processes at) ≡ o → ((t : State) → Orderly t.processes → Orderly (rest t).state.processes) → Orderly s.processes → Orderly (row_and rest s at o).state.processes
row_and_orderly s at rest None e more h = h
row_and_orderly s at rest (Some p) e more h =
    let r = running_is (process_of s.processes at) p e in
    more (row s at p) (done_orderly s at p (outcome s.code p) r.0 r.1 (outcome_comes p.pid p.name s.code p (refl, (refl, r.1))) h)

steps_orderly : (n : ℕ) (s : State) (at : ℕ) → Orderly s.processes → Orderly (steps s at n).state.processes
steps_orderly zero s at h = h
steps_orderly (suc n) s at h = row_and_orderly s at (λ t. steps t at n) (running (process_of s.processes at)) refl (λ t. steps_orderly n t at) h

-- ---- what arrives

module _ (pid : ℕ) (name : Option (List ℕ)) where
  gone : (p : Process) (reason value : TermValue) (rest : List Signal) → p.pid ≡ pid → Follows pid name (delivered (ended p reason value) rest)
  gone p reason value [] e = over pid name p reason value e
  gone p reason value (signal ∷ rest) e = over pid name p reason value e

  signalled_right : (p : Process) (sender : ℕ) (reason : TermValue) (rest : List Signal) → Lives pid name p → Follows pid name (delivered p rest) → Follows pid name (delivered (signalled p sender reason) rest)
  signalled_right p sender (atom_term text) rest k h =
      let b : Bool = same_text text (codes "normal") && not (sender == p.pid) in
      elim (same_text text (codes "kill")) as (λ c. Follows pid name (delivered (cond c (ended p killed nil_term) (cond b p (ended p (atom_term text) nil_term))) rest)) [
        | true ↦ gone p killed nil_term rest k.0
        | false ↦ elim b as (λ c. Follows pid name (delivered (cond c p (ended p (atom_term text) nil_term)) rest)) [ true ↦ h | false ↦ gone p (atom_term text) nil_term rest k.0 ]
      ]
  signalled_right p sender reason rest k h = gone p reason nil_term rest k.0

  notified_right : (p : Process) (reason : TermValue) (o : Option MonitorValue) (rest : List Signal) → Lives pid name p → ((q : Process) → Lives pid name q → Follows pid name (delivered q rest))
      → Follows pid name (delivered (notified p reason o) rest)
  notified_right p reason None rest k h = h p k
  notified_right p reason (Some m) rest k h = h (notified p reason (Some m)) (k.0, (k.1.0, refl))

  arrived_right : (p : Process) (signal : Signal) (rest : List Signal) → Lives pid name p → ((q : Process) → Lives pid name q → Follows pid name (delivered q rest)) → Follows pid name (delivered (arrived p signal) rest)
  arrived_right p (Message t) rest k h = h (received p t) (k.0, (k.1.0, refl))
  arrived_right p (ExitSignal sender reason) rest k h = signalled_right p sender reason rest k (h p k)
  arrived_right p (Down reference reason) rest k h = notified_right p reason (monitor_of reference p.monitors) rest k h

  delivered_right : (p : Process) (rest : List Signal) → Lives pid name p → Follows pid name (delivered p rest)
  delivered_right p [] k = on pid name p k
  delivered_right p (signal ∷ rest) k =
      elim (is_ended p.status) as (λ c. Follows pid name (cond c p (delivered (arrived p signal) rest))) [
        | true ↦ on pid name p k
        | false ↦ arrived_right p signal rest k (λ q i. delivered_right q rest i)
      ]

-- ---- events

live_orderly : (ps : List Process) (at : ℕ) (x q : Process) → Orderly ps → live_process ps at ≡ Some x → (Lives x.pid x.name x → Follows x.pid x.name q) → Orderly (with_process ps at q)
live_orderly ps at x q o e f =
    let a = alive_is (process_of ps at) x e in
    set_orderly ps (at - 1) x q o (at_index ps at x a.0) (f (refl, (refl, a.1)))

touched_orderly : (t : Touch) (s u : State) → Touches t s u → Orderly s.processes → Orderly u.processes
touched_orderly _ _ _ (stays t s) h = h
touched_orderly _ _ _ (in_turn t s u v first second) h = touched_orderly t u v second (touched_orderly t s u first h)
touched_orderly _ _ _ (loads s l) h = killing_orderly (lingers_in_old s.code l.name) s.processes h
touched_orderly _ _ _ (deletes s name e) h = h
touched_orderly _ _ _ (purges s name) h = killing_orderly (lingers_in_old s.code name) s.processes h
touched_orderly _ _ _ (ends_olds s ls) h = killing_orderly (lingers_in_olds s.code (map (λ l. l.name) ls)) s.processes h
touched_orderly _ _ _ (runs s at n) h = steps_orderly n s at h
touched_orderly _ _ _ (arrives s at x e) h =
    let q : Process = delivered (record x { transit = [] }) x.transit in
    hearing_orderly at q.status (with_process s.processes at q)
    (live_orderly s.processes at x q h e (λ k. delivered_right x.pid x.name (record x { transit = [] }) x.transit k))
touched_orderly _ _ _ (times_out s at x d e is) h =
    let q : Process = record (goes_on x d.after) { deadline = None; status = Running } in
    live_orderly s.processes at x q h e (λ k. on x.pid x.name q (refl, (refl, refl)))
touched_orderly _ _ _ (ticks s now later) h = h
touched_orderly _ _ _ (posts s to signal) h = (posted_tame s.processes to signal (live_process s.processes to) refl h).0
touched_orderly _ _ _ (starts s name function arguments) h = push_orderly s.processes name function arguments h

pub next_orderly : (s : State) (e : Event Listing) → Orderly s.processes → Orderly (next s e).state.processes
next_orderly s e h = touched_orderly (touch_of e) s (next s e).state (next_touches s e) h

pub run_orderly : (s : State) (events : List (Event Listing)) → Orderly s.processes → Orderly (run s events).state.processes
run_orderly s [] h = h
run_orderly s (e ∷ events) h = run_orderly (next s e).state events (next_orderly s e h)

-- ---- by their numbers

positive : (ps : List Process) (n : ℕ) (p : Process) → process_of ps n ≡ Some p → (n - 1) + 1 ≡ n
positive ps zero p e = cc
positive ps (suc n) p e = omega arith

pub pid_is : (ps : List Process) (n : ℕ) (p : Process) → Orderly ps → process_of ps n ≡ Some p → p.pid ≡ n
pid_is ps n p o e = (o.0 (n - 1) p (at_index ps n p e)).0 ∙ positive ps n p e

pub ended_is : (ps : List Process) (n : ℕ) (p : Process) (reason value : TermValue) → Orderly ps → process_of ps n ≡ Some p → p.status ≡ Ended reason value → p ≡ ended p reason value
ended_is ps n p reason value o e = (o.0 (n - 1) p (at_index ps n p e)).1 reason value

pub names_are_apart : (ps : List Process) (m n : ℕ) (p q : Process) (name : List ℕ) → Orderly ps → process_of ps m ≡ Some p → process_of ps n ≡ Some q → p.name ≡ Some name → q.name ≡ Some name → m ≡ n
names_are_apart ps m n p q name o e f g h =
    sym (positive ps m p e) ∙ (ap (λ k. k + 1) (o.1 (m - 1) (n - 1) p q name (at_index ps m p e) (at_index ps n q f) g h) ∙ positive ps n q f)

-- an end is final
pub stays_over : (s : State) (events : List (Event Listing)) (n : ℕ) (p : Process) → Orderly s.processes → process_of s.processes n ≡ Some p → is_ended p.status ≡ true → process_of (run s events).state.processes n ≡ Some p
stays_over s events n p o there over = go p.status refl
  where
    go : (status : Status) → p.status ≡ status → process_of (run s events).state.processes n ≡ Some p
    go Running e = absurd (true≢false (sym over ∙ ap is_ended e))
    go Waiting e = absurd (true≢false (sym over ∙ ap is_ended e))
    go (Ended reason value) e =
        final n p over (λ number. subst (λ p. lingers number p ≡ false) (sym (ended_is s.processes n p reason value o there e)) refl) s events there
