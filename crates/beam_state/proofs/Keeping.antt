-- A change of one process keeps the indexes right.
use Rattle.std.proofs.Common.{◌≡◌, ℕ, ◌+◌, ◌<◌, ◌==◌, ◌&&◌, Bool, true, false, cond, not, List, [], ◌∷◌, ◌++◌, length, slice_get, get_or, refl, sym, ap, subst, ◌∙◌, arith, Option, Some, None, Result, Ok, Err, slice_set, codes, is_ok, IfSome, OnOk, OnErr}
use Rattle.std.specs.declared.alloc.AllocError.{AllocError}
use Rattle.beam_agenda.specs.declared.entry.AgendaEntry.{AgendaEntry}
use Rattle.beam_machine.specs.declared.callee.After.{After}
use Rattle.beam_machine.specs.declared.event.Then.{Then}
use Rattle.beam_machine.specs.declared.event.Then.TheVariants.{GoesOn, Waits, Ended}
use Rattle.beam_machine.specs.declared.process.Monitor.{Monitor}
use Rattle.beam_machine.specs.declared.process.Signal.{Signal}
use Rattle.beam_machine.specs.declared.process.Signal.TheVariants.{Message, Exit as ExitSignal, Down}
use Rattle.beam_machine.specs.declared.process.Status.TheVariants.{Running}
use Rattle.beam_machine.specs.Prelude.{received, signalled, notified, arrived, delivered, Process, is_ended, ended, killed, monitor_of, answers, own_number}
use Rattle.beam_model.specs.declared.exception.Exception.{Exception}
use Rattle.beam_model.specs.Prelude.{same_text}
use Rattle.beam_term.specs.Prelude.{TermValue, atom_term, nil_term}
use Rattle.beam_laws.specs.Prelude.{ArePart}
use Rattle.beam_laws.proofs.Follows.{Lives, answered_with}
use Rattle.beam_laws.proofs.Monitoring.{all_are, none_are, fewer_are, delivered_part}
use Rattle.beam_proc.specs.Prelude.{Does}
use Rattle.beam_state.specs.Prelude.{bare_if, entry_of, IsIndexed, KeepsName, GoesOnFrom, MonitorNoMore, IsKeyed, AreKeyed, AreMonitorsKeyed, AreMonitorsKeyedIf, has_key, with_monitor}
use Rattle.beam_state.proofs.MonitorKeys.{no_more, part_fewer, monitored_if, fewer_monitored, set_monitored, push_monitored, kept_monitored, more_keyed, added_if}
use Rattle.beam_state.proofs.Indexing.{Find, as_many, changed_indexed, pushed_indexed}
use Rattle.beam_state.proofs.Finding.{there}
use Rattle.beam_state.proofs.Located.{put_back}

-- ---- the list

pub agenda_within : (find : Find) (agenda : List AgendaEntry) (ps now : List Process) (i : ℕ) → ps ≡ now → IsIndexed find agenda ps → i < length now → i < length agenda
agenda_within find agenda ps now i e h l =
    let same : length ps ≡ length now = ap (λ (ps : List Process). length ps) e in
    omega (arith, as_many find agenda ps h, same, l)

pub items_within : (ps now : List Process) (i : ℕ) → ps ≡ now → i < length now → i < length ps
items_within ps now i e l =
    let same : length ps ≡ length now = ap (λ (ps : List Process). length ps) e in
    omega (arith, same, l)

pub keeps_indexed : (find : Find) (agenda after : List AgendaEntry) (ps now : List Process) (i : ℕ) (p q : Process) (e : AgendaEntry)
    → ps ≡ now → i < length now → p ≡ get_or ps i p → KeepsName p q → e ≡ entry_of q → after ≡ slice_set agenda i e → IsIndexed find agenda ps
    → IsIndexed find after (slice_set ps i q)
keeps_indexed find agenda after ps now i p q e view l g keeps is set h =
    subst (λ es. IsIndexed find es (slice_set ps i q)) (sym (set ∙ ap (slice_set agenda i) is))
    (changed_indexed find agenda ps i p q h (there ps i p (items_within ps now i view l) g) keeps)

-- a process is replaced by one that has no monitors but the first one's
pub keeps_monitored : (complete : Bool) (keys : List ℕ) (ps now : List Process) (i : ℕ) (p q : Process) → ps ≡ now → i < length now → p ≡ get_or ps i p → MonitorNoMore p.monitors q.monitors → AreMonitorsKeyedIf complete keys ps
    → AreMonitorsKeyedIf complete keys (slice_set ps i q)
keeps_monitored complete keys ps now i p q view l g fewer h =
    monitored_if complete keys keys ps (slice_set ps i q) (fewer_monitored keys ps i p q (there ps i p (items_within ps now i view l) g) fewer) h

-- keys are added, and a process is replaced by one whose monitors are all among the keys
pub puts_monitored : (before complete : Bool) (old new : List ℕ) (ps : List Process) (i receiver : ℕ) (q : Process) → receiver ≡ i + 1 → ((key : ℕ) → has_key old key ≡ true → has_key new key ≡ true)
    → (complete ≡ true → (before ≡ true) × AreKeyed new receiver q.monitors) → AreMonitorsKeyedIf before old ps → AreMonitorsKeyedIf complete new (slice_set ps i q)
puts_monitored before complete old new ps i receiver q located more keyed h =
    added_if before complete old new ps (slice_set ps i q)
    (λ e. let k = keyed e in (k.0, λ w. set_monitored new ps i q (kept_monitored old new ps more w) (subst (λ k. AreKeyed new k q.monitors) located k.1))) h

pub push_monitored_if : (complete : Bool) (keys : List ℕ) (ps mid qs : List Process) (x : Process) → x.monitors ≡ [] → mid ≡ ps → qs ≡ mid ++ x ∷ [] → AreMonitorsKeyedIf complete keys ps → AreMonitorsKeyedIf complete keys qs
push_monitored_if complete keys ps mid qs x none same more h =
    monitored_if complete keys keys ps qs (λ w. subst (AreMonitorsKeyed keys) (sym (more ∙ ap (λ ps. ps ++ x ∷ []) same)) (push_monitored keys ps x w none)) h

-- ---- a process that monitors a pid

monitored_monitors : (p : Process) (n : ℕ) (pid : TermValue) (down : Option Signal) → (with_monitor p n pid down).monitors ≡ p.monitors ++ record { reference = n; pid = pid } ∷ []
monitored_monitors p n pid None = refl
monitored_monitors p n pid (Some d) = refl

monitored_name : (p : Process) (n : ℕ) (pid : TermValue) (down : Option Signal) → (with_monitor p n pid down).name ≡ p.name
monitored_name p n pid None = refl
monitored_name p n pid (Some d) = refl

-- the process after a try
abbrev pub Tried : Process → ℕ → TermValue → Option Signal → Result (Unit {0}) AllocError → Process → Type 0
Tried p n pid down result q = OnOk result (q ≡ with_monitor p n pid down) × OnErr result (q ≡ p)

pub tried_name : (p q : Process) (n : ℕ) (pid : TermValue) (down : Option Signal) (result : Result (Unit {0}) AllocError) → Tried p n pid down result q → KeepsName p q
tried_name p q n pid down (Ok u) h = λ name f. sym (monitored_name p n pid down) ∙ (ap (λ q. q.name) (sym h.0) ∙ f)
tried_name p q n pid down (Err refused) h = λ name f. ap (λ q. q.name) (sym h.1) ∙ f

pub on_ok : (result : Result (Unit {0}) AllocError) (A : Type 0) → OnOk result A → is_ok result ≡ true → A
on_ok (Ok u) A h e = h
on_ok (Err refused) A h e = cc

pub tried_monitored : (complete : Bool) (old new : List ℕ) (ps now : List Process) (i receiver n : ℕ) (pid : TermValue) (down : Option Signal) (p q : Process) (result : Result (Unit {0}) AllocError)
    → ps ≡ now → i < length now → p ≡ get_or ps i p → receiver ≡ i + 1 → Tried p n pid down result q → ((key : ℕ) → has_key old key ≡ true → has_key new key ≡ true)
    → (is_ok result ≡ true → (w : ℕ) → own_number pid ≡ Some w → IsKeyed new w receiver n) → AreMonitorsKeyedIf complete old ps → AreMonitorsKeyedIf complete new (slice_set ps i q)
tried_monitored complete old new ps now i receiver n pid down p q result view l g located tried more keyed h =
    monitored_if complete old new ps (slice_set ps i q) (λ w. set_monitored new ps i q (kept_monitored old new ps more w) (all (kept_monitored old new ps more w) result tried keyed)) h
  where
    all : AreMonitorsKeyed new ps → (result : Result (Unit {0}) AllocError) → Tried p n pid down result q → (is_ok result ≡ true → (w : ℕ) → own_number pid ≡ Some w → IsKeyed new w receiver n)
        → AreKeyed new (i + 1) q.monitors
    all w (Err refused) t keyed = subst (λ (q : Process). AreKeyed new (i + 1) q.monitors) (sym t.1) (w i p (there ps i p (items_within ps now i view l) g))
    all w (Ok u) t keyed =
        subst (AreKeyed new (i + 1)) (sym (ap (λ (q : Process). q.monitors) t.0 ∙ monitored_monitors p n pid down))
        (more_keyed new (i + 1) n pid p.monitors (w i p (there ps i p (items_within ps now i view l) g)) (λ v e. subst (λ k. IsKeyed new v k n) located (keyed refl v e)))

pub push_keeps : (find : Find) (agenda after : List AgendaEntry) (ps mid qs : List Process) (x : Process) (e : AgendaEntry)
    → x.name ≡ None → e ≡ entry_of x → after ≡ agenda ++ e ∷ [] → mid ≡ ps → qs ≡ mid ++ x ∷ [] → IsIndexed find agenda ps → IsIndexed find after qs
push_keeps find agenda after ps mid qs x e new is pushed same more h =
    subst (λ es. IsIndexed find es qs) (sym (pushed ∙ ap (λ e. agenda ++ e ∷ []) is))
    (subst (λ ps. IsIndexed find (agenda ++ entry_of x ∷ []) ps) (sym (more ∙ ap (λ ps. ps ++ x ∷ []) same)) (pushed_indexed find agenda ps x h new))

-- ---- what a call's contract says of the process that it changed

pub stands : (ps now : List Process) (i : ℕ) (p : Process) → ps ≡ now → i < length now → p ≡ get_or ps i p → slice_get now i ≡ Some p
stands ps now i p view l g = sym (ap (λ ps. slice_get ps i) view) ∙ there ps i p (items_within ps now i view l) g

pub says_of : (ps now : List Process) (i : ℕ) (p : Process) (P : Process → Type 0) → ps ≡ now → i < length now → p ≡ get_or ps i p → P p → IfSome (slice_get now i) P
says_of ps now i p P view l g h = subst (λ o. IfSome o P) (sym (stands ps now i p view l g)) h

pub sets : (ps now : List Process) (i : ℕ) (q r : Process) → ps ≡ now → q ≡ r → slice_set ps i q ≡ slice_set now i r
sets ps now i q r view e = ap (λ ps. slice_set ps i q) view ∙ ap (slice_set now i) e

-- a process that doesn't change
pub stays : (ps now : List Process) (i : ℕ) (p q : Process) → ps ≡ now → i < length now → p ≡ get_or ps i p → q ≡ p → slice_set ps i q ≡ now
stays ps now i p q view l g same = ap (slice_set ps i) same ∙ (put_back ps i p (items_within ps now i view l) g ∙ view)

pub makes : (ps now : List Process) (i : ℕ) (p q : Process) (f : Process → Process) → ps ≡ now → i < length now → p ≡ get_or ps i p → q ≡ f p
    → IfSome (slice_get now i) (λ p. slice_set ps i q ≡ slice_set now i (f p))
makes ps now i p q f view l g e = says_of ps now i p (λ p. slice_set ps i q ≡ slice_set now i (f p)) view l g (sets ps now i q (f p) view e)

-- ---- names

pub same_name : (p q : Process) → q.name ≡ p.name → KeepsName p q
same_name p q e = λ name f. sym e ∙ f

pub is_name : (p q r : Process) → q ≡ r → r.name ≡ p.name → KeepsName p q
is_name p q r e f = same_name p q (ap (λ q. q.name) e ∙ f)

abbrev Keeps : Option (List ℕ) → Process → Type 0
Keeps name q = (n : List ℕ) → q.name ≡ Some n → name ≡ Some n

gone : (name : Option (List ℕ)) (p : Process) (reason value : TermValue) (rest : List Signal) → Keeps name (delivered (ended p reason value) rest)
gone name p reason value [] = λ n e. cc
gone name p reason value (signal ∷ rest) = λ n e. cc

signalled_keeps : (name : Option (List ℕ)) (p : Process) (sender : ℕ) (reason : TermValue) (rest : List Signal) → Keeps name (delivered p rest) → Keeps name (delivered (signalled p sender reason) rest)
signalled_keeps name p sender (atom_term text) rest h =
    let b : Bool = same_text text (codes "normal") && not (sender == p.pid) in
    elim (same_text text (codes "kill")) as (λ c. Keeps name (delivered (cond c (ended p killed nil_term) (cond b p (ended p (atom_term text) nil_term))) rest)) [
      | true ↦ gone name p killed nil_term rest
      | false ↦ elim b as (λ c. Keeps name (delivered (cond c p (ended p (atom_term text) nil_term)) rest)) [ true ↦ h | false ↦ gone name p (atom_term text) nil_term rest ]
    ]
signalled_keeps name p sender reason rest h = gone name p reason nil_term rest

arrived_keeps : (name : Option (List ℕ)) (p : Process) (signal : Signal) (rest : List Signal) → p.name ≡ name → ((q : Process) → q.name ≡ name → Keeps name (delivered q rest))
    → Keeps name (delivered (arrived p signal) rest)
arrived_keeps name p (Message t) rest k h = h (received p t) k
arrived_keeps name p (ExitSignal sender reason) rest k h = signalled_keeps name p sender reason rest (h p k)
arrived_keeps name p (Down reference reason) rest k h = by (monitor_of reference p.monitors)
  where
    by : (o : Option Monitor) → Keeps name (delivered (notified p reason o) rest)
    by None = h p k
    by (Some m) = h (notified p reason (Some m)) k

pub delivered_keeps : (name : Option (List ℕ)) (p : Process) (signals : List Signal) → p.name ≡ name → Keeps name (delivered p signals)
delivered_keeps name p [] k = λ n e. sym k ∙ e
delivered_keeps name p (signal ∷ rest) k =
    elim (is_ended p.status) as (λ c. Keeps name (cond c p (delivered (arrived p signal) rest))) [
      | true ↦ λ n e. sym k ∙ e
      | false ↦ arrived_keeps name p signal rest k (λ q i. delivered_keeps name q rest i)
    ]

-- a process that didn't change
pub stays_on : (p q : Process) → q ≡ p → GoesOnFrom p q
stays_on p q e = (is_name p q p e refl, subst (λ (q : Process). MonitorNoMore p.monitors q.monitors) (sym e) (no_more p.monitors))

pub delivery_keeps : {T : Type 0} (p q : Process) (result : Result T AllocError) → OnOk result (q ≡ delivered (record p { transit = [] }) p.transit) → OnErr result (q ≡ p) → GoesOnFrom p q
delivery_keeps p q (Ok done) h k = (
  (λ n f. delivered_keeps p.name (record p { transit = [] }) p.transit refl n (ap (λ q. q.name) (sym h) ∙ f)),
  subst (λ (q : Process). MonitorNoMore p.monitors q.monitors) (sym h) (part_fewer p.monitors (delivered (record p { transit = [] }) p.transit).monitors (delivered_part p.transit (record p { transit = [] }))),
)
delivery_keeps p q (Err refused) h k = stays_on p q k

bare_lives : (slots : Option ℕ) (p : Process) → p.status ≡ Running → Lives p.pid p.name (bare_if slots p)
bare_lives (Some n) p runs = (refl, (refl, ap is_ended runs))
bare_lives None p runs = (refl, (refl, ap is_ended runs))

bare_part : (slots : Option ℕ) (p : Process) → ArePart p.monitors (bare_if slots p).monitors
bare_part (Some n) p = all_are p.monitors
bare_part None p = all_are p.monitors

-- a process that goes on with the answer of a native
pub answers_keep : (p q : Process) (slots : Option ℕ) (after : After) (value : Result TermValue Exception) → p.status ≡ Running → q ≡ answers (bare_if slots p) after value → GoesOnFrom p q
answers_keep p q slots after value runs e =
    let a = answered_with p.pid p.name (ArePart p.monitors) (none_are p.monitors) (λ ms keep h. fewer_are p.monitors ms keep h) (bare_if slots p) after value (bare_lives slots p runs, bare_part slots p) in (
      (λ n f. a.0.1.0 n (ap (λ q. q.name) (sym e) ∙ f)),
      subst (λ (q : Process). MonitorNoMore p.monitors q.monitors) (sym e) (part_fewer p.monitors (answers (bare_if slots p) after value).monitors a.1),
    )

pub answer_keeps : (p q : Process) (slots : Option ℕ) (after : After) (value : Result TermValue Exception) (result : Result Then AllocError) → p.status ≡ Running
    → Does p (answers (bare_if slots p) after value) result q → GoesOnFrom p q
answer_keeps p q slots after value (Err refused) runs e = stays_on p q e
answer_keeps p q slots after value (Ok (Ended reason v)) runs e = stays_on p q e.1
answer_keeps p q slots after value (Ok GoesOn) runs e = answers_keep p q slots after value runs e.0
answer_keeps p q slots after value (Ok Waits) runs e = answers_keep p q slots after value runs e.0
