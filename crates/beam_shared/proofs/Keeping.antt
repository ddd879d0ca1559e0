-- The parts of a shared node still agree after each change.
use Rattle.std.proofs.Common.{◌≡◌, ℕ, zero, suc, ◌+◌, ◌≤◌, ◌<◌, ◌-◌, ◌^◌, Bool, true, false, cond, List, [], ◌∷◌, ◌++◌, length, map, Option, Some, None, Ok, refl, sym, ap, subst, ◌∙◌, arith, IfSome, min, slice_get, append-nil, length-append}
use Rattle.std.proofs.lemmas.List.Elements.{All-append}
use Rattle.beam_machine.specs.declared.debug.DebugEvent.{DebugEvent}
use Rattle.beam_machine.specs.declared.debug.DebugReply.{DebugReply}
use Rattle.beam_machine.specs.declared.event.Event.TheVariants.{Deliver}
use Rattle.beam_machine.specs.declared.event.Reply.TheVariants.{Done}
use Rattle.beam_machine.specs.Prelude.{Debugged, DebugNext, debug_next, debug_after, DebugAnswers, Entry, replay, live_process, View}
use Rattle.beam_machine.specs.declared.debug.DebugEvent.TheVariants.{Node as NodeEvent}
use Rattle.beam_machine.specs.declared.debug.DebugReply.TheVariants.{Node as NodeReply}
use Rattle.beam_model.specs.Prelude.{Listing}
use Rattle.beam_laws.specs.Prelude.{AreSpotsLive, may_change, IsEarlierCode, Origin, IsOut}
use Rattle.beam_journal.specs.Entering.{NodeJournal, entry_of}
use Rattle.beam_receipts.specs.Receipts.{History, AreOfGiven, moved_out}
use Rattle.beam_receipts.proofs.Moves.{slice_get_end}
use Rattle.beam_shared.specs.declared.checked_out.CheckoutEntry.{CheckoutEntry}
use Rattle.beam_shared.specs.Prelude.{changes_after, context_after, CodeContext, context_of, process_has_incoming, deliveries, delivered_if, must_wait, checked_out_of, node_of, context_in, IsHanded, AreHanded, NodeInvariant}
use Rattle.beam_shared.proofs.Handed.{still_all, known_all, and_one}
use Rattle.beam_shared.proofs.HandedOut.{done_now}
use Rattle.beam_shared.proofs.Unchanged.{context_stays}

module _ (d x : Debugged) (j k : NodeJournal) (known : History) (checked_out : List CheckoutEntry) (changes : ℕ) (shared : Option CodeContext)
    (event : DebugEvent Listing) (seat : Option ℕ) (reply : DebugReply View) (kept : NodeInvariant d j known checked_out changes shared)
    (given : IfSome seat (λ n. n < known.given)) (live : AreSpotsLive d)
    (answers : DebugAnswers d event (Ok reply) x) (free : must_wait (map checked_out_of checked_out) event ≡ false)
    (entered : k.entries ≡ j.entries ++ entry_of event seat reply ∷ []) (leads : replay k.entries ≡ debug_after (replay j.entries) event (Ok reply))
    (capacity : length checked_out ≤ k.capacity) where
  replays_now : replay k.entries ≡ x
  replays_now = leads ∙ (ap (λ y. debug_after y event (Ok reply)) kept.replays ∙ ap (λ (n : DebugNext). n.state) answers)

  one_longer : length k.entries ≡ length j.entries + 1
  one_longer = ap length entered ∙ length-append j.entries (entry_of event seat reply ∷ [])

  only : (e : Entry) → e.seat ≡ seat → AreOfGiven known.given (e ∷ [])
  only e own zero f less = subst (λ s. IfSome s (λ n. n < known.given)) (sym own) given
  only e own (suc k) f less = absurd (omega (arith, less))

  given_now : AreOfGiven known.given k.entries
  given_now =
      let e = entry_of event seat reply in
      subst (AreOfGiven known.given) (sym entered) (All-append (λ (x : Entry). IfSome x.seat (λ n. n < known.given)) j.entries (e ∷ []) kept.of_given (only e refl))

  counted_by : (b : Bool) → cond b (changes + 1) changes ≤ length k.entries
  counted_by true =
      let few : changes ≤ length j.entries = kept.counted in
      omega (arith, few, one_longer)
  counted_by false =
      let few : changes ≤ length j.entries = kept.counted in
      omega (arith, few, one_longer)

  more_by : (b : Bool) → changes ≤ cond b (changes + 1) changes
  more_by true = omega arith
  more_by false = omega arith

  same_by : (b : Bool) → may_change event ≡ b → cond b (changes + 1) changes ≡ changes → context_in x ≡ context_in d
  same_by true e now = absurd (omega (arith, now))
  same_by false e now = context_stays d x event reply live e answers

  shared_by : (b : Bool) → may_change event ≡ b → (o : Option CodeContext) → IfSome o (λ context. context ≡ context_in d) → IfSome (cond b None o) (λ context. context ≡ context_in x)
  shared_by true e o is = tt
  shared_by false e None is = tt
  shared_by false e (Some context) is = is ∙ sym (context_stays d x event reply live e answers)

  pub kept_after : (later : History) → later ≡ record known { journal = known.journal ++ entry_of event seat reply ∷ [] }
      → NodeInvariant x k later checked_out (changes_after event changes) (context_after event shared)
  kept_after later is = record {
    replays = replays_now;
    known_is = ap (λ (l : History). l.journal) is ∙ (ap (λ es. es ++ entry_of event seat reply ∷ []) kept.known_is ∙ sym entered);
    seats = subst (λ (l : History). l.given ≤ 4096) (sym is) kept.seats;
    of_given = subst (λ (l : History). AreOfGiven l.given k.entries) (sym is) given_now;
    checkouts = subst (λ (l : History). length l.checkouts ≤ 2 ^ 64 - 1) (sym is) kept.checkouts;
    capacity = capacity;
    counted = counted_by (may_change event);
    handed = subst (λ (l : History). AreHanded x (changes_after event changes) l.checkouts checked_out) (sym is)
        (still_all d x changes (changes_after event changes) known.checkouts checked_out event (Ok reply) answers (more_by (may_change event)) (same_by (may_change event) refl) free kept.handed);
    is_shared = shared_by (may_change event) refl shared kept.is_shared;
  }

-- ---- nothing changed, but that entries left memory

pub kept_drained : (d : Debugged) (j k : NodeJournal) (known later : History) (drains : List ℕ) (checked_out : List CheckoutEntry) (changes : ℕ) (shared : Option CodeContext)
    → NodeInvariant d j known checked_out changes shared → k.entries ≡ j.entries → later ≡ record known { drains = drains } → length checked_out ≤ k.capacity
    → NodeInvariant d k later checked_out changes shared
kept_drained d j k known later drains checked_out changes shared kept entries is capacity =
    subst (λ l. NodeInvariant d k l checked_out changes shared) (sym is) (record {
      replays = ap replay entries ∙ kept.replays;
      known_is = kept.known_is ∙ sym entries;
      seats = kept.seats;
      of_given = subst (AreOfGiven known.given) (sym entries) kept.of_given;
      checkouts = kept.checkouts;
      capacity = capacity;
      counted = subst (λ es. changes ≤ length es) (sym entries) kept.counted;
      handed = kept.handed;
      is_shared = kept.is_shared;
    })

-- ---- nothing changed

pub kept_as : (d x : Debugged) (j k : NodeJournal) (known later : History) (checked_out : List CheckoutEntry) (changes : ℕ) (shared : Option CodeContext) → NodeInvariant d j known checked_out changes shared
    → x ≡ d → k.entries ≡ j.entries → later ≡ known → length checked_out ≤ k.capacity → NodeInvariant x k later checked_out changes shared
kept_as d x j k known later checked_out changes shared kept same entries is capacity =
    subst (λ y. NodeInvariant y k later checked_out changes shared) (sym same)
    (kept_drained d j k known later known.drains checked_out changes shared kept entries is capacity)

pub same_node : (d x : Debugged) (j k : NodeJournal) (known later : History) (checked_out : List CheckoutEntry) → x ≡ d → k.entries ≡ j.entries → k.drained ≡ j.drained → k.limit ≡ j.limit
    → later ≡ known → node_of x k later checked_out ≡ node_of d j known checked_out
same_node d x j k known later checked_out same entries drained limit is =
    ap (λ y. node_of y k later checked_out) same
    ∙ (ap (λ (l : History). node_of d k l checked_out) is
    ∙ (λ i. record (node_of d k known checked_out) { journal = entries i; drained = drained i; limit = limit i }))

-- ---- a process is checked out

-- the entry of a process that is checked out
pub handed_entry : (x : Debugged) (changes : ℕ) (checkouts : List Origin) (entry : CheckoutEntry) (o : Origin) → entry.serial ≡ length checkouts → o.pid ≡ entry.pid → IsOut x o → IsEarlierCode o.code x.node
    → entry.changes ≡ changes → context_in x ≡ context_of o → IsHanded x changes (checkouts ++ o ∷ []) entry
handed_entry x changes checkouts entry o serial own checked_out kin now context = record {
  origin = o;
  handed_out = ap (slice_get (checkouts ++ o ∷ [])) serial ∙ slice_get_end checkouts o;
  own = own;
  is_out = checked_out;
  kin = kin;
  few = omega (arith, now);
  context = λ e. context;
}

pub kept_with : (x : Debugged) (k : NodeJournal) (known later : History) (checked_out : List CheckoutEntry) (entry : CheckoutEntry) (o : Origin) (changes : ℕ) (shared : Option CodeContext)
    → NodeInvariant x k known checked_out changes shared → later ≡ record known { checkouts = known.checkouts ++ o ∷ []; moves = known.moves ++ moved_out o.pid ∷ [] } → length known.checkouts < 2 ^ 64 - 1 → length checked_out + 1 ≤ k.capacity
    → IsHanded x changes (known.checkouts ++ o ∷ []) entry → NodeInvariant x k later (checked_out ++ entry ∷ []) changes shared
kept_with x k known later checked_out entry o changes shared kept is fewer capacity handed = record {
  replays = kept.replays;
  known_is = ap (λ (l : History). l.journal) is ∙ kept.known_is;
  seats = subst (λ (l : History). l.given ≤ 4096) (sym is) kept.seats;
  of_given = subst (λ (l : History). AreOfGiven l.given k.entries) (sym is) kept.of_given;
  checkouts =
      let longer : length (known.checkouts ++ o ∷ []) ≡ length known.checkouts + 1 = length-append known.checkouts (o ∷ []) in
      let most : length (known.checkouts ++ o ∷ []) ≤ 2 ^ 64 - 1 = omega (arith, longer, fewer) in
      subst (λ (l : History). length l.checkouts ≤ 2 ^ 64 - 1) (sym is) most;
  capacity =
      let longer : length (checked_out ++ entry ∷ []) ≡ length checked_out + 1 = length-append checked_out (entry ∷ []) in
      omega (arith, longer, capacity);
  counted = kept.counted;
  handed = subst (λ (l : History). AreHanded x changes l.checkouts (checked_out ++ entry ∷ [])) (sym is)
      (and_one x changes (known.checkouts ++ o ∷ []) checked_out entry (known_all x changes known.checkouts o checked_out kept.handed) handed);
  is_shared = kept.is_shared;
}

-- ---- the signals in transit to a process are delivered

pub kept_delivered : (d x : Debugged) (j k : NodeJournal) (known later : History) (checked_out : List CheckoutEntry) (changes : ℕ) (shared : Option CodeContext) (pid : ℕ) (b : Bool)
    → NodeInvariant d j known checked_out changes shared → AreSpotsLive d → process_has_incoming (live_process d.node.processes pid) ≡ b → must_wait (map checked_out_of checked_out) (NodeEvent (Deliver pid)) ≡ false
    → x ≡ delivered_if d pid b → k.entries ≡ j.entries ++ deliveries pid b → replay k.entries ≡ x
    → later ≡ record known { journal = known.journal ++ deliveries pid b } → length checked_out ≤ k.capacity → NodeInvariant x k later checked_out changes shared
kept_delivered d x j k known later checked_out changes shared pid true kept live incoming free same entries leads is capacity =
    kept_after d x j k known checked_out changes shared (NodeEvent (Deliver pid)) None (NodeReply Done) kept tt live (done_now d x pid incoming same) free entries
    (leads ∙ (same ∙ ap (λ y. (debug_next y (NodeEvent (Deliver pid))).state) (sym kept.replays))) capacity later is
kept_delivered d x j k known later checked_out changes shared pid false kept live incoming free same entries leads is capacity =
    kept_as d x j k known later checked_out changes shared kept same (entries ∙ append-nil j.entries)
    (is ∙ ap (λ es. record known { journal = es }) (append-nil known.journal)) capacity

pub context_delivered : (d x : Debugged) (pid : ℕ) (b : Bool) → AreSpotsLive d → process_has_incoming (live_process d.node.processes pid) ≡ b → x ≡ delivered_if d pid b → context_in x ≡ context_in d
context_delivered d x pid true live incoming same = context_stays d x (NodeEvent (Deliver pid)) (NodeReply Done) live refl (done_now d x pid incoming same)
context_delivered d x pid false live incoming same = ap context_in same

pub min_is : (m n : ℕ) → m < n → min m n ≡ m
min_is m n less = omega (arith, less)
