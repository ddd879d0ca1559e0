-- A process that is checked in leaves the list of the processes that are checked out.
use Rattle.std.proofs.Common.{◌≡◌, ◌≢◌, ℕ, zero, suc, ◌+◌, ◌-◌, ◌^◌, ◌<◌, ◌≤◌, ◌==◌, not, Bool, true, false, cond, List, [], ◌∷◌, ◌++◌, length, map, Option, Some, None, Ok, refl, sym, ap, subst, ◌∙◌, arith, is_some, min, option_map, slice_get}
use Rattle.std.proofs.lemmas.Bool.Decides.{nat_tests}
use Rattle.std.specs.List.{list_any}
use Rattle.beam_machine.specs.declared.debug.DebugReply.{DebugReply}
use Rattle.beam_machine.specs.Prelude.{Debugged, DebugNext, debug_next, debug_after, debug_cut_event, DebugAnswers, replay, Private, View}
use Rattle.beam_laws.specs.Prelude.{AreSpotsLive, Origin}
use Rattle.beam_journal.specs.Entering.{NodeJournal, entry_of as entry_by}
use Rattle.beam_receipts.specs.Receipts.{History, moved_in}
use Rattle.beam_shared.specs.declared.checked_out.CheckoutEntry.{CheckoutEntry}
use Rattle.beam_shared.specs.Prelude.{advanced, event_of, is_serial, checked_in, without_checkout, CodeContext, checked_out_of, entry_of, node_of, AreHanded, IsHanded, NodeInvariant, CheckedOut, serial_of, without_entry}
use Rattle.beam_shared.proofs.Entries.{serial_in, serial_found, is_free}
use Rattle.beam_shared.proofs.Keeping.{kept_after}

-- ---- the entry of a process

own_by : (d : Debugged) (changes : ℕ) (handed : List Origin) (pid : ℕ) (entry e : CheckoutEntry) (rest : List CheckoutEntry) (b : Bool) → (entry.pid == pid) ≡ b
    → IsHanded d changes handed entry → (entry_of pid rest ≡ Some e → IsHanded d changes handed e × (e.pid ≡ pid))
    → cond b (Some entry) (entry_of pid rest) ≡ Some e → IsHanded d changes handed e × (e.pid ≡ pid)
own_by d changes handed pid entry e rest true own i more is =
    let same : entry ≡ e = cc (is) in
    (subst (IsHanded d changes handed) same i, ap (λ (x : CheckoutEntry). x.pid) (sym same) ∙ grind (arith, nat_tests, own))
own_by d changes handed pid entry e rest false own i more is = more is

-- the entry that is found for a process is one of the list, and has its number
pub own_entry : (d : Debugged) (changes : ℕ) (handed : List Origin) (pid : ℕ) (e : CheckoutEntry) (entries : List CheckoutEntry) → AreHanded d changes handed entries
    → entry_of pid entries ≡ Some e → IsHanded d changes handed e × (e.pid ≡ pid)
own_entry d changes handed pid e [] h is = absurd (cc is)
own_entry d changes handed pid e (entry ∷ rest) h is =
    own_by d changes handed pid entry e rest (entry.pid == pid) refl h.0 (own_entry d changes handed pid e rest h.1) is

pub got_within : {X : Type 0} (xs : List X) (k : ℕ) (x : X) → slice_get xs k ≡ Some x → k < length xs
got_within [] k x e = absurd (cc e)
got_within (y ∷ xs) zero x e = omega arith
got_within (y ∷ xs) (suc k) x e =
    let less : k < length xs = got_within xs k x e in
    omega (arith, less)

-- comparing a checkout's number with the one that a ticket reports comes to comparing it with the ticket's own
pub same_serial : (serial told own : ℕ) → serial < 2 ^ 64 - 1 → told ≡ min own (2 ^ 64 - 1) → (serial == told) ≡ (serial == own)
same_serial serial told own few is =
    by (serial == told) (serial == own) refl refl
  where
    by : (b c : Bool) → (serial == told) ≡ b → (serial == own) ≡ c → b ≡ c
    by true true e f = refl
    by false false e f = refl
    by true false e f =
        let same : serial ≡ told = grind (arith, nat_tests, e) in
        let other : serial ≢ own = grind (arith, nat_tests, f) in
        absurd (other (omega (arith, few, is, same)))
    by false true e f =
        let same : serial ≡ own = grind (arith, nat_tests, f) in
        let other : serial ≢ told = grind (arith, nat_tests, e) in
        absurd (other (omega (arith, few, is, same)))

pub is_there : (serial : ℕ) (o : Option ℕ) → is_serial serial o ≡ true → is_some o ≡ true
is_there serial None e = absurd (cc e)
is_there serial (Some of_out) e = refl

pub some_mapped : {A B : Type 0} (f : A → B) (o : Option A) → is_some (option_map f o) ≡ is_some o
some_mapped f None = refl
some_mapped f (Some x) = refl

-- ---- the list without the process

mapped_by : (pid : ℕ) (entry : CheckoutEntry) (rest : List CheckoutEntry) (b : Bool) → map checked_out_of (without_entry pid rest) ≡ without_checkout pid (map checked_out_of rest)
    → map checked_out_of (cond b (entry ∷ without_entry pid rest) (without_entry pid rest)) ≡ cond b (checked_out_of entry ∷ without_checkout pid (map checked_out_of rest)) (without_checkout pid (map checked_out_of rest))
mapped_by pid entry rest true e = ap (λ checkouts. checked_out_of entry ∷ checkouts) e
mapped_by pid entry rest false e = e

pub mapped : (pid : ℕ) (entries : List CheckoutEntry) → map checked_out_of (without_entry pid entries) ≡ without_checkout pid (map checked_out_of entries)
mapped pid [] = refl
mapped pid (entry ∷ rest) = mapped_by pid entry rest (not (entry.pid == pid)) (mapped pid rest)

none_by : (pid : ℕ) (entry : CheckoutEntry) (rest : List CheckoutEntry) (b : Bool) → (entry.pid == pid) ≡ b
    → is_some (serial_of pid (map checked_out_of (without_entry pid rest))) ≡ false
    → is_some (serial_of pid (map checked_out_of (cond (not b) (entry ∷ without_entry pid rest) (without_entry pid rest)))) ≡ false
none_by pid entry rest true e none = none
none_by pid entry rest false e none =
    ap (λ b. is_some (cond b (Some entry.serial) (serial_of pid (map checked_out_of (without_entry pid rest))))) e ∙ none

none_left : (pid : ℕ) (entries : List CheckoutEntry) → is_some (serial_of pid (map checked_out_of (without_entry pid entries))) ≡ false
none_left pid [] = refl
none_left pid (entry ∷ rest) = none_by pid entry rest (entry.pid == pid) refl (none_left pid rest)

-- no event of the process waits then
pub free_again : (pid : ℕ) (entries : List CheckoutEntry) → list_any (λ (o : CheckedOut). pid == o.pid) (map checked_out_of (without_entry pid entries)) ≡ false
free_again pid entries = is_free pid (without_entry pid entries) (none_left pid entries)

no_more_by : (entry : CheckoutEntry) (rest : List CheckoutEntry) (n : ℕ) (b : Bool) → length rest ≤ n → length (cond b (entry ∷ rest) rest) ≤ n + 1
no_more_by entry rest n true e = omega (arith, e)
no_more_by entry rest n false e = omega (arith, e)

pub no_more : (pid : ℕ) (entries : List CheckoutEntry) → length (without_entry pid entries) ≤ length entries
no_more pid [] = omega arith
no_more pid (entry ∷ rest) =
    let less : length (cond (not (entry.pid == pid)) (entry ∷ without_entry pid rest) (without_entry pid rest)) ≤ length rest + 1
    = no_more_by entry (without_entry pid rest) (length rest) (not (entry.pid == pid)) (no_more pid rest) in
    omega (arith, less)

fewer_by : (pid : ℕ) (entry : CheckoutEntry) (rest : List CheckoutEntry) (b : Bool) → is_some (cond b (Some entry.serial) (serial_of pid (map checked_out_of rest))) ≡ true
    → (is_some (serial_of pid (map checked_out_of rest)) ≡ true → length (without_entry pid rest) < length rest)
    → length (without_entry pid rest) ≤ length rest → length (cond (not b) (entry ∷ without_entry pid rest) (without_entry pid rest)) < length rest + 1
fewer_by pid entry rest true e more few = omega (arith, few)
fewer_by pid entry rest false e more few =
    let less : length (without_entry pid rest) < length rest = more e in
    omega (arith, less)

pub fewer : (pid : ℕ) (entries : List CheckoutEntry) → is_some (serial_of pid (map checked_out_of entries)) ≡ true → length (without_entry pid entries) < length entries
fewer pid [] e = absurd (cc e)
fewer pid (entry ∷ rest) e =
    let less : length (cond (not (entry.pid == pid)) (entry ∷ without_entry pid rest) (without_entry pid rest)) < length rest + 1
    = fewer_by pid entry rest (entry.pid == pid) e (fewer pid rest) (no_more pid rest) in
    omega (arith, less)

-- ---- the other processes that are checked out

handed_by : (d : Debugged) (changes : ℕ) (handed : List Origin) (entry : CheckoutEntry) (rest : List CheckoutEntry) (b : Bool) → IsHanded d changes handed entry
    → AreHanded d changes handed rest → AreHanded d changes handed (cond b (entry ∷ rest) rest)
handed_by d changes handed entry rest true i h = (i, h)
handed_by d changes handed entry rest false i h = h

handed_still : (d : Debugged) (changes : ℕ) (handed : List Origin) (pid : ℕ) (entries : List CheckoutEntry) → AreHanded d changes handed entries
    → AreHanded d changes handed (without_entry pid entries)
handed_still d changes handed pid [] h = tt
handed_still d changes handed pid (entry ∷ rest) h =
    handed_by d changes handed entry (without_entry pid rest) (not (entry.pid == pid)) h.0 (handed_still d changes handed pid rest h.1)

pub kept_without : (d : Debugged) (j : NodeJournal) (known later : History) (checked_out : List CheckoutEntry) (changes : ℕ) (shared : Option CodeContext) (pid : ℕ)
    → NodeInvariant d j known checked_out changes shared → later ≡ record known { moves = known.moves ++ moved_in pid ∷ [] } → NodeInvariant d j later (without_entry pid checked_out) changes shared
kept_without d j known later checked_out changes shared pid kept same =
    subst (λ l. NodeInvariant d j l (without_entry pid checked_out) changes shared) (sym same) (record {
      replays = kept.replays;
      known_is = kept.known_is;
      seats = kept.seats;
      of_given = kept.of_given;
      checkouts = kept.checkouts;
      capacity =
          let few : length (without_entry pid checked_out) ≤ length checked_out = no_more pid checked_out in
          omega (arith, few, kept.capacity);
      counted = kept.counted;
      handed = handed_still d changes known.checkouts pid checked_out kept.handed;
      is_shared = kept.is_shared;
    })

-- ---- the checkout of a process

pub few_serial : (d : Debugged) (j : NodeJournal) (known : History) (checked_out : List CheckoutEntry) (changes : ℕ) (shared : Option CodeContext) (pid : ℕ) (e : CheckoutEntry)
    → NodeInvariant d j known checked_out changes shared → entry_of pid checked_out ≡ Some e → e.serial < 2 ^ 64 - 1
few_serial d j known checked_out changes shared pid e kept found =
    let own = own_entry d changes known.checkouts pid e checked_out kept.handed found in
    let less : e.serial < length known.checkouts = got_within known.checkouts e.serial own.0.origin own.0.handed_out in
    let most : length known.checkouts ≤ 2 ^ 64 - 1 = kept.checkouts in
    omega (arith, less, most)

pub open_is : (pid own told : ℕ) (entries : List CheckoutEntry) (e : CheckoutEntry) → entry_of pid entries ≡ Some e → e.serial < 2 ^ 64 - 1 → told ≡ min own (2 ^ 64 - 1)
    → (e.serial == told) ≡ is_serial own (serial_of pid (map checked_out_of entries))
open_is pid own told entries e found few is =
    same_serial e.serial told own few is ∙ sym (ap (is_serial own) (serial_found pid entries ∙ ap serial_in found))

pub opened : (pid own : ℕ) (entries : List CheckoutEntry) (e : CheckoutEntry) → entry_of pid entries ≡ Some e → is_serial own (serial_of pid (map checked_out_of entries)) ≡ (e.serial == own)
opened pid own entries e found = ap (is_serial own) (serial_found pid entries ∙ ap serial_in found)

pub not_open : (pid own : ℕ) (entries : List CheckoutEntry) → entry_of pid entries ≡ None → false ≡ is_serial own (serial_of pid (map checked_out_of entries))
not_open pid own entries none = sym (ap (is_serial own) (serial_found pid entries ∙ ap serial_in none))

-- ---- the node after it

pub taken : (d x : Debugged) (j : NodeJournal) (known later : History) (checked_out : List CheckoutEntry) (pid : ℕ) → x ≡ d → later ≡ record known { moves = known.moves ++ moved_in pid ∷ [] }
    → node_of x j later (without_entry pid checked_out) ≡ checked_in (node_of d j known checked_out) pid
taken d x j known later checked_out pid same is =
    ap (λ y. node_of y j later (without_entry pid checked_out)) same
    ∙ (ap (λ (l : History). node_of d j l (without_entry pid checked_out)) is
    ∙ ap (λ checkouts. record (node_of d j known checked_out) { checked_out = checkouts; moves = known.moves ++ moved_in pid ∷ [] }) (mapped pid checked_out))

pub advanced_is : (d x : Debugged) (j k : NodeJournal) (known later : History) (checked_out : List CheckoutEntry) (pid : ℕ) (rows : Private) (reply : DebugReply View)
    → debug_next d (event_of pid rows) ≡ record { answer = Ok reply; state = x } → debug_cut_event (event_of pid rows) (Ok reply) ≡ event_of pid rows
    → k.entries ≡ j.entries ++ entry_by (event_of pid rows) None reply ∷ [] → k.drained ≡ j.drained → k.limit ≡ j.limit
    → later ≡ record known { journal = known.journal ++ entry_by (event_of pid rows) None reply ∷ []; moves = known.moves ++ moved_in pid ∷ [] }
    → node_of x k later (without_entry pid checked_out) ≡ advanced (node_of d j known checked_out) pid rows reply
advanced_is d x j k known later checked_out pid rows reply next cut entered drained limit is =
    let event = event_of pid rows in
    let journal : k.entries ≡ j.entries ++ record { event = event; seat = None; reply = reply } ∷ []
    = entered ∙ ap (λ e. j.entries ++ record { event = e; seat = None; reply = reply } ∷ []) cut in
    let state : x ≡ (debug_next d event).state = sym (ap (λ (n : DebugNext). n.state) next) in
    ap (λ y. node_of y k later (without_entry pid checked_out)) state
    ∙ (ap (λ (l : History). node_of (debug_next d event).state k l (without_entry pid checked_out)) is
    ∙ (ap (λ es. record (node_of (debug_next d event).state k known (without_entry pid checked_out)) { journal = es; moves = known.moves ++ moved_in pid ∷ [] }) journal
    ∙ ((λ i. record (advanced (node_of d j known checked_out) pid rows reply) { checked_out = map checked_out_of (without_entry pid checked_out); drained = drained i; limit = limit i })
    ∙ ap (λ checkouts. record (advanced (node_of d j known checked_out) pid rows reply) { checked_out = checkouts }) (mapped pid checked_out))))

-- rows took effect: what is known of the other processes that are checked out still agrees
pub kept_on : (d x : Debugged) (j k : NodeJournal) (known later : History) (checked_out : List CheckoutEntry) (changes : ℕ) (shared : Option CodeContext) (pid : ℕ) (rows : Private)
    (reply : DebugReply View) → NodeInvariant d j known checked_out changes shared → AreSpotsLive d → DebugAnswers d (event_of pid rows) (Ok reply) x
    → k.entries ≡ j.entries ++ entry_by (event_of pid rows) None reply ∷ []
    → replay k.entries ≡ debug_after (replay j.entries) (event_of pid rows) (Ok reply)
    → later ≡ record known { journal = known.journal ++ entry_by (event_of pid rows) None reply ∷ []; moves = known.moves ++ moved_in pid ∷ [] }
    → length (without_entry pid checked_out) ≤ k.capacity → NodeInvariant x k later (without_entry pid checked_out) changes shared
kept_on d x j k known later checked_out changes shared pid rows reply kept live answers entered leads is capacity =
    let now : History = record known { moves = known.moves ++ moved_in pid ∷ [] } in
    kept_after d x j k now (without_entry pid checked_out) changes shared (event_of pid rows) None reply
    (kept_without d j known now checked_out changes shared pid kept refl) tt live answers (free_again pid checked_out) entered leads capacity later is
