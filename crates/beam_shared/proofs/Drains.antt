-- How many entries have left memory, after each change.
use Rattle.std.proofs.Common.{◌≡◌, ◌⊎◌, inl, ℕ, ◌==◌, ◌||◌, ◌≤◌, true, List, [], ◌∷◌, ◌++◌, length, refl, sym, ap, subst, ◌∙◌, arith, All, drop, map, eq-eqb, length-append}
use Rattle.std.specs.List.{list_any}
use Rattle.std.proofs.lemmas.Bool.{or_right}
use Rattle.std.proofs.Math.Seq.{drop-append_seam}
use Rattle.std.proofs.lemmas.List.{length-map, map-append}
use Rattle.std.proofs.lemmas.List.Elements.{All-cons}
use Rattle.beam_machine.specs.Prelude.{Entry, SentEvent, sent_event_of}
use Rattle.beam_journal.specs.Entering.{NodeJournal}
use Rattle.beam_receipts.specs.Refused.{IsDrainedAt}
use Rattle.beam_shared.specs.Prelude.{AreDrained}

-- nothing left memory meanwhile, and no entry was lost
still_drained : (drains later : List ℕ) (j k : NodeJournal) → AreDrained drains j → later ≡ drains → length j.entries ≤ length k.entries → k.drained ≡ j.drained → AreDrained later k
still_drained drains later j k h same longer drained = record {
  few = omega (arith, h.few, longer, drained);
  was = (λ i. list_any (λ (n : ℕ). n == drained i) (0 ∷ same i)) ∙ h.was;
  last = subst (λ d. All (λ n. n ≤ d) later) (sym drained) (subst (λ l. All (λ n. n ≤ j.drained) l) (sym same) h.last);
}

pub drained_as : (drains later : List ℕ) (j k : NodeJournal) → AreDrained drains j → later ≡ drains → k.entries ≡ j.entries → k.drained ≡ j.drained → AreDrained later k
drained_as drains later j k h same entries drained = still_drained drains later j k h same (omega (arith, ap length entries)) drained

pub drained_on : (drains later : List ℕ) (j k : NodeJournal) (more : List Entry) → AreDrained drains j → later ≡ drains → k.entries ≡ j.entries ++ more → k.drained ≡ j.drained
    → AreDrained later k
drained_on drains later j k more h same entries drained =
    still_drained drains later j k h same (omega (arith, ap length entries ∙ length-append j.entries more)) drained

-- all entries left memory
pub all_drained : (drains : List ℕ) (j k : NodeJournal) → AreDrained drains j → k.entries ≡ j.entries → k.drained ≡ length j.entries → AreDrained (length j.entries ∷ drains) k
all_drained drains j k h entries drained = record {
  few = omega (arith, ap length entries, drained);
  was = was_by (length j.entries) k.drained (sym drained);
  last = All-cons (λ n. n ≤ k.drained) (length j.entries) drains (omega (arith, drained)) (λ i d less. let was = h.last i d less in omega (arith, was, h.few, drained));
}
  where
    was_by : (m n : ℕ) → m ≡ n → list_any (λ (x : ℕ). x == n) (0 ∷ m ∷ drains) ≡ true
    was_by m n same =
        let others = list_any (λ (x : ℕ). x == n) drains in
        or_right (0 == n) ((m == n) || others) (ap (λ b. b || others) (eq-eqb m n same))

-- as many have left memory now
pub drained_now : (drains : List ℕ) (j : NodeJournal) (entered drained : ℕ) → AreDrained drains j → entered ≡ length j.entries → drained ≡ j.drained → IsDrainedAt drains entered drained
drained_now drains j entered drained h all is = record {
  few = omega (arith, h.few, all, is);
  was = ap (λ (m : ℕ). list_any (λ (n : ℕ). n == m) (0 ∷ drains)) is ∙ h.was;
  last = λ i d less. let was = h.last i d less in inl (omega (arith, was, is));
}

-- the entries after the first ones that have left memory are the last ones
pub those_left : (journal first more : List Entry) (n : ℕ) → journal ≡ first ++ more → length first ≡ n
    → map sent_event_of journal ≡ map sent_event_of first ++ drop n (map sent_event_of journal)
those_left journal first more n is count =
    let sent : map sent_event_of journal ≡ map sent_event_of first ++ map sent_event_of more = ap (map sent_event_of) is ∙ map-append sent_event_of first more in
    let front : n ≡ length (map sent_event_of first) = sym count ∙ sym (length-map first sent_event_of) in
    let rest : drop n (map sent_event_of journal) ≡ map sent_event_of more
    = ap (drop n) sent ∙ (ap (λ m. drop m (map sent_event_of first ++ map sent_event_of more)) front ∙ drop-append_seam (map sent_event_of first) (map sent_event_of more)) in
    sent ∙ ap (λ (l : List SentEvent). map sent_event_of first ++ l) (sym rest)
