-- What the indexes find.
use Rattle.std.proofs.Common.{◌≡◌, ℕ, zero, suc, ◌+◌, ◌<◌, nat_le, Bool, true, false, cond, List, [], ◌∷◌, length, map, drop, slice_get, get_or, refl, sym, ap, ◌∙◌, add-one, arith, Option, Some, None, option_map, option_and_then}
use Rattle.std.proofs.lemmas.List.{drop-map}
use Rattle.std.proofs.lemmas.Bool.Decides.{nat_tests}
use Rattle.std.proofs.lemmas.Option.{slice_get-get_or, same_Some}
use Rattle.std.specs.Cmp.Lexicographic.{nat_list_eq_equiv}
use Rattle.std.proofs.lemmas.Slice.Eq.{bytes_eq-Decides}
use Rattle.beam_agenda.specs.declared.entry.AgendaEntry.{AgendaEntry}
use Rattle.beam_agenda.specs.Prelude.{earlier, is_due_by, first_of, first_ready as first_entry, least_time, with_position, least_due}
use Rattle.beam_machine.specs.declared.process.Deadline.{Deadline}
use Rattle.beam_machine.specs.Prelude.{Process, is_waiting, is_ready, first_ready, ready_after, due_at, due_of, sooner, next_deadline, has_name, registered}
use Rattle.beam_state.specs.Prelude.{due_time, entry_of, if_named, IsIndexed}

-- ---- names

has_it : (name : List ℕ) (o : Option (List ℕ)) → has_name name o ≡ true → o ≡ Some name
has_it name None e = cc
has_it name (Some m) e = ap Some ((bytes_eq-Decides m name).0 e)

-- no process has the name
pub none_named : (ps : List Process) (name : List ℕ) → ((i : ℕ) (p : Process) → slice_get ps i ≡ Some p → p.name ≡ Some name → ⊥) → registered ps name ≡ None
none_named [] name h = refl
none_named (p ∷ ps) name h = at (none_named ps name (λ i. h (suc i))) (has_name name p.name) refl
  where
    at : registered ps name ≡ None → (b : Bool) → has_name name p.name ≡ b → cond b (Some p.pid) (registered ps name) ≡ None
    at rest true e = absurd (h 0 p refl (has_it name p.name e))
    at rest false e = rest

-- one process has the name
pub one_named : (ps : List Process) (name : List ℕ) (i : ℕ) (p : Process) → slice_get ps i ≡ Some p → p.name ≡ Some name
    → ((j : ℕ) (q : Process) → slice_get ps j ≡ Some q → q.name ≡ Some name → j ≡ i) → registered ps name ≡ Some p.pid
one_named [] name i p e named h = cc
one_named (q ∷ ps) name zero p e named h =
    let is : q ≡ p = same_Some q p e in
    let found : has_name name q.name ≡ true = ap (has_name name) (ap (λ q. q.name) is ∙ named) ∙ nat_list_eq_equiv.refl name in
    ap (λ b. cond b (Some q.pid) (registered ps name)) found ∙ ap (λ q. Some q.pid) is
one_named (q ∷ ps) name (suc i) p e named h =
    at (one_named ps name i p e named (λ j r g k. let near : suc j ≡ suc i = h (suc j) r g k in omega arith)) (has_name name q.name) refl
  where
    at : registered ps name ≡ Some p.pid → (b : Bool) → has_name name q.name ≡ b → cond b (Some q.pid) (registered ps name) ≡ Some p.pid
    at rest true f = let far : 0 ≡ suc i = h 0 q refl (has_it name q.name f) in absurd (omega arith)
    at rest false f = rest

pub none_found : (find : List ℕ → Option ℕ) (agenda : List AgendaEntry) (ps : List Process) (name : List ℕ) → IsIndexed find agenda ps → None ≡ find name → None ≡ registered ps name
unfolding IsIndexed
none_found find agenda ps name h e = sym (none_named ps name (λ i p there named. far i (e ∙ h.1 i p name there named)))
  where
    far : (i : ℕ) → None ≡ Some i → ⊥
    far i e = cc

pub one_found : (find : List ℕ → Option ℕ) (agenda : List AgendaEntry) (ps : List Process) (name : List ℕ) (i : ℕ) → IsIndexed find agenda ps → Some i ≡ find name
    → if_named name (slice_get ps i) ≡ registered ps name
unfolding IsIndexed
one_found find agenda ps name i h e = at (slice_get ps i) refl
  where
    only : (j : ℕ) (q : Process) → slice_get ps j ≡ Some q → q.name ≡ Some name → j ≡ i
    only j q there named = same_Some j i (sym (h.1 j q name there named) ∙ sym e)

    tests : (p : Process) → slice_get ps i ≡ Some p → (b : Bool) → has_name name p.name ≡ b → cond b (Some p.pid) None ≡ registered ps name
    tests p there true f = sym (one_named ps name i p there (has_it name p.name f) only)
    tests p there false f = sym (none_named ps name (λ j q other named.
        let same : q ≡ p = same_Some q p (sym other ∙ (ap (slice_get ps) (only j q other named) ∙ there)) in
        lacks (sym f ∙ (ap (λ p. has_name name p.name) (sym same) ∙ (ap (has_name name) named ∙ nat_list_eq_equiv.refl name)))))
      where
        lacks : false ≡ true → ⊥
        lacks e = cc

    at : (o : Option Process) → slice_get ps i ≡ o → if_named name o ≡ registered ps name
    at None there = sym (none_named ps name (λ j q other named.
        far q (sym there ∙ (ap (slice_get ps) (sym (only j q other named)) ∙ other))))
      where
        far : (q : Process) → None ≡ Some q → ⊥
        far q e = cc
    at (Some p) there = tests p there (has_name name p.name) refl

-- ---- the processes that can go on

abbrev pub pid_at : List Process → ℕ → Option ℕ
pid_at ps i = option_map (λ p. p.pid) (slice_get ps i)

shifted : (p : Process) (ps : List Process) (o : Option ℕ) → option_and_then (pid_at (p ∷ ps)) (option_map (λ n. n + 1) o) ≡ option_and_then (pid_at ps) o
shifted p ps None = refl
shifted p ps (Some n) = ap (pid_at (p ∷ ps)) (add-one n)

first_is : (ps : List Process) → first_ready ps ≡ option_and_then (pid_at ps) (first_of (λ e. e.ready) (map entry_of ps))
first_is [] = refl
first_is (p ∷ ps) = at (first_is ps) (is_ready p)
  where
    at : first_ready ps ≡ option_and_then (pid_at ps) (first_of (λ e. e.ready) (map entry_of ps)) → (b : Bool) → cond b (Some p.pid) (first_ready ps) ≡ option_and_then (pid_at (p ∷ ps)) (cond b (Some 0) (option_map (λ n. n + 1) (first_of (λ e. e.ready) (map entry_of ps))))
    at rest true = refl
    at rest false = rest ∙ sym (shifted p ps (first_of (λ e. e.ready) (map entry_of ps)))

got_behind : (from : ℕ) (ps : List Process) (n : ℕ) → slice_get (drop from ps) n ≡ slice_get ps (from + n)
got_behind zero ps n = let same : n ≡ 0 + n = omega arith in ap (slice_get ps) same
got_behind (suc from) [] n = refl
got_behind (suc from) (p ∷ ps) n =
    let same : suc (from + n) ≡ suc from + n = omega arith in
    got_behind from ps n ∙ ap (slice_get (p ∷ ps)) same

behind : (from : ℕ) (ps : List Process) (o : Option ℕ) → option_and_then (pid_at (drop from ps)) o ≡ option_and_then (pid_at ps) (option_map (λ n. from + n) o)
behind from ps None = refl
behind from ps (Some n) = ap (option_map (λ p. p.pid)) (got_behind from ps n)

pub ready_is : (find : List ℕ → Option ℕ) (agenda : List AgendaEntry) (ps : List Process) (from : ℕ) → IsIndexed find agenda ps
    → option_and_then (pid_at ps) (first_entry from agenda) ≡ ready_after from ps
unfolding IsIndexed
ready_is find agenda ps from h =
    ap (λ es. option_and_then (pid_at ps) (first_entry from es)) h.0
    ∙ (sym (behind from ps (first_of (λ e. e.ready) (drop from (map entry_of ps))))
    ∙ (ap (λ es. option_and_then (pid_at (drop from ps)) (first_of (λ e. e.ready) es)) (drop-map entry_of from ps)
    ∙ sym (first_is (drop from ps))))

-- ---- deadlines

abbrev pub time_at : List Process → ℕ × ℕ → Option (ℕ × ℕ)
time_at ps a = option_map (λ p. (a.0, p.pid)) (slice_get ps a.1)

due_is : (p : Process) → due_of p ≡ option_map (λ t. (t, p.pid)) (due_time p.status p.deadline)
due_is p = at (is_waiting p.status) p.deadline
  where
    at : (b : Bool) (o : Option Deadline) → cond b (due_at p.pid o) None ≡ option_map (λ t. (t, p.pid)) (cond b (option_map (λ d. d.at) o) None)
    at true None = refl
    at true (Some d) = refl
    at false o = refl

times : (ps : List Process) → least_time (map entry_of ps) ≡ option_map (λ a. a.0) (next_deadline ps)
times [] = refl
times (p ∷ ps) =
    ap (earlier (due_time p.status p.deadline)) (times ps)
    ∙ (at (due_time p.status p.deadline) (next_deadline ps) ∙ ap (λ d. option_map (λ a. a.0) (sooner d (next_deadline ps))) (sym (due_is p)))
  where
    at : (d : Option ℕ) (o : Option (ℕ × ℕ)) → earlier d (option_map (λ a. a.0) o) ≡ option_map (λ a. a.0) (sooner (option_map (λ t. (t, p.pid)) d) o)
    at None o = refl
    at (Some t) None = refl
    at (Some t) (Some a) = elim (nat_le t a.0) as (λ b. cond b (Some t) (Some a.0) ≡ option_map (λ a. a.0) (cond b (Some (t, p.pid)) (Some a))) [ true ↦ refl | false ↦ refl ]

here : (p : Process) (ps : List Process) (t : ℕ) → is_due_by t (due_time p.status p.deadline) ≡ true
    → option_and_then (time_at (p ∷ ps)) (with_position (map entry_of (p ∷ ps)) (Some t)) ≡ Some (t, p.pid)
here p ps t e = ap (λ b. option_and_then (time_at (p ∷ ps)) (option_map (λ n. (t, n)) (cond b (Some 0) (option_map (λ n. n + 1) (first_of (λ e. is_due_by t e.due) (map entry_of ps)))))) e

later : (p : Process) (ps : List Process) (t : ℕ) → is_due_by t (due_time p.status p.deadline) ≡ false
    → option_and_then (time_at (p ∷ ps)) (with_position (map entry_of (p ∷ ps)) (Some t)) ≡ option_and_then (time_at ps) (with_position (map entry_of ps) (Some t))
later p ps t e =
    ap (λ b. option_and_then (time_at (p ∷ ps)) (option_map (λ n. (t, n)) (cond b (Some 0) (option_map (λ n. n + 1) (first_of (λ e. is_due_by t e.due) (map entry_of ps)))))) e
    ∙ at (first_of (λ e. is_due_by t e.due) (map entry_of ps))
  where
    at : (o : Option ℕ) → option_and_then (time_at (p ∷ ps)) (option_map (λ n. (t, n)) (option_map (λ n. n + 1) o)) ≡ option_and_then (time_at ps) (option_map (λ n. (t, n)) o)
    at None = refl
    at (Some n) = ap (λ k. time_at (p ∷ ps) (t, k)) (add-one n)

itself : (t : ℕ) → nat_le t t ≡ true
itself t = grind (arith, nat_tests)

next_is : (ps : List Process) → next_deadline ps ≡ option_and_then (time_at ps) (least_due (map entry_of ps))
next_is [] = refl
next_is (p ∷ ps) =
    ap (λ d. sooner d (next_deadline ps)) (due_is p)
    ∙ (at (due_time p.status p.deadline) refl (next_deadline ps) (next_is ps ∙ ap (λ t. option_and_then (time_at ps) (with_position (map entry_of ps) t)) (times ps))
    ∙ ap (λ t. option_and_then (time_at (p ∷ ps)) (with_position (map entry_of (p ∷ ps)) (earlier (due_time p.status p.deadline) t))) (sym (times ps)))
  where
    at : (d : Option ℕ) → due_time p.status p.deadline ≡ d → (o : Option (ℕ × ℕ)) → o ≡ option_and_then (time_at ps) (with_position (map entry_of ps) (option_map (λ a. a.0) o))
        → sooner (option_map (λ t. (t, p.pid)) d) o ≡ option_and_then (time_at (p ∷ ps)) (with_position (map entry_of (p ∷ ps)) (earlier d (option_map (λ a. a.0) o)))
    at None e None h = refl
    at None e (Some a) h = h ∙ sym (later p ps a.0 (ap (is_due_by a.0) e))
    at (Some t) e None h = sym (here p ps t (ap (is_due_by t) e ∙ itself t))
    at (Some t) e (Some a) h = by (nat_le t a.0) refl
      where
        by : (b : Bool) → nat_le t a.0 ≡ b → cond b (Some (t, p.pid)) (Some a) ≡ option_and_then (time_at (p ∷ ps)) (with_position (map entry_of (p ∷ ps)) (cond b (Some t) (Some a.0)))
        by true f = sym (here p ps t (ap (is_due_by t) e ∙ itself t))
        by false f = h ∙ sym (later p ps a.0 (ap (is_due_by a.0) e ∙ f))

pub deadline_is : (find : List ℕ → Option ℕ) (agenda : List AgendaEntry) (ps : List Process) → IsIndexed find agenda ps → option_and_then (time_at ps) (least_due agenda) ≡ next_deadline ps
unfolding IsIndexed
deadline_is find agenda ps h = ap (λ es. option_and_then (time_at ps) (least_due es)) h.0 ∙ sym (next_is ps)

-- ---- what stands at a position

pub there : (ps : List Process) (i : ℕ) (p : Process) → i < length ps → p ≡ get_or ps i p → slice_get ps i ≡ Some p
there ps i p l g = slice_get-get_or ps i p l ∙ ap Some (sym g)

pub pid_there : (ps : List Process) (i n : ℕ) (p : Process) → i < length ps → p ≡ get_or ps i p → n ≡ p.pid → Some n ≡ pid_at ps i
pid_there ps i n p l g e = ap Some e ∙ sym (ap (option_map (λ p. p.pid)) (there ps i p l g))

pub time_there : (ps : List Process) (t i n : ℕ) (p : Process) → i < length ps → p ≡ get_or ps i p → n ≡ p.pid → Some (t, n) ≡ time_at ps (t, i)
time_there ps t i n p l g e = ap (λ n. Some (t, n)) e ∙ sym (ap (option_map (λ p. (t, p.pid))) (there ps i p l g))
