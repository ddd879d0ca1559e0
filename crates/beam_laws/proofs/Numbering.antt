-- Numbers of instances.
use Rattle.std.proofs.Common.{◌≡◌, nat_lt, ℕ, ◌+◌, ◌≤◌, ◌<◌, Bool, true, false, ◌==◌, ◌||◌, cond, List, [], ◌∷◌, refl, sym, ap, subst, ◌∙◌, arith, Option, is_some, Some, None, Ok, option_map}
use Rattle.std.proofs.lemmas.Bool.Decides.{nat_tests}
use Rattle.std.specs.Cmp.Lexicographic.{nat_list_eq_equiv}
use Rattle.beam_lemmas.proofs.Options.{not_some}
use Rattle.beam_machine.specs.declared.event.Event.{Event}
use Rattle.beam_machine.specs.declared.event.Reply.{Reply}
use Rattle.beam_machine.specs.declared.event.Refused.TheVariants.{Sticky, NotPurged, TooMany}
use Rattle.beam_machine.specs.Prelude.{Code, Instance, versions_of, listing_in, listing_of, is_live, has_instance, with_versions, changed, loaded, deleted, purged, current_of, State, empty, Next, refused, load_new, end_old, next, run, Versions}
use Rattle.beam_machine.specs.declared.event.Event.TheVariants as event
use Rattle.beam_model.specs.Prelude.{Listing, same_text}
use Rattle.beam_laws.specs.Prelude.{bears, how_many}
pub use Rattle.beam_laws.specs.Numbers.{Ordered}
use Rattle.beam_laws.proofs.Events.{kept_next, Kept, kept_run}

-- ---- changes of code

fewer_with : (n : ℕ) (name : List ℕ) (v : Versions) (rest : Code) → how_many n (with_versions name v rest) ≤ bears n v.current + (bears n v.old + how_many n rest)
fewer_with n name v rest =
    elim (has_instance v || has_instance (versions_of rest name)) as (λ b. how_many n (cond {A = Code} b (v ∷ rest) rest) ≤ bears n v.current + (bears n v.old + how_many n rest)) [
      | true ↦ omega arith
      | false ↦ omega arith
    ]

changed_fewer : (change : Versions → Versions) → ((n : ℕ) (v : Versions) → bears n (change v).current + bears n (change v).old ≤ bears n v.current + bears n v.old)
    → (n : ℕ) (code : Code) (name : List ℕ) → how_many n (changed change code name) ≤ how_many n code
changed_fewer change fewer n [] name = omega arith
changed_fewer change fewer n (v ∷ rest) name =
    elim (same_text v.name name) as (λ b. how_many n (cond {A = Code} b (with_versions name (change v) rest) (v ∷ changed change rest name)) ≤ how_many n (v ∷ rest)) [
      | true ↦ omega (arith, fewer n v, fewer_with n name (change v) rest)
      | false ↦ omega (arith, changed_fewer change fewer n rest name)
    ]

pub deleted_fewer : (n : ℕ) (code : Code) (name : List ℕ) → how_many n (deleted code name) ≤ how_many n code
deleted_fewer n code name = changed_fewer (λ v. record v { current = None; old = v.current }) (λ k v. omega arith) n code name

pub purged_fewer : (n : ℕ) (code : Code) (name : List ℕ) → how_many n (purged code name) ≤ how_many n code
purged_fewer n code name = changed_fewer (λ v. record v { old = None }) (λ k v. omega arith) n code name

pub loaded_one : (n number : ℕ) (l : Listing) (code : Code) → how_many n (loaded code number l) ≤ bears n (Some (record { number = number; listing = l })) + how_many n code
loaded_one n number l [] = omega arith
loaded_one n number l (v ∷ rest) =
    let new : Instance = record { number = number; listing = l } in
    elim (same_text v.name l.name) as (λ b. how_many n (cond b (record v { current = Some new; old = v.current } ∷ rest) (v ∷ loaded rest number l)) ≤ bears n (Some new) + how_many n (v ∷ rest)) [
      | true ↦ omega arith
      | false ↦ omega (arith, loaded_one n number l rest)
    ]

pub one_at_most : (n number : ℕ) (l : Listing) → bears n (Some (record { number = number; listing = l })) ≤ 1
one_at_most n number l = elim (number == n) as (λ b. cond b 1 0 ≤ 1) [
  | true ↦ omega arith
  | false ↦ omega arith
]

another : (n number : ℕ) (l : Listing) → number < n → bears n (Some (record { number = number; listing = l })) ≡ 0
another n number l h = let e : (number == n) ≡ false = grind (arith, nat_tests) in ap (λ b. cond b 1 0) e

later : (n number : ℕ) (l : Listing) → n < number → bears n (Some (record { number = number; listing = l })) ≡ 0
later n number l h = let e : (number == n) ≡ false = grind (arith, nat_tests) in ap (λ b. cond b 1 0) e

-- ---- what events keep

fewer_ordered : (code new : Code) (count : ℕ) → ((n : ℕ) → how_many n new ≤ how_many n code) → Ordered code count → Ordered new count
fewer_ordered code new count fewer o = λ n. (omega (arith, fewer n, (o n).0), λ h. omega (arith, fewer n, (o n).1 h))

pub loaded_ordered : (code : Code) (count : ℕ) (l : Listing) → Ordered code count → Ordered (loaded code (count + 1) l) (count + 1)
loaded_ordered code count l o n = (at_most (n == count + 1) refl, above)
  where
    at_most : (b : Bool) → (n == count + 1) ≡ b → how_many n (loaded code (count + 1) l) ≤ 1
    at_most true e =
        let less : count < n = grind (arith, nat_tests) in
        omega (arith, loaded_one n (count + 1) l code, one_at_most n (count + 1) l, (o n).1 less)
    at_most false e =
        let other : bears n (Some (record { number = count + 1; listing = l })) ≡ 0 = let f : (count + 1 == n) ≡ false = grind (arith, nat_tests) in ap (λ b. cond b 1 0) f in
        omega (arith, loaded_one n (count + 1) l code, other, (o n).0)

    above : count + 1 < n → how_many n (loaded code (count + 1) l) ≡ 0
    above h =
        let less : count < n = omega (arith, h) in
        omega (arith, loaded_one n (count + 1) l code, another n (count + 1) l h, (o n).1 less)

ordered : Kept
ordered = record {
  keeps = λ s t. Ordered s.code s.instances → Ordered t.code t.instances;
  then = λ s t u a b o. b (a o);
  still = λ s t a o. subst (λ c. Ordered c t.instances) (sym a.0) (subst (Ordered s.code) (sym a.2) o);
  clock = λ s now a o. o;
  delete = λ s name o. fewer_ordered s.code (deleted s.code name) s.instances (λ n. deleted_fewer n s.code name) o;
  purge = λ s name ps o. fewer_ordered s.code (purged s.code name) s.instances (λ n. purged_fewer n s.code name) o;
  load = λ s l o. loaded_ordered s.code s.instances l o;
}

empty_ordered : Ordered empty.code empty.instances
empty_ordered n = (omega arith, λ h. refl)

pub once : (events : List (Event Listing)) (n : ℕ) → how_many n (run empty events).state.code ≤ 1
unfolding ordered
once events n = (kept_run ordered empty events empty_ordered n).0

given : (events : List (Event Listing)) (n : ℕ) → (run empty events).state.instances < n → how_many n (run empty events).state.code ≡ 0
unfolding ordered
given events n = (kept_run ordered empty events empty_ordered n).1

more : Kept
more = record {
  keeps = λ s t. s.instances ≤ t.instances;
  then = λ s t u a b. omega (arith, a, b);
  still = λ s t a. omega (arith, a.2);
  clock = λ s now a. omega arith;
  delete = λ s name. omega arith;
  purge = λ s name ps. omega arith;
  load = λ s l. omega arith;
}

pub count : (s : State) (events : List (Event Listing)) → s.instances ≤ (run s events).state.instances
unfolding more
count s events = kept_run more s events

-- a number that was given, and that no instance has
abbrev Gone : ℕ → Code → ℕ → Type 0
Gone n code count = (n ≤ count) × (how_many n code ≡ 0)

loaded_gone : (n : ℕ) (code : Code) (count : ℕ) (l : Listing) → Gone n code count → Gone n (loaded code (count + 1) l) (count + 1)
loaded_gone n code count l g = (omega (arith, g.0), omega (arith, loaded_one n (count + 1) l code, later n (count + 1) l (omega (arith, g.0)), g.1))

stays_gone : ℕ → Kept
stays_gone n = record {
  keeps = λ s t. Gone n s.code s.instances → Gone n t.code t.instances;
  then = λ s t u a b g. b (a g);
  still = λ s t a g. subst (λ c. Gone n c t.instances) (sym a.0) (subst (Gone n s.code) (sym a.2) g);
  clock = λ s now a g. g;
  delete = λ s name g. (g.0, omega (arith, deleted_fewer n s.code name, g.1));
  purge = λ s name ps g. (g.0, omega (arith, purged_fewer n s.code name, g.1));
  load = λ s l g. loaded_gone n s.code s.instances l g;
}

gone : (s : State) (events : List (Event Listing)) (n : ℕ) → n ≤ s.instances → how_many n s.code ≡ 0 → how_many n (run s events).state.code ≡ 0
unfolding stays_gone
gone s events n h g = (kept_run (stays_gone n) s events (h, g)).1

-- ---- live instances

counted_in : (n k : ℕ) (o : Option Instance) (other : Option Listing) → is_some other ≡ nat_lt 0 k → is_some (listing_in o n other) ≡ nat_lt 0 (bears n o + k)
counted_in n k None other e = e ∙ ap (nat_lt 0) (omega arith)
counted_in n k (Some i) other e = elim (i.number == n) as (λ b. is_some (cond b (Some i.listing) other) ≡ nat_lt 0 (cond b 1 0 + k)) [
  | true ↦ grind (arith, nat_tests)
  | false ↦ e ∙ ap (nat_lt 0) (omega arith)
]

-- an instance is live where the code has its number
pub counted : (n : ℕ) (code : Code) → is_live code n ≡ nat_lt 0 (how_many n code)
counted n [] = grind (arith, nat_tests)
counted n (v ∷ rest) =
    counted_in n (bears n v.old + how_many n rest) v.current (listing_in v.old n (listing_of rest n)) (counted_in n (how_many n rest) v.old (listing_of rest n) (counted n rest))

pub live_given : (events : List (Event Listing)) (n : ℕ) → is_live (run empty events).state.code n ≡ true → n ≤ (run empty events).state.instances
live_given events n live = by (nat_lt (run empty events).state.instances n) refl
  where
    by : (b : Bool) → nat_lt (run empty events).state.instances n ≡ b → n ≤ (run empty events).state.instances
    by false e = grind (arith, nat_tests)
    by true e =
        let above : (run empty events).state.instances < n = grind (arith, nat_tests) in
        let none : how_many n (run empty events).state.code ≡ 0 = given events n above in
        let dead : is_live (run empty events).state.code n ≡ nat_lt 0 0 = counted n (run empty events).state.code ∙ ap (nat_lt 0) none in
        absurd (clash (sym live ∙ dead))
      where
        clash : true ≡ nat_lt 0 0 → ⊥
        clash q = cc

pub live_gone : (s : State) (events : List (Event Listing)) (n : ℕ) → n ≤ s.instances → is_live s.code n ≡ false → is_live (run s events).state.code n ≡ false
live_gone s events n h dead =
    let unlisted : nat_lt 0 (how_many n s.code) ≡ false = sym (counted n s.code) ∙ dead in
    let none : how_many n s.code ≡ 0 = grind (arith, nat_tests) in
    counted n (run s events).state.code ∙ ap (nat_lt 0) (gone s events n h none)

-- ---- for the crates above

pub ordered_next : (s : State) (e : Event Listing) → Ordered s.code s.instances → Ordered (next s e).state.code (next s e).state.instances
unfolding ordered
ordered_next s e = kept_next ordered s e

pub ordered_purged : (code : Code) (count : ℕ) (name : List ℕ) → Ordered code count → Ordered (purged code name) count
ordered_purged code count name = fewer_ordered code (purged code name) count (λ n. purged_fewer n code name)

-- no instance has the next number
pub next_is_free : (code : Code) (count : ℕ) → Ordered code count → listing_of code (count + 1) ≡ None
next_is_free code count o =
    let none : how_many (count + 1) code ≡ 0 = (o (count + 1)).1 (omega arith) in
    let below : nat_lt 0 0 ≡ false = grind (arith, nat_tests) in
    not_some (listing_of code (count + 1)) (counted (count + 1) code ∙ (ap (nat_lt 0) none ∙ below))

-- ---- the next number

pub loaded_current : (number : ℕ) (l : Listing) (code : Code) → current_of (loaded code number l) l.name ≡ Some number
loaded_current number l [] = ap (λ b. option_map (λ i. i.number) (cond b (record { name = l.name; current = Some (record { number = number; listing = l }); old = None }) (versions_of [] l.name)).current) (nat_list_eq_equiv.refl l.name)
loaded_current number l (v ∷ rest) = by (same_text v.name l.name) refl (loaded_current number l rest)
  where
    new : Versions
    new = record v { current = Some (record { number = number; listing = l }); old = v.current }

    by : (b : Bool) → same_text v.name l.name ≡ b → current_of (loaded rest number l) l.name ≡ Some number → current_of (cond b (new ∷ rest) (v ∷ loaded rest number l)) l.name ≡ Some number
    by true e behind = ap (λ b. option_map (λ i. i.number) (cond b new (versions_of rest l.name)).current) e
    by false e behind = ap (λ b. option_map (λ i. i.number) (cond b v (versions_of (loaded rest number l) l.name)).current) e ∙ behind

-- the module's new instance has the next number
abbrev Takes : State → Listing → State → Type 0
Takes s l t = (current_of t.code l.name ≡ Some (s.instances + 1)) × (t.instances ≡ s.instances + 1)

taken_or : (s : State) (l : Listing) (r : Reply) (b : Bool) (x y : Next) → (x.answer ≡ Ok r → Takes s l x.state) → (y.answer ≡ Ok r → Takes s l y.state) → (cond b x y).answer ≡ Ok r → Takes s l (cond b x y).state
taken_or s l r true x y h k = h
taken_or s l r false x y h k = k

pub load_takes : (s : State) (l : Listing) (r : Reply) → (next s (event.Load l)).answer ≡ Ok r → Takes s l (next s (event.Load l)).state
load_takes s l r =
    taken_or s l r _ (refused s Sticky) _ (λ e. cc)
    (taken_or s l r _ (load_new (end_old s l.name) l) (refused s TooMany) (λ e. (loaded_current (s.instances + 1) l s.code, refl)) (λ e. cc))

pub strict_takes : (s : State) (l : Listing) (r : Reply) → (next s (event.LoadStrict l)).answer ≡ Ok r → Takes s l (next s (event.LoadStrict l)).state
strict_takes s l r =
    taken_or s l r _ (refused s Sticky) _ (λ e. cc)
    (taken_or s l r _ (refused s NotPurged) _ (λ e. cc)
    (taken_or s l r _ (load_new s l) (refused s TooMany) (λ e. (loaded_current (s.instances + 1) l s.code, refl)) (λ e. cc)))
