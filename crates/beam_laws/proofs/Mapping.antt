-- Every event keeps the code a map, and a module that comes and goes leaves no trace.
use Rattle.std.proofs.Common.{◌≡◌, ℕ, ◌+◌, ◌||◌, ◌&&◌, Bool, true, false, cond, List, [], ◌∷◌, refl, sym, ap, subst, ◌∙◌, Option, Some, None, Ok, is_some, not, option_map}
use Rattle.std.proofs.lemmas.Slice.Eq.{bytes_eq-Decides}
use Rattle.std.specs.Cmp.Lexicographic.{nat_list_eq_equiv}
use Rattle.beam_machine.specs.declared.event.Event.{Event}
use Rattle.beam_machine.specs.declared.event.Reply.{Reply}
use Rattle.beam_machine.specs.declared.event.Reply.TheVariants.{Changed}
use Rattle.beam_machine.specs.declared.event.Refused.TheVariants.{Sticky, TooMany}
use Rattle.beam_machine.specs.Prelude.{Code, Instance, versions_of, has_instance, with_versions, changed, loaded, deleted, purged, current_of, old_of, State, empty, Next, refused, replied, load_new, end_old, next, run, Versions}
use Rattle.beam_machine.specs.declared.event.Event.TheVariants as event
use Rattle.beam_model.specs.Prelude.{Listing, same_text}
use Rattle.beam_laws.specs.Prelude.{Lacks, IsMap}
use Rattle.beam_laws.proofs.Events.{Kept, kept_next, kept_run}
use Rattle.beam_laws.proofs.Numbering.{loaded_current}
use Rattle.beam_laws.proofs.Purging.{no_trace}

lacks_none : (code : Code) (name : List ℕ) → Lacks code name → has_instance (versions_of code name) ≡ false
lacks_none [] name h = refl
lacks_none (v ∷ rest) name h = ap (λ b. has_instance (cond {A = Versions} b v (versions_of rest name))) h.0 ∙ lacks_none rest name h.1

none_lacks : (code : Code) (name : List ℕ) → IsMap code → has_instance (versions_of code name) ≡ false → Lacks code name
none_lacks [] name m e = tt
none_lacks (v ∷ rest) name m e = go (none_lacks rest name m.1.1) (same_text v.name name) refl e
  where
    go : (has_instance (versions_of rest name) ≡ false → Lacks rest name) → (b : Bool) → same_text v.name name ≡ b → has_instance (cond {A = Versions} b v (versions_of rest name)) ≡ false → Lacks (v ∷ rest) name
    go k true q e = clash (sym m.0 ∙ e)
      where
        clash : true ≡ false → Lacks (v ∷ rest) name
        clash f = absurd (never f)
          where
            never : true ≡ false → ⊥
            never f = cc
    go k false q e = (q, k e)

-- ---- changes

either : (P : Code → Type 0) (b : Bool) (c d : Code) → P c → P d → P (cond b c d)
either P true c d h k = h
either P false c d h k = k

changed_lacks : (change : Versions → Versions) → ((v : Versions) → (change v).name ≡ v.name) → (code : Code) (name other : List ℕ) → Lacks code other → Lacks (changed change code name) other
changed_lacks change same [] name other h = tt
changed_lacks change same (v ∷ rest) name other h =
    either (λ c. Lacks c other) (same_text v.name name) (with_versions name (change v) rest) (v ∷ changed change rest name)
    (either (λ c. Lacks c other) (has_instance (change v) || has_instance (versions_of rest name)) (change v ∷ rest) rest (ap (λ x. same_text x other) (same v) ∙ h.0, h.1) h.1)
    (h.0, changed_lacks change same rest name other h.1)

changed_map : (change : Versions → Versions) → ((v : Versions) → (change v).name ≡ v.name) → (code : Code) (name : List ℕ) → IsMap code → IsMap (changed change code name)
changed_map change same [] name m = tt
changed_map change same (v ∷ rest) name m = go (changed_map change same rest name m.1.1) (same_text v.name name) refl
  where
    here : has_instance (versions_of rest name) ≡ false → (b : Bool) → has_instance (change v) ≡ b → IsMap (cond {A = Code} (b || has_instance (versions_of rest name)) (change v ∷ rest) rest)
    here none true e = (e, (subst (Lacks rest) (sym (same v)) m.1.0, m.1.1))
    here none false e = subst (λ b. IsMap (cond {A = Code} b (change v ∷ rest) rest)) (sym none) m.1.1

    go : IsMap (changed change rest name) → (b : Bool) → same_text v.name name ≡ b → IsMap (cond {A = Code} b (with_versions name (change v) rest) (v ∷ changed change rest name))
    go k true e = here (lacks_none rest name (subst (Lacks rest) ((bytes_eq-Decides v.name name).0 e) m.1.0)) (has_instance (change v)) refl
    go k false e = (m.0, (changed_lacks change same rest name v.name m.1.0, k))

loaded_lacks : (code : Code) (number : ℕ) (l : Listing) (other : List ℕ) → same_text l.name other ≡ false → Lacks code other → Lacks (loaded code number l) other
loaded_lacks [] number l other e h = (e, tt)
loaded_lacks (v ∷ rest) number l other e h =
    either (λ c. Lacks c other) (same_text v.name l.name) (record v { current = Some (record { number = number; listing = l }); old = v.current } ∷ rest) (v ∷ loaded rest number l)
    (h.0, h.1) (h.0, loaded_lacks rest number l other e h.1)

loaded_map : (code : Code) (number : ℕ) (l : Listing) → IsMap code → IsMap (loaded code number l)
loaded_map [] number l m = (refl, (tt, tt))
loaded_map (v ∷ rest) number l m = go (loaded_map rest number l m.1.1) (same_text v.name l.name) refl
  where
    go : IsMap (loaded rest number l) → (b : Bool) → same_text v.name l.name ≡ b
        → IsMap (cond {A = Code} b (record v { current = Some (record { number = number; listing = l }); old = v.current } ∷ rest) (v ∷ loaded rest number l))
    go k true e = (refl, (m.1.0, m.1.1))
    go k false e = (m.0, (loaded_lacks rest number l v.name (nat_list_eq_equiv.symm l.name v.name ∙ e) m.1.0, k))

-- ---- events

mapped : Kept
mapped = record {
  keeps = λ s t. IsMap s.code → IsMap t.code;
  then = λ s t u a b m. b (a m);
  still = λ s t a m. subst IsMap (sym a.0) m;
  clock = λ s now a m. m;
  delete = λ s name m. changed_map (λ v. record v { current = None; old = v.current }) (λ v. refl) s.code name m;
  purge = λ s name ps m. changed_map (λ v. record v { old = None }) (λ v. refl) s.code name m;
  load = λ s l m. loaded_map s.code (s.instances + 1) l m;
}

pub map_kept : (s : State) (e : Event Listing) → IsMap s.code → IsMap (next s e).state.code
unfolding mapped
map_kept s e = kept_next mapped s e

pub map_reached : (events : List (Event Listing)) → IsMap (run empty events).state.code
unfolding mapped
map_reached events = kept_run mapped empty events tt

-- ---- a module that comes and goes

unmapped : (o : Option Instance) → option_map (λ i. i.number) o ≡ None → is_some o ≡ false
unmapped None e = refl
unmapped (Some i) e = cc

loaded_old : (number : ℕ) (l : Listing) (code : Code) → old_of (loaded code number l) l.name ≡ current_of code l.name
loaded_old number l [] =
    ap (λ b. option_map (λ i. i.number) (cond {A = Versions} b (record { name = l.name; current = Some (record { number = number; listing = l }); old = None }) (versions_of [] l.name)).old) (nat_list_eq_equiv.refl l.name)
loaded_old number l (v ∷ rest) = go (loaded_old number l rest) (same_text v.name l.name) refl
  where
    new : Versions
    new = record v { current = Some (record { number = number; listing = l }); old = v.current }

    go : old_of (loaded rest number l) l.name ≡ current_of rest l.name → (b : Bool) → same_text v.name l.name ≡ b
        → old_of (cond {A = Code} b (new ∷ rest) (v ∷ loaded rest number l)) l.name ≡ option_map (λ i. i.number) (cond {A = Versions} b v (versions_of rest l.name)).current
    go k true e = ap (λ b. option_map (λ i. i.number) (cond {A = Versions} b new (versions_of rest l.name)).old) e
    go k false e = ap (λ b. option_map (λ i. i.number) (cond {A = Versions} b v (versions_of (loaded rest number l) l.name)).old) e ∙ k

-- the code after an answer that isn't a refusal
answered : (code : Code) (r : Reply) (b : Bool) (x y : Next) → (x.answer ≡ Ok r → x.state.code ≡ code) → (y.answer ≡ Ok r → y.state.code ≡ code) → (cond b x y).answer ≡ Ok r → (cond b x y).state.code ≡ code
answered code r true x y h k = h
answered code r false x y h k = k

load_code : (s : State) (l : Listing) (r : Reply) → (next s (event.Load l)).answer ≡ Ok r → (next s (event.Load l)).state.code ≡ loaded s.code (s.instances + 1) l
load_code s l r =
    answered (loaded s.code (s.instances + 1) l) r _ (refused s Sticky) _ (λ e. cc)
    (answered (loaded s.code (s.instances + 1) l) r _ (load_new (end_old s l.name) l) (refused s TooMany) (λ e. refl) (λ e. cc))

delete_code : (s : State) (name : List ℕ) (n : ℕ) → current_of s.code name ≡ Some n → old_of s.code name ≡ None → (next s (event.Delete name)).state.code ≡ deleted s.code name
delete_code s name n c o =
    ap (λ b. (cond {A = Next} b (replied (record s { code = deleted s.code name }) (Changed true)) (replied s (Changed false))).state.code) (λ i. is_some (c i) && not (is_some (o i)))

pub comes_and_goes : (s : State) (l : Listing) (r : Reply) → IsMap s.code → current_of s.code l.name ≡ None → old_of s.code l.name ≡ None → (next s (event.Load l)).answer ≡ Ok r
    → (run s (event.Load l ∷ event.Delete l.name ∷ event.Purge l.name ∷ [])).state.code ≡ s.code
comes_and_goes s l r m c o ok =
    let t : State = (next s (event.Load l)).state in
    let new : t.code ≡ loaded s.code (s.instances + 1) l = load_code s l r ok in
    let current : current_of t.code l.name ≡ Some (s.instances + 1) = ap (λ x. current_of x l.name) new ∙ loaded_current (s.instances + 1) l s.code in
    let old : old_of t.code l.name ≡ None = ap (λ x. old_of x l.name) new ∙ (loaded_old (s.instances + 1) l s.code ∙ c) in
    let none : has_instance (versions_of s.code l.name) ≡ false
    = ap (λ b. b || is_some (versions_of s.code l.name).old) (unmapped (versions_of s.code l.name).current c) ∙ unmapped (versions_of s.code l.name).old o in
    ap (λ x. purged x l.name) (delete_code t l.name (s.instances + 1) current old ∙ ap (λ x. deleted x l.name) new)
    ∙ no_trace s.code (s.instances + 1) l (none_lacks s.code l.name m none)

-- ---- a load

pub load_old : (s : State) (l : Listing) (r : Reply) → (next s (event.Load l)).answer ≡ Ok r → old_of (next s (event.Load l)).state.code l.name ≡ current_of s.code l.name
load_old s l r e = ap (λ x. old_of x l.name) (load_code s l r e) ∙ loaded_old (s.instances + 1) l s.code

pub loaded_others : (number : ℕ) (l : Listing) (code : Code) (other : List ℕ) → same_text l.name other ≡ false → versions_of (loaded code number l) other ≡ versions_of code other
loaded_others number l [] other apart =
    ap (λ b. cond {A = Versions} b (record { name = l.name; current = Some (record { number = number; listing = l }); old = None }) (versions_of [] other)) apart
loaded_others number l (v ∷ rest) other apart = go (loaded_others number l rest other apart) (same_text v.name l.name) refl
  where
    new : Versions
    new = record v { current = Some (record { number = number; listing = l }); old = v.current }

    go : versions_of (loaded rest number l) other ≡ versions_of rest other → (b : Bool) → same_text v.name l.name ≡ b
        → versions_of (cond {A = Code} b (new ∷ rest) (v ∷ loaded rest number l)) other ≡ cond {A = Versions} (same_text v.name other) v (versions_of rest other)
    go k true e =
        let another : same_text v.name other ≡ false = nat_list_eq_equiv.congr v.name l.name other e ∙ apart in
        ap (λ b. cond {A = Versions} b new (versions_of rest other)) another ∙ sym (ap (λ b. cond {A = Versions} b v (versions_of rest other)) another)
    go k false e = ap (cond (same_text v.name other) v) k

pub load_others : (s : State) (l : Listing) (r : Reply) (other : List ℕ) → (next s (event.Load l)).answer ≡ Ok r → same_text l.name other ≡ false
    → versions_of (next s (event.Load l)).state.code other ≡ versions_of s.code other
load_others s l r other e apart = ap (λ x. versions_of x other) (load_code s l r e) ∙ loaded_others (s.instances + 1) l s.code other apart
