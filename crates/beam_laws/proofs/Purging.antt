-- A module after a purge.
use Rattle.std.proofs.Common.{◌≡◌, ℕ, Bool, true, false, cond, List, [], ◌∷◌, length, refl, sym, ap, ◌∙◌, is_some, Ok, Some, None, option_map, flat_map}
use Rattle.std.proofs.lemmas.List.{length-map}
use Rattle.std.specs.Cmp.Lexicographic.{nat_list_eq_equiv}
use Rattle.std.specs.List.{AllByRecursion, list_any}
use Rattle.beam_machine.specs.declared.event.Event.TheVariants as event
use Rattle.beam_term.specs.Prelude.{nil_term}
use Rattle.beam_model.specs.Prelude.{Listing, same_text, is_erlang}
use Rattle.beam_machine.specs.declared.event.Reply.{Reply}
use Rattle.beam_machine.specs.declared.event.Reply.TheVariants.{Changed}
use Rattle.beam_machine.specs.declared.event.Refused.{Refused}
use Rattle.beam_machine.specs.declared.event.Refused.TheVariants.{Sticky, NotPurged, TooMany}
use Rattle.beam_machine.specs.Prelude.{Process, ended, killed, State, process_of, with_signals, downs, Next, refused, replied, end_old, load_new, has_instances_left, is_lingered_in, next, Code, Instance, versions_of, old_of, current_of, with_versions, loaded, deleted, purged, lingers, lingers_at, lingers_in_old, pids_of, ends_or_hears, killing, Versions}
use Rattle.beam_laws.proofs.Hearing.{nobody_ends, process_map}
use Rattle.beam_laws.proofs.Lookups.{current_with, old_with, others_with}

pub purged_old : (code : Code) (name : List ℕ) → old_of (purged code name) name ≡ None
purged_old [] name = refl
purged_old (v ∷ rest) name = by (same_text v.name name) refl (purged_old rest name)
  where
    by : (b : Bool) → same_text v.name name ≡ b → old_of (purged rest name) name ≡ None → old_of (cond {A = Code} b (with_versions name (record v { old = None }) rest) (v ∷ purged rest name)) name ≡ None
    by true e behind = ap (option_map (λ i. i.number)) (old_with name (record v { old = None }) rest e)
    by false e behind = ap (λ b. option_map (λ i. i.number) (cond b v (versions_of (purged rest name) name)).old) e ∙ behind

pub purged_current : (code : Code) (name : List ℕ) → current_of (purged code name) name ≡ current_of code name
purged_current [] name = refl
purged_current (v ∷ rest) name = by (same_text v.name name) refl (purged_current rest name)
  where
    by : (b : Bool) → same_text v.name name ≡ b → current_of (purged rest name) name ≡ current_of rest name → current_of (cond {A = Code} b (with_versions name (record v { old = None }) rest) (v ∷ purged rest name)) name ≡ option_map (λ i. i.number) (cond b v (versions_of rest name)).current
    by true e behind = ap (option_map (λ i. i.number)) (current_with name (record v { old = None }) rest e)
    by false e behind = ap (λ b. option_map (λ i. i.number) (cond b v (versions_of (purged rest name) name)).current) e ∙ behind

pub purged_others : (code : Code) (name other : List ℕ) → same_text name other ≡ false → versions_of (purged code name) other ≡ versions_of code other
purged_others [] name other apart = refl
purged_others (v ∷ rest) name other apart = by (same_text v.name name) refl (purged_others rest name other apart)
  where
    by : (b : Bool) → same_text v.name name ≡ b → versions_of (purged rest name) other ≡ versions_of rest other
        → versions_of (cond {A = Code} b (with_versions name (record v { old = None }) rest) (v ∷ purged rest name)) other ≡ cond (same_text v.name other) v (versions_of rest other)
    by true e behind =
        let another : same_text v.name other ≡ false = nat_list_eq_equiv.congr v.name name other e ∙ apart in
        others_with name other (record v { old = None }) rest e apart ∙ ap (λ b. cond b v (versions_of rest other)) (sym another)
    by false e behind = ap (cond (same_text v.name other) v) behind

-- a module that comes and goes
pub no_trace : (code : Code) (number : ℕ) (l : Listing) → AllByRecursion (λ v. same_text v.name l.name ≡ false) code → purged (deleted (loaded code number l) l.name) l.name ≡ code
no_trace [] number l h =
    ap (λ b. purged (cond {A = Code} b (old ∷ []) (new ∷ [])) l.name) own ∙ ap (λ b. cond {A = Code} b [] (old ∷ [])) own
  where
    own : same_text l.name l.name ≡ true
    own = nat_list_eq_equiv.refl l.name

    instance : Instance
    instance = record { number = number; listing = l }

    new : Versions
    new = record { name = l.name; current = Some instance; old = None }

    old : Versions
    old = record { name = l.name; current = None; old = Some instance }
no_trace (v ∷ rest) number l h =
    ap (λ b. purged (deleted (cond {A = Code} b (over ∷ rest) (v ∷ first)) l.name) l.name) h.0
    ∙ (ap (λ b. purged (cond {A = Code} b (with_versions l.name (record v { current = None; old = v.current }) first) (v ∷ second)) l.name) h.0
    ∙ (ap (λ b. cond {A = Code} b (with_versions l.name (record v { old = None }) second) (v ∷ purged second l.name)) h.0
    ∙ ap (λ others. v ∷ others) (no_trace rest number l h.1)))
  where
    over : Versions
    over = record v { current = Some (record { number = number; listing = l }); old = v.current }

    first : Code
    first = loaded rest number l

    second : Code
    second = deleted first l.name

pub soft_keeps : (s : State) (name : List ℕ) → (next s (event.SoftPurge name)).state.processes ≡ s.processes
soft_keeps s name = elim (is_lingered_in s name) as (λ b. (cond b (replied s (Changed false)) (replied (record s { code = purged s.code name }) (Changed true))).state.processes ≡ s.processes) [
  | true ↦ refl
  | false ↦ refl
]

pub soft_removes : (s : State) (name : List ℕ) → (next s (event.SoftPurge name)).answer ≡ Ok (Changed true)
    → (list_any (lingers_in_old s.code name) s.processes ≡ false) × (old_of (next s (event.SoftPurge name)).state.code name ≡ None)
soft_removes s name = elim (is_lingered_in s name) as (λ b. (cond b (replied s (Changed false)) (replied (record s { code = purged s.code name }) (Changed true))).answer ≡ Ok (Changed true)
    → (b ≡ false) × (old_of (cond b (replied s (Changed false)) (replied (record s { code = purged s.code name }) (Changed true))).state.code name ≡ None)) [
      | true ↦ λ e. cc
      | false ↦ λ e. (refl, purged_old s.code name)
    ]

-- of two outcomes, each with processes ps where it isn't refused
either : (ps : List Process) (r : Reply) (b : Bool) (x y : Next) → (x.answer ≡ Ok r → x.state.processes ≡ ps) → (y.answer ≡ Ok r → y.state.processes ≡ ps) → (cond b x y).answer ≡ Ok r → (cond b x y).state.processes ≡ ps
either ps r true x y h k = h
either ps r false x y h k = k

never : (s : State) (ps : List Process) (r : Reply) (q : Refused) → (refused s q).answer ≡ Ok r → (refused s q).state.processes ≡ ps
never s ps r q e = cc

pub load_ends : (s : State) (l : Listing) (r : Reply) → (next s (event.Load l)).answer ≡ Ok r → (next s (event.Load l)).state.processes ≡ (next s (event.Purge l.name)).state.processes
load_ends s l r =
    let ps : List Process = (end_old s l.name).processes in
    let done : Next = load_new (end_old s l.name) l in
    either ps r (is_erlang l.name) (refused s Sticky) (cond (has_instances_left s) done (refused s TooMany)) (never s ps r Sticky)
    (either ps r (has_instances_left s) done (refused s TooMany) (λ e. refl) (never s ps r TooMany))

same : (ps : List Process) (b : Bool) (x y : Next) → x.state.processes ≡ ps → y.state.processes ≡ ps → (cond b x y).state.processes ≡ ps
same ps true x y h k = h
same ps false x y h k = k

pub strict_ends_none : (s : State) (l : Listing) → (next s (event.LoadStrict l)).state.processes ≡ s.processes
strict_ends_none s l =
    let b : Bool = is_some (old_of s.code l.name) in
    let loads : Next = cond (has_instances_left s) (load_new s l) (refused s TooMany) in
    same s.processes (is_erlang l.name) (refused s Sticky) (cond b (refused s NotPurged) loads) refl
    (same s.processes b (refused s NotPurged) loads refl (same s.processes (has_instances_left s) (load_new s l) (refused s TooMany) refl refl))

-- ---- the processes that end

-- the processes that pass a test end; any other gets their DOWNs
killed_at : (test : Process → Bool) (ps : List Process) (pid : ℕ) (p : Process) → process_of ps pid ≡ Some p → process_of (killing test ps) pid ≡ Some (ends_or_hears test (pids_of test ps) p)
killed_at test ps pid p e = process_map (ends_or_hears test (pids_of test ps)) ps pid ∙ ap (option_map (ends_or_hears test (pids_of test ps))) e

pub purge_ends : (s : State) (name : List ℕ) (number pid : ℕ) (p : Process) → old_of s.code name ≡ Some number → process_of s.processes pid ≡ Some p → lingers number p ≡ true
    → process_of (next s (event.Purge name)).state.processes pid ≡ Some (ended p killed nil_term)
purge_ends s name number pid p old e lingering =
    let test : Process → Bool = lingers_in_old s.code name in
    let passes : test p ≡ true = ap (λ o. lingers_at o p) old ∙ lingering in
    killed_at test s.processes pid p e
    ∙ ap (λ b. Some (cond b (ended p killed nil_term) (with_signals (flat_map (λ at. downs at killed p.monitors) (pids_of test s.processes)) p))) passes

pub purge_spares : (s : State) (name : List ℕ) (number pid : ℕ) (p : Process) → old_of s.code name ≡ Some number → process_of s.processes pid ≡ Some p → lingers number p ≡ false
    → process_of (next s (event.Purge name)).state.processes pid ≡ Some (with_signals (flat_map (λ at. downs at killed p.monitors) (pids_of (lingers number) s.processes)) p)
purge_spares s name number pid p old e apart =
    let test : Process → Bool = lingers_in_old s.code name in
    let fails : test p ≡ false = ap (λ o. lingers_at o p) old ∙ apart in
    killed_at test s.processes pid p e
    ∙ (ap (λ b. Some (cond b (ended p killed nil_term) (with_signals (flat_map (λ at. downs at killed p.monitors) (pids_of test s.processes)) p))) fails
    ∙ ap (λ o. Some (with_signals (flat_map (λ at. downs at killed p.monitors) (pids_of (lingers_at o) s.processes)) p)) old)

pub nobody_at : (ps : List Process) → list_any (lingers_at None) ps ≡ false
nobody_at [] = refl
nobody_at (p ∷ ps) = nobody_at ps

pub purge_idle : (s : State) (name : List ℕ) → old_of s.code name ≡ None → (next s (event.Purge name)).state.processes ≡ s.processes
purge_idle s name old = ap (λ o. killing (lingers_at o) s.processes) old ∙ nobody_ends (lingers_at None) s.processes (nobody_at s.processes)

pub purge_count : (s : State) (name : List ℕ) → length (next s (event.Purge name)).state.processes ≡ length s.processes
purge_count s name = length-map s.processes (ends_or_hears (lingers_in_old s.code name) (pids_of (lingers_in_old s.code name) s.processes))
