-- The parts of a node after an upgrade list that isn't refused.
use Rattle.std.proofs.Common.{◌≡◌, ◌≢◌, ℕ, ◌+◌, ◌-◌, ◌<◌, ◌^◌, Bool, true, false, ◌||◌, cond, not, List, [], ◌∷◌, length, map, refl, ap, ◌∙◌, arith, Option, Some, None, is_some, Ok, option_map}
use Rattle.std.proofs.lemmas.Bool.Decides.{nat_tests}
use Rattle.std.specs.List.{list_any}
use Rattle.std.proofs.lemmas.Bool.{and_parts, or_parts}
use Rattle.beam_machine.specs.declared.event.Event.TheVariants as event
use Rattle.beam_term.specs.Prelude.{nil_term}
use Rattle.beam_model.specs.Prelude.{Listing, is_erlang, same_text}
use Rattle.beam_machine.specs.declared.event.UpgradeMode.{UpgradeMode}
use Rattle.beam_machine.specs.declared.event.UpgradeMode.TheVariants.{Strict, Soft, Hard}
use Rattle.beam_machine.specs.declared.event.Refused.TheVariants.{Sticky, NotPurged, Duplicated, TooMany}
use Rattle.beam_machine.specs.declared.event.Reply.{Reply}
use Rattle.beam_machine.specs.Prelude.{loaded, old_of, lingers_at, lingers_in_old, lingers_in_olds, pids_of, Code, Process, ended, killed, State, Next, refused, has_instances_left, load_new, end_old, end_olds, are_apart, stands_in_way, load_each, upgraded, next, run}
use Rattle.beam_laws.specs.Prelude.{loaded_each}
use Rattle.beam_laws.proofs.Hearing.{nobody_ends, all_ended, in_olds_not, in_olds_same}
use Rattle.beam_laws.proofs.Mapping.{loaded_others}

-- ---- tests

not_true : (b : Bool) → not b ≡ true → b ≡ false
not_true false e = refl
not_true true e = cc

-- ---- no process lingers

abbrev Nobody : Code → List Listing → List Process → Type 0
Nobody code ls ps = list_any (lingers_in_olds code (map (λ l. l.name) ls)) ps ≡ false

none_of : (ps : List Process) → list_any (λ p. false) ps ≡ false
none_of [] = refl
none_of (p ∷ ps) = none_of ps

-- no process passes one of two tests exactly where none passes the first and none the second
neither : (f g : Process → Bool) (ps : List Process) → list_any f ps ≡ false → list_any g ps ≡ false → list_any (λ p. f p || g p) ps ≡ false
neither f g [] a b = refl
neither f g (p ∷ ps) a b =
    let x = or_parts (f p) (list_any f ps) a in
    let y = or_parts (g p) (list_any g ps) b in
    ap (λ c. (c || g p) || list_any (λ p. f p || g p) ps) x.0 ∙ (ap (λ c. c || list_any (λ p. f p || g p) ps) y.0 ∙ neither f g ps x.1 y.1)

of_each : (f g : Process → Bool) (ps : List Process) → list_any (λ p. f p || g p) ps ≡ false → (list_any f ps ≡ false) × (list_any g ps ≡ false)
of_each f g [] e = (refl, refl)
of_each f g (p ∷ ps) e =
    let here = or_parts (f p || g p) (list_any (λ p. f p || g p) ps) e in
    let x = or_parts (f p) (g p) here.0 in
    let rest = of_each f g ps here.1 in
    (ap (λ b. b || list_any f ps) x.0 ∙ rest.0, ap (λ b. b || list_any g ps) x.1 ∙ rest.1)

-- old code of other modules stays
olds_stay : (number : ℕ) (l : Listing) (code : Code) (rest : List Listing) (p : Process) → list_any (λ other. same_text l.name other.name) rest ≡ false
    → lingers_in_olds (loaded code number l) (map (λ l. l.name) rest) p ≡ lingers_in_olds code (map (λ l. l.name) rest) p
olds_stay number l code [] p apart = refl
olds_stay number l code (m ∷ rest) p apart =
    let each = or_parts (same_text l.name m.name) (list_any (λ other. same_text l.name other.name) rest) apart in
    let old : old_of (loaded code number l) m.name ≡ old_of code m.name = ap (λ v. option_map (λ i. i.number) v.old) (loaded_others number l code m.name each.0) in
    ap (λ o. lingers_at o p || lingers_in_olds (loaded code number l) (map (λ l. l.name) rest) p) old
    ∙ ap (λ b. lingers_at (old_of code m.name) p || b) (olds_stay number l code rest p each.1)

any_same : (f g : Process → Bool) → ((p : Process) → f p ≡ g p) → (ps : List Process) → list_any f ps ≡ list_any g ps
any_same f g same [] = refl
any_same f g same (p ∷ ps) = ap (λ b. b || list_any f ps) (same p) ∙ ap (λ b. g p || b) (any_same f g same ps)

-- ---- the loads of a list whose modules are apart, where no process lingers in removed code

-- the parts after a load
abbrev with_one : State → Listing → State
with_one s l = record s { code = loaded s.code (s.instances + 1) l; instances = s.instances + 1 }

one_load : (s : State) (l : Listing) → is_erlang l.name ≡ false → has_instances_left s ≡ true → list_any (lingers_in_old s.code l.name) s.processes ≡ false → (next s (event.Load l)).state ≡ with_one s l
one_load s l e room nobody =
    ap (λ b. (cond {A = Next} b (refused s Sticky) (cond (has_instances_left s) (load_new (end_old s l.name) l) (refused s TooMany))).state) e
    ∙ (ap (λ b. (cond {A = Next} b (load_new (end_old s l.name) l) (refused s TooMany)).state) room
    ∙ ap (λ ps. with_one (record s { processes = ps }) l) (nobody_ends (lingers_in_old s.code l.name) s.processes nobody))

-- the parts after all loads
abbrev pub with_each : State → List Listing → State
with_each s ls = record s { code = loaded_each s.code s.instances ls; instances = s.instances + length ls }

pub loads_are : (s : State) (ls : List Listing) → list_any (λ l. is_erlang l.name) ls ≡ false → are_apart ls ≡ true → s.instances + length ls < 2 ^ 32
    → Nobody s.code ls s.processes → load_each s ls ≡ with_each s ls
loads_are s [] e apart few nobody =
    let same : s.instances ≡ s.instances + 0 = omega arith in
    ap (λ n. record s { instances = n }) same
loads_are s (l ∷ rest) e apart few nobody =
    let ordinary = or_parts (is_erlang l.name) (list_any (λ l. is_erlang l.name) rest) e in
    let once = and_parts (not (list_any (λ other. same_text l.name other.name) rest)) (are_apart rest) apart in
    let below : s.instances < 2 ^ 32 - 1 = omega (arith, few) in
    let room : has_instances_left s ≡ true = grind (arith, nat_tests) in
    let more : s.instances + 1 + length rest < 2 ^ 32 = omega (arith, few) in
    let sum : s.instances + 1 + length rest ≡ s.instances + length (l ∷ rest) = omega arith in
    let names : List (List ℕ) = map (λ l. l.name) rest in
    let each = of_each (lingers_in_old s.code l.name) (lingers_in_olds s.code names) s.processes nobody in
    let later : Nobody (loaded s.code (s.instances + 1) l) rest s.processes =
    any_same (lingers_in_olds (loaded s.code (s.instances + 1) l) names) (lingers_in_olds s.code names)
    (λ p. olds_stay (s.instances + 1) l s.code rest p (not_true _ once.0)) s.processes ∙ each.1 in
    ap (λ t. load_each t rest) (one_load s l ordinary.0 room each.0)
    ∙ (loads_are (with_one s l) rest ordinary.1 once.1 more later
    ∙ ap (λ n. record s { code = loaded_each s.code s.instances (l ∷ rest); instances = n }) sum)

-- no process lingers in removed code, once those that did are ended
pub olds_ended : (s : State) (ls : List Listing) → Nobody s.code ls (end_olds s ls).processes
olds_ended s ls =
    let names : List (List ℕ) = map (λ l. l.name) ls in
    all_ended (lingers_in_olds s.code names) (pids_of (lingers_in_olds s.code names) s.processes) s.processes
    (λ p. in_olds_not s.code names (ended p killed nil_term) (λ number. refl)) (λ signals p. in_olds_same s.code names signals p)

-- ---- an upgrade list that isn't refused

-- an upgrade list passes all tests
abbrev Passed : State → UpgradeMode → List Listing → Type 0
Passed s mode ls =
    (list_any (λ l. is_erlang l.name) ls ≡ false) × (are_apart ls ≡ true) × (list_any (λ l. stands_in_way mode s l.name) ls ≡ false)
    × (s.instances + length ls < 2 ^ 32)

passed_if : {P : Type 0} (r : Reply) (b : Bool) (x y : Next) → ((x.answer ≡ Ok r) → (b ≡ true) → P) → ((y.answer ≡ Ok r) → (b ≡ false) → P) → (cond b x y).answer ≡ Ok r → P
passed_if r true x y f g e = f e refl
passed_if r false x y f g e = g e refl

not_false : (b : Bool) → not b ≡ false → b ≡ true
not_false true e = refl
not_false false e = cc

passes : (s : State) (mode : UpgradeMode) (ls : List Listing) (r : Reply) → (next s (event.AtomicLoad mode ls)).answer ≡ Ok r → Passed s mode ls
passes s mode ls r =
    passed_if r _ (refused s Sticky) _ (λ e h. cc) (λ e sticky.
    passed_if r _ (refused s Duplicated) _ (λ e h. cc) (λ e apart.
    passed_if r _ (refused s NotPurged) _ (λ e h. cc) (λ e clear.
    passed_if r _ (upgraded (load_each (end_olds s ls) ls) ls) (refused s TooMany)
    (λ e room. let few : s.instances + length ls < 2 ^ 32 = grind (arith, nat_tests) in (sticky, not_false _ apart, clear, few))
    (λ e h. cc) e) e) e)

answered : (P : State → Type 0) (s : State) (r : Reply) (b : Bool) (x y : Next) → ((x.answer ≡ Ok r) → P x.state) → ((y.answer ≡ Ok r) → P y.state) → (cond b x y).answer ≡ Ok r → P (cond b x y).state
answered P s r true x y f g e = f e
answered P s r false x y f g e = g e

pub upgrade_loads : (s : State) (mode : UpgradeMode) (ls : List Listing) (r : Reply) → (next s (event.AtomicLoad mode ls)).answer ≡ Ok r
    → (next s (event.AtomicLoad mode ls)).state ≡ load_each (end_olds s ls) ls
upgrade_loads s mode ls r =
    let Q : State → Type 0 = λ t. t ≡ load_each (end_olds s ls) ls in
    answered Q s r _ (refused s Sticky) _ (λ e. cc)
    (answered Q s r _ (refused s Duplicated) _ (λ e. cc)
    (answered Q s r _ (refused s NotPurged) _ (λ e. cc)
    (answered Q s r _ (upgraded (load_each (end_olds s ls) ls) ls) (refused s TooMany) (λ e. refl) (λ e. cc))))

pub upgrade_parts : (s : State) (mode : UpgradeMode) (ls : List Listing) (r : Reply) → (next s (event.AtomicLoad mode ls)).answer ≡ Ok r
    → (next s (event.AtomicLoad mode ls)).state ≡ with_each (end_olds s ls) ls
upgrade_parts s mode ls r e =
    let p = passes s mode ls r e in
    upgrade_loads s mode ls r e ∙ loads_are (end_olds s ls) ls p.0 p.1 p.3 (olds_ended s ls)

run_loads : (s : State) (ls : List Listing) → load_each s ls ≡ (run s (map (λ l. event.Load l) ls)).state
run_loads s [] = refl
run_loads s (l ∷ rest) = run_loads (next s (event.Load l)).state rest

pub upgrade_run : (s : State) (mode : UpgradeMode) (ls : List Listing) (r : Reply) → (next s (event.AtomicLoad mode ls)).answer ≡ Ok r
    → (next s (event.AtomicLoad mode ls)).state ≡ (run (end_olds s ls) (map (λ l. event.Load l) ls)).state
upgrade_run s mode ls r e = upgrade_loads s mode ls r e ∙ run_loads (end_olds s ls) ls

-- ---- the processes that end

no_old : (o : Option ℕ) (ps : List Process) → is_some o ≡ false → list_any (lingers_at o) ps ≡ false
no_old None ps e = none_of ps
no_old (Some number) ps e = cc

one_clear : (s : State) (mode : UpgradeMode) (name : List ℕ) → mode ≢ Hard → stands_in_way mode s name ≡ false → list_any (lingers_in_old s.code name) s.processes ≡ false
one_clear s Strict name gentle e = no_old (old_of s.code name) s.processes e
one_clear s Soft name gentle e = e
one_clear s Hard name gentle e = absurd (gentle refl)

all_clear : (s : State) (mode : UpgradeMode) (ls : List Listing) → mode ≢ Hard → list_any (λ l. stands_in_way mode s l.name) ls ≡ false → Nobody s.code ls s.processes
all_clear s mode [] gentle e = none_of s.processes
all_clear s mode (l ∷ rest) gentle e =
    let each = or_parts (stands_in_way mode s l.name) (list_any (λ l. stands_in_way mode s l.name) rest) e in
    neither (lingers_in_old s.code l.name) (lingers_in_olds s.code (map (λ l. l.name) rest)) s.processes (one_clear s mode l.name gentle each.0) (all_clear s mode rest gentle each.1)

-- in modes other than Hard no process ends, and so the upgrade is just the loads
gentle_is : (s : State) (mode : UpgradeMode) (ls : List Listing) → mode ≢ Hard → list_any (λ l. stands_in_way mode s l.name) ls ≡ false → end_olds s ls ≡ s
gentle_is s mode ls gentle e =
    ap (λ ps. record s { processes = ps }) (nobody_ends (lingers_in_olds s.code (map (λ l. l.name) ls)) s.processes (all_clear s mode ls gentle e))

pub gentle_run : (s : State) (mode : UpgradeMode) (ls : List Listing) (r : Reply) → mode ≢ Hard → (next s (event.AtomicLoad mode ls)).answer ≡ Ok r
    → (next s (event.AtomicLoad mode ls)).state ≡ (run s (map (λ l. event.Load l) ls)).state
gentle_run s mode ls r gentle e =
    upgrade_run s mode ls r e ∙ ap (λ t. (run t (map (λ l. event.Load l) ls)).state) (gentle_is s mode ls gentle (passes s mode ls r e).2)

gentle_if : (s : State) (b : Bool) (x y : Next) → ((b ≡ true) → x.state.processes ≡ s.processes) → ((b ≡ false) → y.state.processes ≡ s.processes) → (cond b x y).state.processes ≡ s.processes
gentle_if s true x y f g = f refl
gentle_if s false x y f g = g refl

pub gentle_ends_none : (s : State) (mode : UpgradeMode) (ls : List Listing) → mode ≢ Hard → (next s (event.AtomicLoad mode ls)).state.processes ≡ s.processes
gentle_ends_none s mode ls gentle =
    gentle_if s _ (refused s Sticky) _ (λ h. refl) (λ sticky.
    gentle_if s _ (refused s Duplicated) _ (λ h. refl) (λ apart.
    gentle_if s _ (refused s NotPurged) _ (λ h. refl) (λ clear.
    gentle_if s _ (upgraded (load_each (end_olds s ls) ls) ls) (refused s TooMany)
    (λ room.
    let few : s.instances + length ls < 2 ^ 32 = grind (arith, nat_tests) in
    ap (λ t. t.processes) (loads_are (end_olds s ls) ls sticky (not_false _ apart) few (olds_ended s ls)) ∙ ap (λ t. t.processes) (gentle_is s mode ls gentle clear))
    (λ h. refl))))
