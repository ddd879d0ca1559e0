-- One walk over the processes for several old instances, in place of one for each: the tests of a mode, and whom a hard upgrade ends.
use Rattle.std.proofs.Common.{◌≡◌, ◌↔◌, ℕ, Bool, true, false, ◌||◌, cond, not, List, [], ◌∷◌, length, map, refl, sym, ap, ◌∙◌, true≢false, arith, Option, Some, None, is_some, filter, flat_map}
use Rattle.std.specs.List.{list_any}
use Rattle.beam_machine.specs.declared.event.UpgradeMode.{UpgradeMode}
use Rattle.beam_machine.specs.declared.event.UpgradeMode.TheVariants.{Strict, Soft, Hard}
use Rattle.beam_machine.specs.declared.process.Signal.{Signal}
use Rattle.beam_machine.specs.Prelude.{Code, Process, ended, killed, with_signals, downs, old_of, lingers, lingers_at, lingers_in_olds, pids_of, ends_or_hears, killing, stands_in_way}
use Rattle.beam_model.specs.Prelude.{Listing}
use Rattle.beam_term.specs.Prelude.{nil_term}
use Rattle.beam_laws.proofs.Hearing.{nobody_ends}
use Rattle.beam_stack.proofs.Anys.{none, swapped, alike}
use Rattle.beam_codesrv.specs.Several.{passes, AreOld}
use Rattle.beam_state.specs.Prelude.{node, parts}
use Rattle.beam_state.specs.Ends.{lingers_in_any}

-- ---- whether old code stands in the way of an upgrade

-- whether old code of one of these modules stands in the way of its upgrade
abbrev pub One : UpgradeMode → Code → List Process → ℕ → ℕ → ℕ → List Listing → Bool
One mode code ps clock instances references ls = list_any (λ l. stands_in_way mode (node code (parts ps clock instances references)) l.name) ls

any_is : (o : Option ℕ) → passes (λ n. true) o ≡ is_some o
any_is (Some n) = refl
any_is None = refl

one_is : (ps : List Process) (o : Option ℕ) → passes (λ n. list_any (lingers n) ps) o ≡ list_any (lingers_at o) ps
one_is ps (Some n) = refl
one_is ps None = none ps

some_or_none : (ns : List ℕ) (b : Bool) → (b ≡ true → length ns ≡ 0) → (length ns ≡ 0 → b ≡ true) → not b ≡ list_any (λ n. true) ns
some_or_none [] b f g = ap not (g refl)
some_or_none (n ∷ ns) true f g = absurd (omega (arith, f refl))
some_or_none (n ∷ ns) false f g = refl

any_stands : (code : Code) (ps : List Process) (clock instances references : ℕ) (ls : List Listing) (ns : List ℕ) → AreOld code ls ns
    → list_any (λ n. true) ns ≡ One Strict code ps clock instances references ls
any_stands code ps clock instances references ls ns old =
    old (λ n. true) ∙ alike (λ l. passes (λ n. true) (old_of code l.name)) (λ l. is_some (old_of code l.name)) ls (λ l. any_is (old_of code l.name))

pub strict_stands : (code : Code) (ps : List Process) (clock instances references : ℕ) (ls : List Listing) (ns : List ℕ) (b : Bool)
    → ((b ≡ true) ↔ (length ns ≡ 0)) → AreOld code ls ns → not b ≡ One Strict code ps clock instances references ls
strict_stands code ps clock instances references ls ns b e old = some_or_none ns b e.0 e.1 ∙ any_stands code ps clock instances references ls ns old

pub soft_stands : (code : Code) (ps : List Process) (clock instances references : ℕ) (ls : List Listing) (ns : List ℕ) → AreOld code ls ns
    → list_any (lingers_in_any ns) ps ≡ One Soft code ps clock instances references ls
soft_stands code ps clock instances references ls ns old =
    swapped lingers ps ns
    ∙ (old (λ n. list_any (lingers n) ps)
    ∙ alike (λ l. passes (λ n. list_any (lingers n) ps) (old_of code l.name)) (λ l. list_any (lingers_at (old_of code l.name)) ps) ls (λ l. one_is ps (old_of code l.name)))

pub hard_stands : (code : Code) (ps : List Process) (clock instances references : ℕ) (ls : List Listing) → false ≡ One Hard code ps clock instances references ls
hard_stands code ps clock instances references ls = none ls

-- ---- which processes end

at_is : (o : Option ℕ) (p : Process) → passes (λ n. lingers n p) o ≡ lingers_at o p
at_is (Some n) p = refl
at_is None p = refl

in_olds : (code : Code) (ls : List Listing) (p : Process) → list_any (λ l. passes (λ n. lingers n p) (old_of code l.name)) ls ≡ lingers_in_olds code (map (λ l. l.name) ls) p
in_olds code [] p = refl
in_olds code (l ∷ ls) p =
    ap (λ b. b || list_any (λ l. passes (λ n. lingers n p) (old_of code l.name)) ls) (at_is (old_of code l.name) p)
    ∙ ap (λ b. lingers_at (old_of code l.name) p || b) (in_olds code ls p)

same_pids : (f g : Process → Bool) (ps : List Process) → ((p : Process) → f p ≡ g p) → pids_of f ps ≡ pids_of g ps
same_pids f g [] same = refl
same_pids f g (p ∷ ps) same =
    ap (λ b. map (λ p. p.pid) (cond b (p ∷ filter f ps) (filter f ps))) (same p) ∙ go (g p) (same_pids f g ps same)
  where
    go : (b : Bool) → pids_of f ps ≡ pids_of g ps → map (λ p. p.pid) (cond b (p ∷ filter f ps) (filter f ps)) ≡ map (λ p. p.pid) (cond b (p ∷ filter g ps) (filter g ps))
    go true e = ap (λ pids. p.pid ∷ pids) e
    go false e = e

end_alike : (f g : Process → Bool) (pids : List ℕ) (ps : List Process) → ((p : Process) → f p ≡ g p) → map (ends_or_hears f pids) ps ≡ map (ends_or_hears g pids) ps
end_alike f g pids [] same = refl
end_alike f g pids (p ∷ ps) same =
    let signals : List Signal = flat_map (λ pid. downs pid killed p.monitors) pids in
    ap (λ b. cond b (ended p killed nil_term) (with_signals signals p) ∷ map (ends_or_hears f pids) ps) (same p)
    ∙ ap (λ qs. ends_or_hears g pids p ∷ qs) (end_alike f g pids ps same)

killing_alike : (f g : Process → Bool) (ps : List Process) → ((p : Process) → f p ≡ g p) → killing f ps ≡ killing g ps
killing_alike f g ps same = ap (λ pids. map (ends_or_hears f pids) ps) (same_pids f g ps same) ∙ end_alike f g (pids_of g ps) ps same

abbrev pub Killed : Code → List Listing → List Process → List Process
Killed code ls ps = killing (lingers_in_olds code (map (λ l. l.name) ls)) ps

pub hard_ends : (code : Code) (ps : List Process) (ls : List Listing) (ns : List ℕ) → AreOld code ls ns → killing (lingers_in_any ns) ps ≡ Killed code ls ps
hard_ends code ps ls ns old =
    killing_alike (lingers_in_any ns) (lingers_in_olds code (map (λ l. l.name) ls)) ps (λ p. old (λ n. lingers n p) ∙ in_olds code ls p)

pub soft_ends : (code : Code) (ps : List Process) (clock instances references : ℕ) (ls : List Listing) (ns : List ℕ) → AreOld code ls ns
    → One Soft code ps clock instances references ls ≡ false → ps ≡ Killed code ls ps
soft_ends code ps clock instances references ls ns old clear =
    sym (nobody_ends (lingers_in_any ns) ps (soft_stands code ps clock instances references ls ns old ∙ clear)) ∙ hard_ends code ps ls ns old

pub strict_ends : (code : Code) (ps : List Process) (clock instances references : ℕ) (ls : List Listing) (ns : List ℕ) → AreOld code ls ns
    → One Strict code ps clock instances references ls ≡ false → ps ≡ Killed code ls ps
strict_ends code ps clock instances references ls [] old clear = sym (nobody_ends (lingers_in_any []) ps (sym (none ps))) ∙ hard_ends code ps ls [] old
strict_ends code ps clock instances references ls (n ∷ ns) old clear =
    absurd (true≢false (any_stands code ps clock instances references ls (n ∷ ns) old ∙ clear))
