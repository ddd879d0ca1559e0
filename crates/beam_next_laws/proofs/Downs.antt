-- Which DOWNs are among signals: those of one end, of several ends, and of one reference, by recursion on the monitors.
use Rattle.std.proofs.Common.{◌≡◌, ◌≢◌, ℕ, zero, suc, ◌+◌, ◌==◌, eq-eqb, ◌&&◌, ◌||◌, ◌<◌, ◌≤◌, Bool, true, false, true≢false, cond, List, [], ◌∷◌, ◌++◌, append_assoc, append-nil, map, filter, flat_map, slice_get, refl, sym, ap, subst, ◌∙◌, arith, Option, Some, None}
use Rattle.std.proofs.lemmas.Bool.Decides.{nat_tests}
use Rattle.std.proofs.lemmas.List.Elements.{filter-append}
use Rattle.std.specs.List.{list_any}
use Rattle.beam_term.specs.Prelude.{TermValue}
use Rattle.beam_model.specs.Prelude.{is_this_number}
use Rattle.beam_machine.specs.declared.process.Monitor.{Monitor}
use Rattle.beam_machine.specs.declared.process.Signal.{Signal}
use Rattle.beam_machine.specs.declared.process.Signal.TheVariants.{Message, Exit, Down}
use Rattle.beam_machine.specs.Prelude.{Process, own_number, monitors_process, downs}
use Rattle.beam_laws.specs.Prelude.{Rise}
use Rattle.beam_next_laws.specs.Heard.{is_down, is_down_with, is_down_of}

-- ---- two tests, of which one passes less

narrower_none : (f g : Signal → Bool) → ((x : Signal) → f x ≡ false → g x ≡ false) → (xs : List Signal) → filter f xs ≡ [] → filter g xs ≡ []
narrower_none f g h [] = λ e. refl
narrower_none f g h (x ∷ xs) = go (f x) refl (narrower_none f g h xs)
  where
    go : (b : Bool) → f x ≡ b → (filter f xs ≡ [] → filter g xs ≡ []) → cond b (x ∷ filter f xs) (filter f xs) ≡ [] → filter g (x ∷ xs) ≡ []
    go true i rest = λ e. cc
    go false i rest = λ e. ap (λ b. cond b (x ∷ filter g xs) (filter g xs)) (h x i) ∙ rest e

narrower : (f g : Signal → Bool) → ((x : Signal) → f x ≡ false → g x ≡ false) → (xs : List Signal) → filter g (filter f xs) ≡ filter g xs
narrower f g h [] = refl
narrower f g h (x ∷ xs) = go (f x) refl (narrower f g h xs)
  where
    go : (b : Bool) → f x ≡ b → filter g (filter f xs) ≡ filter g xs → filter g (cond b (x ∷ filter f xs) (filter f xs)) ≡ filter g (x ∷ xs)
    go true i rest = ap (λ ys. cond (g x) (x ∷ ys) ys) rest
    go false i rest = rest ∙ sym (ap (λ b. cond b (x ∷ filter g xs) (filter g xs)) (h x i))

other_signals : (pid : ℕ) (ms : List Monitor) (x : Signal) → is_down x ≡ false → is_down_of pid ms x ≡ false
other_signals pid ms (Message t) e = refl
other_signals pid ms (Exit sender reason) e = refl
other_signals pid ms (Down reference reason) e = absurd (true≢false e)

-- signals without a DOWN have none of that process
pub plain_signals : (pid : ℕ) (ms : List Monitor) (xs : List Signal) → filter is_down xs ≡ [] → filter (is_down_of pid ms) xs ≡ []
plain_signals pid ms xs e = narrower_none is_down (is_down_of pid ms) (other_signals pid ms) xs e

-- ---- the DOWNs of an end are of that process

abbrev pub notice : TermValue → Monitor → Signal
notice reason m = Down m.reference reason

any_here : (f : Monitor → Bool) (before rest : List Monitor) (m : Monitor) → f m ≡ true → list_any f (before ++ m ∷ rest) ≡ true
any_here f [] rest m e = ap (λ b. b || list_any f rest) e
any_here f (x ∷ before) rest m e = go (f x) (any_here f before rest m e)
  where
    go : (b : Bool) → list_any f (before ++ m ∷ rest) ≡ true → (b || list_any f (before ++ m ∷ rest)) ≡ true
    go true h = refl
    go false h = h

pub all_of : (pid : ℕ) (reason : TermValue) (before ms : List Monitor) → filter (is_down_of pid (before ++ ms)) (downs pid reason ms) ≡ downs pid reason ms
all_of pid reason before [] = refl
all_of pid reason before (m ∷ ms) =
    let rest : filter (is_down_of pid (before ++ m ∷ ms)) (downs pid reason ms) ≡ downs pid reason ms =
    subst (λ all. filter (is_down_of pid all) (downs pid reason ms) ≡ downs pid reason ms) (append_assoc before (m ∷ []) ms) (all_of pid reason (before ++ m ∷ []) ms) in
    go (monitors_process pid m) refl rest
  where
    passes : Signal → Bool
    passes = is_down_of pid (before ++ m ∷ ms)

    more : List Monitor
    more = filter (monitors_process pid) ms

    go : (b : Bool) → monitors_process pid m ≡ b → filter passes (map (notice reason) more) ≡ map (notice reason) more
        → filter passes (map (notice reason) (cond b (m ∷ more) more)) ≡ map (notice reason) (cond b (m ∷ more) more)
    go false i rest = rest
    go true i rest =
        let own : (m.reference == m.reference && monitors_process pid m) ≡ true = ap (λ b. b && monitors_process pid m) (eq-eqb m.reference m.reference refl) ∙ i in
        let here : passes (notice reason m) ≡ true = any_here (λ x. x.reference == m.reference && monitors_process pid x) before ms m own in
        ap (λ b. cond b (notice reason m ∷ filter passes (map (notice reason) more)) (filter passes (map (notice reason) more))) here ∙ ap (λ xs. notice reason m ∷ xs) rest

-- ---- references that rise are of one monitor each

apart : (ms : List Monitor) (above count n : ℕ) (t : Monitor → Bool) → Rise above count ms → n ≤ above → list_any (λ x. x.reference == n && t x) ms ≡ false
apart [] above count n t h le = refl
apart (m ∷ ms) above count n t h le =
    let low : above < m.reference = h.0 in
    let other : (m.reference == n) ≡ false = grind (arith, nat_tests) in
    let more : n ≤ m.reference = omega (arith, le, low) in
    ap (λ b. (b && t m) || list_any (λ x. x.reference == n && t x) ms) other ∙ apart ms m.reference count n t h.1.1 more

beyond : (before rest : List Monitor) (above count : ℕ) (m : Monitor) → Rise above count (before ++ m ∷ rest) → above < m.reference
beyond [] rest above count m h = h.0
beyond (x ∷ before) rest above count m h =
    let later : x.reference < m.reference = beyond before rest x.reference count m h.1.1 in
    omega (arith, h.0, later)

none_other : (before rest : List Monitor) (above count : ℕ) (m : Monitor) (t : Monitor → Bool) → Rise above count (before ++ m ∷ rest) → t m ≡ false
    → list_any (λ x. x.reference == m.reference && t x) (before ++ m ∷ rest) ≡ false
none_other [] rest above count m t h e =
    let le : m.reference ≤ m.reference = omega arith in
    ap (λ b. (b && t m) || list_any (λ x. x.reference == m.reference && t x) rest) (eq-eqb m.reference m.reference refl)
    ∙ (ap (λ b. b || list_any (λ x. x.reference == m.reference && t x) rest) e ∙ apart rest m.reference count m.reference t h.1.1 le)
none_other (x ∷ before) rest above count m t h e =
    let later : x.reference < m.reference = beyond before rest x.reference count m h.1.1 in
    let other : (x.reference == m.reference) ≡ false = grind (arith, nat_tests) in
    ap (λ b. (b && t x) || list_any (λ y. y.reference == m.reference && t y) (before ++ m ∷ rest)) other ∙ none_other before rest x.reference count m t h.1.1 e

-- a monitor watches one process
one_pid : (at pid : ℕ) (o : Option ℕ) → at ≢ pid → is_this_number at o ≡ true → is_this_number pid o ≡ false
one_pid at pid None ne e = refl
one_pid at pid (Some k) ne e = go (k == pid) refl
  where
    go : (b : Bool) → (k == pid) ≡ b → b ≡ false
    go false i = refl
    go true i =
        let first : k ≡ at = grind (arith, nat_tests) in
        let second : k ≡ pid = grind (arith, nat_tests) in
        absurd (ne (sym first ∙ second))

-- the DOWNs of another end are not of that process
pub none_of : (at pid : ℕ) (reason : TermValue) (count : ℕ) (before ms : List Monitor) → at ≢ pid → Rise 0 count (before ++ ms)
    → filter (is_down_of pid (before ++ ms)) (downs at reason ms) ≡ []
none_of at pid reason count before [] ne h = refl
none_of at pid reason count before (m ∷ ms) ne h =
    let again : (before ++ m ∷ []) ++ ms ≡ before ++ m ∷ ms = append_assoc before (m ∷ []) ms in
    let rest : filter (is_down_of pid (before ++ m ∷ ms)) (downs at reason ms) ≡ [] =
    subst (λ all. filter (is_down_of pid all) (downs at reason ms) ≡ []) again (none_of at pid reason count (before ++ m ∷ []) ms ne (subst (Rise 0 count) (sym again) h)) in
    go (monitors_process at m) refl rest
  where
    passes : Signal → Bool
    passes = is_down_of pid (before ++ m ∷ ms)

    more : List Monitor
    more = filter (monitors_process at) ms

    go : (b : Bool) → monitors_process at m ≡ b → filter passes (map (notice reason) more) ≡ [] → filter passes (map (notice reason) (cond b (m ∷ more) more)) ≡ []
    go false i rest = rest
    go true i rest =
        let another : monitors_process pid m ≡ false = one_pid at pid (own_number m.pid) ne i in
        let fails : passes (notice reason m) ≡ false = none_other before ms 0 count m (monitors_process pid) h another in
        ap (λ b. cond b (notice reason m ∷ filter passes (map (notice reason) more)) (filter passes (map (notice reason) more))) fails ∙ rest

-- ---- the DOWNs of several ends

pub several : (pid : ℕ) (reason : TermValue) (count : ℕ) (ms : List Monitor) → Rise 0 count ms → (pids : List ℕ)
    → filter (is_down_of pid ms) (flat_map (λ at. downs at reason ms) pids) ≡ flat_map (λ at. cond (at == pid) (downs pid reason ms) []) pids
several pid reason count ms h [] = refl
several pid reason count ms h (at ∷ pids) =
    filter-append (is_down_of pid ms) (downs at reason ms) (flat_map (λ at. downs at reason ms) pids)
    ∙ (ap (λ xs. xs ++ filter (is_down_of pid ms) (flat_map (λ at. downs at reason ms) pids)) (first (at == pid) refl)
    ∙ ap (λ xs. cond (at == pid) (downs pid reason ms) [] ++ xs) (several pid reason count ms h pids))
  where
    first : (b : Bool) → (at == pid) ≡ b → filter (is_down_of pid ms) (downs at reason ms) ≡ cond b (downs pid reason ms) []
    first true e =
        let same : pid ≡ at = grind (arith, nat_tests) in
        subst (λ at. filter (is_down_of pid ms) (downs at reason ms) ≡ downs pid reason ms) same (all_of pid reason [] ms)
    first false e = none_of at pid reason count [] ms (λ i. true≢false (sym (eq-eqb at pid i) ∙ e)) h

-- process i of the list has pid i + k
abbrev pub From : ℕ → List Process → Type 0
From k ps = (i : ℕ) (p : Process) → slice_get ps i ≡ Some p → p.pid ≡ i + k

behind : (k : ℕ) (x : Process) (ps : List Process) → From k (x ∷ ps) → From (k + 1) ps
behind k x ps h i p e =
    let is : p.pid ≡ suc i + k = h (suc i) p e in
    omega (arith, is)

first_pid : (k : ℕ) (x : Process) (ps : List Process) → From k (x ∷ ps) → x.pid ≡ k
first_pid k x ps h =
    let is : x.pid ≡ 0 + k = h 0 x refl in
    omega (arith, is)

abbrev pub picked : ℕ → List Signal → List ℕ → List Signal
picked pid signals pids = flat_map (λ at. cond (at == pid) signals []) pids

no_more : (pid k : ℕ) (signals : List Signal) (test : Process → Bool) (ps : List Process) → From k ps → pid < k → picked pid signals (map (λ p. p.pid) (filter test ps)) ≡ []
no_more pid k signals test [] h below = refl
no_more pid k signals test (x ∷ ps) h below =
    let further : pid < k + 1 = omega (arith, below) in
    go (test x) (no_more pid (k + 1) signals test ps (behind k x ps h) further)
  where
    other : (x.pid == pid) ≡ false
    other =
        let is : x.pid ≡ k = first_pid k x ps h in
        grind (arith, nat_tests)

    go : (b : Bool) → picked pid signals (map (λ p. p.pid) (filter test ps)) ≡ [] → picked pid signals (map (λ p. p.pid) (cond b (x ∷ filter test ps) (filter test ps))) ≡ []
    go true rest = ap (λ b. cond b signals [] ++ picked pid signals (map (λ p. p.pid) (filter test ps))) other ∙ rest
    go false rest = rest

once : (pid k j : ℕ) (signals : List Signal) (test : Process → Bool) (ps : List Process) (p : Process) → From k ps → slice_get ps j ≡ Some p → test p ≡ true → pid ≡ j + k
    → picked pid signals (map (λ p. p.pid) (filter test ps)) ≡ signals
once pid k j signals test [] p h e passes is = cc
once pid k zero signals test (x ∷ ps) p h e passes is =
    let same : x ≡ p = cc in
    let here : (x.pid == pid) ≡ true = eq-eqb x.pid pid (first_pid k x ps h ∙ omega (arith, is)) in
    let below : pid < k + 1 = omega (arith, is) in
    ap (λ b. picked pid signals (map (λ p. p.pid) (cond b (x ∷ filter test ps) (filter test ps)))) (ap test same ∙ passes)
    ∙ (ap (λ b. cond b signals [] ++ picked pid signals (map (λ p. p.pid) (filter test ps))) here
    ∙ (ap (λ xs. signals ++ xs) (no_more pid (k + 1) signals test ps (behind k x ps h) below) ∙ append-nil signals))
once pid k (suc j) signals test (x ∷ ps) p h e passes is =
    let further : pid ≡ j + (k + 1) = omega (arith, is) in
    go (test x) (once pid (k + 1) j signals test ps p (behind k x ps h) e passes further)
  where
    other : (x.pid == pid) ≡ false
    other =
        let at : x.pid ≡ k = first_pid k x ps h in
        let there : pid ≡ suc j + k = is in
        grind (arith, nat_tests)

    go : (b : Bool) → picked pid signals (map (λ p. p.pid) (filter test ps)) ≡ signals → picked pid signals (map (λ p. p.pid) (cond b (x ∷ filter test ps) (filter test ps))) ≡ signals
    go true rest = ap (λ b. cond b signals [] ++ picked pid signals (map (λ p. p.pid) (filter test ps))) other ∙ rest
    go false rest = rest

-- of the DOWNs of the processes that pass a test, those of one of them
pub one_of_several : (pid j : ℕ) (reason : TermValue) (count : ℕ) (ms : List Monitor) (test : Process → Bool) (ps : List Process) (p : Process) → Rise 0 count ms → From 1 ps
    → slice_get ps j ≡ Some p → test p ≡ true → pid ≡ j + 1
    → filter (is_down_of pid ms) (flat_map (λ at. downs at reason ms) (map (λ p. p.pid) (filter test ps))) ≡ downs pid reason ms
one_of_several pid j reason count ms test ps p rise h e passes is =
    several pid reason count ms rise (map (λ p. p.pid) (filter test ps)) ∙ once pid 1 j (downs pid reason ms) test ps p h e passes is

-- ---- the DOWNs of one reference

with_none : (ms : List Monitor) (above count n pid : ℕ) (reason : TermValue) → Rise above count ms → n ≤ above → filter (is_down_with n) (downs pid reason ms) ≡ []
with_none [] above count n pid reason h le = refl
with_none (m ∷ ms) above count n pid reason h le =
    let low : above < m.reference = h.0 in
    let more : n ≤ m.reference = omega (arith, le, low) in
    go (monitors_process pid m) (with_none ms m.reference count n pid reason h.1.1 more)
  where
    other : (m.reference == n) ≡ false
    other =
        let low : above < m.reference = h.0 in
        grind (arith, nat_tests)

    rest : List Monitor
    rest = filter (monitors_process pid) ms

    go : (b : Bool) → filter (is_down_with n) (map (notice reason) rest) ≡ [] → filter (is_down_with n) (map (notice reason) (cond b (m ∷ rest) rest)) ≡ []
    go false none = none
    go true none = ap (λ b. cond b (notice reason m ∷ filter (is_down_with n) (map (notice reason) rest)) (filter (is_down_with n) (map (notice reason) rest))) other ∙ none

with_one : (before ms : List Monitor) (m : Monitor) (above count pid : ℕ) (reason : TermValue) → Rise above count (before ++ m ∷ ms) → monitors_process pid m ≡ true
    → filter (is_down_with m.reference) (downs pid reason (before ++ m ∷ ms)) ≡ Down m.reference reason ∷ []
with_one [] ms m above count pid reason h e =
    let le : m.reference ≤ m.reference = omega arith in
    let rest : List Monitor = filter (monitors_process pid) ms in
    let later : List Signal = filter (is_down_with m.reference) (map (notice reason) rest) in
    ap (λ b. filter (is_down_with m.reference) (map (notice reason) (cond b (m ∷ rest) rest))) e
    ∙ (ap (λ b. cond b (notice reason m ∷ later) later) (eq-eqb m.reference m.reference refl)
    ∙ ap (λ xs. notice reason m ∷ xs) (with_none ms m.reference count m.reference pid reason h.1.1 le))
with_one (x ∷ before) ms m above count pid reason h e = go (monitors_process pid x) (with_one before ms m x.reference count pid reason h.1.1 e)
  where
    other : (x.reference == m.reference) ≡ false
    other =
        let later : x.reference < m.reference = beyond before ms x.reference count m h.1.1 in
        grind (arith, nat_tests)

    rest : List Monitor
    rest = filter (monitors_process pid) (before ++ m ∷ ms)

    go : (b : Bool) → filter (is_down_with m.reference) (map (notice reason) rest) ≡ Down m.reference reason ∷ []
        → filter (is_down_with m.reference) (map (notice reason) (cond b (x ∷ rest) rest)) ≡ Down m.reference reason ∷ []
    go false one = one
    go true one =
        ap (λ b. cond b (notice reason x ∷ filter (is_down_with m.reference) (map (notice reason) rest)) (filter (is_down_with m.reference) (map (notice reason) rest))) other ∙ one

-- a DOWN of a monitor's reference is one of the process that it watches
of_the_process : (before ms : List Monitor) (m : Monitor) (pid : ℕ) → monitors_process pid m ≡ true → (x : Signal) → is_down_of pid (before ++ m ∷ ms) x ≡ false
    → is_down_with m.reference x ≡ false
of_the_process before ms m pid e (Message t) h = refl
of_the_process before ms m pid e (Exit sender reason) h = refl
of_the_process before ms m pid e (Down reference reason) h = go (reference == m.reference) refl
  where
    go : (b : Bool) → (reference == m.reference) ≡ b → b ≡ false
    go false i = refl
    go true i =
        let same : m.reference ≡ reference = grind (arith, nat_tests) in
        let own : (m.reference == reference && monitors_process pid m) ≡ true = ap (λ b. b && monitors_process pid m) (eq-eqb m.reference reference same) ∙ e in
        absurd (true≢false (sym (any_here (λ y. y.reference == reference && monitors_process pid y) before ms m own) ∙ h))

split : (ms : List Monitor) (i : ℕ) (m : Monitor) → slice_get ms i ≡ Some m → (before : List Monitor) × (after : List Monitor) × (ms ≡ before ++ m ∷ after)
split [] i m e = cc
split (x ∷ ms) zero m e =
    let same : x ≡ m = cc in
    ([], ms, ap (λ y. y ∷ ms) same)
split (x ∷ ms) (suc i) m e =
    let rest = split ms i m e in
    (x ∷ rest.0, rest.1, ap (λ ys. x ∷ ys) rest.2)

-- where the DOWNs of that process are those of its end, each of its monitors has one
pub one_each : (ms : List Monitor) (count pid i : ℕ) (reason : TermValue) (m : Monitor) (came : List Signal) → Rise 0 count ms → slice_get ms i ≡ Some m → monitors_process pid m ≡ true
    → filter (is_down_of pid ms) came ≡ downs pid reason ms → filter (is_down_with m.reference) came ≡ Down m.reference reason ∷ []
one_each ms count pid i reason m came rise e watches all =
    let parts = split ms i m e in
    let before : List Monitor = parts.0 in
    let after : List Monitor = parts.1 in
    let rise' : Rise 0 count (before ++ m ∷ after) = subst (Rise 0 count) parts.2 rise in
    let all' : filter (is_down_of pid (before ++ m ∷ after)) came ≡ downs pid reason (before ++ m ∷ after) =
    subst (λ ms. filter (is_down_of pid ms) came ≡ downs pid reason ms) parts.2 all in
    sym (narrower (is_down_of pid (before ++ m ∷ after)) (is_down_with m.reference) (of_the_process before after m pid watches) came)
    ∙ (ap (filter (is_down_with m.reference)) all' ∙ with_one before after m 0 count pid reason rise' watches)
