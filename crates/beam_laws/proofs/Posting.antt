-- Posted signals, seen from one process: they come after those in transit to it.
use Rattle.std.proofs.Common.{◌≡◌, ◌≢◌, ℕ, zero, suc, ◌+◌, ◌-◌, ◌==◌, eq-eqb, true≢false, Bool, true, false, cond, nat_lt, List, [], ◌∷◌, ◌++◌, append_assoc, append-nil, length, ◌<◌, slice_get, refl, sym, ap, subst, ◌∙◌, arith, Option, Some, None, option_map, is_some, map, codes}
use Rattle.std.proofs.lemmas.Bool.Decides.{nat_tests}
use Rattle.beam_machine.specs.declared.process.Signal.{Signal}
use Rattle.beam_machine.specs.declared.process.Signal.TheVariants.{Down}
use Rattle.beam_machine.specs.Prelude.{Process, is_ended, started, own_number, process_of, with_process, alive, live_process, posted_to, posted, hearing_by, Answered, is_alive, or_noproc, put_monitor, monitored, answer_of, Sent}
use Rattle.beam_machine.specs.declared.process.Status.{Status}
use Rattle.beam_term.specs.Prelude.{TermValue, atom_term}
use Rattle.beam_model.specs.declared.native.NodeNative.{NodeNative}
use Rattle.beam_model.specs.declared.native.NodeNative.TheVariants.{Monitor}
use Rattle.beam_laws.specs.Prelude.{with_name_and_transit, with_signals, posted_all, signal_to, each_sent, noproc_sends, native_sends, signals_to, downs_of_end}
use Rattle.beam_laws.proofs.Ending.{alive_is, get_push}
use Rattle.beam_laws.proofs.Numbered.{positive, put_here, put_elsewhere}
use Rattle.beam_laws.proofs.Hearing.{hears, hearing_at}
use Rattle.beam_laws.proofs.Private.{having_own}
use Rattle.beam_laws.proofs.NodeAnswers.{Answers, keeps_all, starts_one, names_one, unnames_one, posts_one, makes_one, monitors_one, answer_is}

-- ---- more signals

pub no_signals : (p : Process) → with_signals [] p ≡ p
no_signals p = ap (λ ts. with_name_and_transit p.name ts p) (append-nil p.transit) ∙ having_own p

-- two names, and signals twice
pub having_more : (name m : Option (List ℕ)) (xs ys : List Signal) (p : Process)
    → with_name_and_transit m ((with_name_and_transit name (p.transit ++ xs) p).transit ++ ys) (with_name_and_transit name (p.transit ++ xs) p) ≡ with_name_and_transit m (p.transit ++ (xs ++ ys)) p
having_more name m xs ys p = go (is_ended p.status) refl
  where
    go : (b : Bool) → is_ended p.status ≡ b
        → with_name_and_transit m ((cond {A = Process} b p (record p { name = name; transit = p.transit ++ xs })).transit ++ ys) (cond b p (record p { name = name; transit = p.transit ++ xs })) ≡ with_name_and_transit m (p.transit ++ (xs ++ ys)) p
    go true e = ap (λ b. cond b p (record p { name = m; transit = p.transit ++ ys })) e ∙ sym (ap (λ b. cond b p (record p { name = m; transit = p.transit ++ (xs ++ ys) })) e)
    go false e =
        ap (λ b. cond b (record p { name = name; transit = p.transit ++ xs }) (record p { name = m; transit = (p.transit ++ xs) ++ ys })) e
        ∙ (ap (λ ts. record p { name = m; transit = ts }) (append_assoc p.transit xs ys) ∙ sym (ap (λ b. cond b p (record p { name = m; transit = p.transit ++ (xs ++ ys) })) e))

pub more_signals : (xs ys : List Signal) (p : Process) → with_signals ys (with_signals xs p) ≡ with_signals (xs ++ ys) p
more_signals xs ys p = ap (λ name. with_name_and_transit name ((with_signals xs p).transit ++ ys) (with_signals xs p)) same_name ∙ having_more p.name p.name xs ys p
  where
    same_name : (with_signals xs p).name ≡ p.name
    same_name = elim (is_ended p.status) as (λ b. (cond {A = Process} b p (record p { name = p.name; transit = p.transit ++ xs })).name ≡ p.name) [ true ↦ refl | false ↦ refl ]

pub signals_append : (pid : ℕ) (xs ys : List Sent) → signals_to pid (xs ++ ys) ≡ signals_to pid xs ++ signals_to pid ys
signals_append pid [] ys = refl
signals_append pid (x ∷ xs) ys = go (x.to == pid) (signals_append pid xs ys)
  where
    go : (b : Bool) → signals_to pid (xs ++ ys) ≡ signals_to pid xs ++ signals_to pid ys
        → cond b (x.signal ∷ signals_to pid (xs ++ ys)) (signals_to pid (xs ++ ys)) ≡ cond b (x.signal ∷ signals_to pid xs) (signals_to pid xs) ++ signals_to pid ys
    go true e = ap (λ ts. x.signal ∷ ts) e
    go false e = e

-- ---- one signal, and several

posted_here : (ps : List Process) (to : ℕ) (signal : Signal) (o : Option Process) → process_of ps to ≡ o → process_of (posted_to ps to signal (alive o)) to ≡ option_map (with_signals (signal ∷ [])) o
posted_here ps to signal None e = e
posted_here ps to signal (Some p) e = go (is_ended p.status) refl
  where
    go : (b : Bool) → is_ended p.status ≡ b → process_of (posted_to ps to signal (cond b None (Some p))) to ≡ Some (with_name_and_transit p.name (p.transit ++ signal ∷ []) p)
    go true over = e ∙ sym (ap (λ b. Some (cond b p (record p { name = p.name; transit = p.transit ++ signal ∷ [] }))) over)
    go false lives =
        put_here ps to p (record p { transit = p.transit ++ signal ∷ [] }) e ∙ sym (ap (λ b. Some (cond b p (record p { name = p.name; transit = p.transit ++ signal ∷ [] }))) lives)

posted_elsewhere : (ps : List Process) (to pid : ℕ) (signal : Signal) (o : Option Process) → live_process ps to ≡ o → pid ≢ to → process_of (posted_to ps to signal o) pid ≡ process_of ps pid
posted_elsewhere ps to pid signal None e ne = refl
posted_elsewhere ps to pid signal (Some x) e ne = put_elsewhere ps to pid (record x { transit = x.transit ++ signal ∷ [] }) ne (positive ps to x (alive_is (process_of ps to) x e).0)

nothing : (o : Option Process) → option_map (with_signals []) o ≡ o
nothing None = refl
nothing (Some p) = ap Some (no_signals p)

twice : (xs ys : List Signal) (o : Option Process) → option_map (with_signals ys) (option_map (with_signals xs) o) ≡ option_map (with_signals (xs ++ ys)) o
twice xs ys None = refl
twice xs ys (Some p) = ap Some (more_signals xs ys p)

pub posted_at : (ps : List Process) (to pid : ℕ) (signal : Signal) (b : Bool) → (to == pid) ≡ b
    → process_of (posted ps to signal) pid ≡ option_map (with_signals (cond b (signal ∷ []) [])) (process_of ps pid)
posted_at ps to pid signal true e =
    let here : to ≡ pid = grind (arith, nat_tests) in
    subst (λ pid. process_of (posted ps to signal) pid ≡ option_map (with_signals (signal ∷ [])) (process_of ps pid)) here (posted_here ps to signal (process_of ps to) refl)
posted_at ps to pid signal false e =
    let other : pid ≢ to = λ h. true≢false (sym (eq-eqb to pid (sym h)) ∙ e) in
    posted_elsewhere ps to pid signal (live_process ps to) refl other ∙ sym (nothing (process_of ps pid))

-- private rows' signals, seen from one process
pub all_posted_at : (ps : List Process) (pid : ℕ) (sents : List Sent) → process_of (posted_all ps sents) pid ≡ option_map (with_signals (signals_to pid sents)) (process_of ps pid)
all_posted_at ps pid [] = sym (nothing (process_of ps pid))
all_posted_at ps pid (sent ∷ rest) =
    all_posted_at (posted ps sent.to sent.signal) pid rest
    ∙ (ap (option_map (with_signals (signals_to pid rest))) (posted_at ps sent.to pid sent.signal (sent.to == pid) refl)
    ∙ (twice (signals_to pid (sent ∷ [])) (signals_to pid rest) (process_of ps pid) ∙ ap (λ ts. option_map (with_signals ts) (process_of ps pid)) (sym (signals_append pid (sent ∷ []) rest))))

-- ---- the signals to each process of a list

abbrev pub said : (Process → List Signal) → Option Process → List Signal
said signals (Some p) = signals p
said signals None = []

-- signals to one process, seen from it and from another
tagged_here : (n at : ℕ) → (at == n) ≡ true → (xs : List Signal) → signals_to n (map (λ signal. record { to = at; signal = signal }) xs) ≡ xs
tagged_here n at e [] = refl
tagged_here n at e (x ∷ xs) =
    let rest : List Signal = signals_to n (map (λ signal. record { to = at; signal = signal }) xs) in
    ap (λ b. cond b (x ∷ rest) rest) e ∙ ap (λ ts. x ∷ ts) (tagged_here n at e xs)

tagged_elsewhere : (n at : ℕ) → (at == n) ≡ false → (xs : List Signal) → signals_to n (map (λ signal. record { to = at; signal = signal }) xs) ≡ []
tagged_elsewhere n at e [] = refl
tagged_elsewhere n at e (x ∷ xs) =
    let rest : List Signal = signals_to n (map (λ signal. record { to = at; signal = signal }) xs) in
    ap (λ b. cond b (x ∷ rest) rest) e ∙ tagged_elsewhere n at e xs

each_before : (n at : ℕ) (f : Process → List Signal) (ps : List Process) → n < at → signals_to n (each_sent at f ps) ≡ []
each_before n at f [] below = refl
each_before n at f (p ∷ ps) below =
    let other : (at == n) ≡ false = grind (arith, nat_tests) in
    let more : n < at + 1 = omega (arith, below) in
    signals_append n (map (λ signal. record { to = at; signal = signal }) (f p)) (each_sent (at + 1) f ps)
    ∙ (ap (λ ts. ts ++ signals_to n (each_sent (at + 1) f ps)) (tagged_elsewhere n at other (f p)) ∙ each_before n (at + 1) f ps more)

each_at : (n at k : ℕ) (f : Process → List Signal) (ps : List Process) → n ≡ at + k → signals_to n (each_sent at f ps) ≡ said f (slice_get ps k)
each_at n at k f [] e = refl
each_at n at zero f (p ∷ ps) e =
    let here : (at == n) ≡ true = grind (arith, nat_tests) in
    let below : n < at + 1 = omega (arith, e) in
    signals_append n (map (λ signal. record { to = at; signal = signal }) (f p)) (each_sent (at + 1) f ps)
    ∙ (ap (λ ts. ts ++ signals_to n (each_sent (at + 1) f ps)) (tagged_here n at here (f p))
    ∙ (ap (λ ts. f p ++ ts) (each_before n (at + 1) f ps below) ∙ append-nil (f p)))
each_at n at (suc k) f (p ∷ ps) e =
    let other : (at == n) ≡ false = grind (arith, nat_tests) in
    let same : n ≡ (at + 1) + k = omega (arith, e) in
    signals_append n (map (λ signal. record { to = at; signal = signal }) (f p)) (each_sent (at + 1) f ps)
    ∙ (ap (λ ts. ts ++ signals_to n (each_sent (at + 1) f ps)) (tagged_elsewhere n at other (f p)) ∙ each_at n (at + 1) k f ps same)

-- each process gets the signals that the function has for it
pub each_sent_to : (f : Process → List Signal) (ps : List Process) (n : ℕ) → signals_to n (each_sent 1 f ps) ≡ said f (process_of ps n)
each_sent_to f ps n = go (nat_lt 0 n) refl
  where
    go : (b : Bool) → nat_lt 0 n ≡ b → signals_to n (each_sent 1 f ps) ≡ said f (cond b (slice_get ps (n - 1)) None)
    go true e =
        let same : n ≡ 1 + (n - 1) = grind (arith, nat_tests) in
        each_at n 1 (n - 1) f ps same
    go false e =
        let below : n < 1 = grind (arith, nat_tests) in
        each_before n 1 f ps below

-- ---- how others can change a process

-- a process that wasn't there before
abbrev pub Fresh : List Signal → Option Process → Type 0
Fresh signals None = signals ≡ []
Fresh signals (Some q) = (is_ended q.status ≡ false) × (q.transit ≡ signals)

-- the process with more signals after those in transit to it, and perhaps with another name
abbrev pub Grown : List Signal → Option Process → Option Process → Type 0
Grown signals None o = Fresh signals o
Grown signals (Some p) o = (name : Option (List ℕ)) × (o ≡ Some (with_name_and_transit name (p.transit ++ signals) p))

grown_still : (o : Option Process) → Grown [] o o
grown_still None = refl
grown_still (Some p) = (p.name, ap Some (sym (no_signals p)))

fresh_more : (xs ys : List Signal) (q : Process) (name : Option (List ℕ)) (o : Option Process) → is_ended q.status ≡ false → q.transit ≡ xs → o ≡ Some (with_name_and_transit name (q.transit ++ ys) q) → Fresh (xs ++ ys) o
fresh_more xs ys q name o lives t e =
    let is : Some (record q { name = name; transit = xs ++ ys }) ≡ o = ap (λ ts. Some (record q { name = name; transit = ts ++ ys })) (sym t) ∙ (sym (ap (λ b. Some (cond b q (record q { name = name; transit = q.transit ++ ys }))) lives) ∙ sym e) in
    subst (Fresh (xs ++ ys)) is (lives, refl)

pub grown_more : (xs ys : List Signal) (o u v : Option Process) → Grown xs o u → Grown ys u v → Grown (xs ++ ys) o v
grown_more xs ys None None v g h = subst (λ zs. Fresh (zs ++ ys) v) (sym g) h
grown_more xs ys None (Some q) v g h = fresh_more xs ys q h.0 v g.0 g.1 h.1
grown_more xs ys (Some p) u v g h =
    let then : Grown ys (Some (with_name_and_transit g.0 (p.transit ++ xs) p)) v = subst (λ u. Grown ys u v) g.1 h in
    (then.0, then.1 ∙ ap Some (having_more g.0 then.0 xs ys p))

module _ (pid : ℕ) where
  abbrev pub Grows : List Sent → List Process → List Process → Type 0
  Grows sents ps qs = Grown (signals_to pid sents) (process_of ps pid) (process_of qs pid)

  pub grows_still : (ps : List Process) → Grows [] ps ps
  grows_still ps = grown_still (process_of ps pid)

  pub grows_more : (xs ys : List Sent) (ps qs rs : List Process) → Grows xs ps qs → Grows ys qs rs → Grows (xs ++ ys) ps rs
  grows_more xs ys ps qs rs g h =
      subst (λ ts. Grown ts (process_of ps pid) (process_of rs pid)) (sym (signals_append pid xs ys))
      (grown_more (signals_to pid xs) (signals_to pid ys) (process_of ps pid) (process_of qs pid) (process_of rs pid) g h)

  grown_by : (xs : List Signal) (o : Option Process) → (o ≡ None → xs ≡ []) → Grown xs o (option_map (with_signals xs) o)
  grown_by xs None h = h refl
  grown_by xs (Some p) h = (p.name, refl)

  posted_live : (ps : List Process) (to : ℕ) (signal : Signal) (o : Option Process) → live_process ps to ≡ o
      → Grows (cond (is_some o) (record { to = to; signal = signal } ∷ []) []) ps (posted ps to signal)
  posted_live ps to signal None e = subst (λ o. Grows [] ps (posted_to ps to signal o)) (sym e) (grows_still ps)
  posted_live ps to signal (Some x) e = go (to == pid) refl
    where
      there : process_of ps to ≡ Some x
      there = (alive_is (process_of ps to) x e).0

      go : (b : Bool) → (to == pid) ≡ b → Grown (cond b (signal ∷ []) []) (process_of ps pid) (process_of (posted ps to signal) pid)
      go true h =
          let here : to ≡ pid = grind (arith, nat_tests) in
          subst (Grown (signal ∷ []) (process_of ps pid)) (sym (posted_at ps to pid signal true h))
          (grown_by (signal ∷ []) (process_of ps pid) (λ none. absurd (clash (sym none ∙ (ap (process_of ps) (sym here) ∙ there)))))
        where
          clash : None ≡ Some x → ⊥
          clash e = cc
      go false h = subst (Grown [] (process_of ps pid)) (sym (posted_at ps to pid signal false h)) (grown_by [] (process_of ps pid) (λ none. refl))

  pub posted_grows : (ps : List Process) (to : ℕ) (signal : Signal) → Grows (signal_to ps to signal) ps (posted ps to signal)
  posted_grows ps to signal = posted_live ps to signal (live_process ps to) refl

  -- a process that starts

  fresh_push : (ps : List Process) (j : ℕ) (q : Process) → slice_get ps j ≡ None → is_ended q.status ≡ false → q.transit ≡ [] → Fresh [] (slice_get (ps ++ q ∷ []) j)
  fresh_push [] zero q e lives t = (lives, t)
  fresh_push [] (suc j) q e lives t = refl
  fresh_push (x ∷ ps) zero q e lives t = cc
  fresh_push (x ∷ ps) (suc j) q e lives t = fresh_push ps j q e lives t

  grown_push : (ps : List Process) (j : ℕ) (q : Process) (o : Option Process) → slice_get ps j ≡ o → is_ended q.status ≡ false → q.transit ≡ [] → Grown [] o (slice_get (ps ++ q ∷ []) j)
  grown_push ps j q None e lives t = fresh_push ps j q e lives t
  grown_push ps j q (Some p) e lives t = (p.name, get_push ps j p q e ∙ ap Some (sym (no_signals p)))

  pub started_grows : (ps : List Process) (n : ℕ) (m f : List ℕ) (arguments : List TermValue) → Grows [] ps (ps ++ started n m f arguments ∷ [])
  started_grows ps n m f arguments =
      elim (nat_lt 0 pid) as (λ b. Grown [] (cond b (slice_get ps (pid - 1)) None) (cond b (slice_get (ps ++ started n m f arguments ∷ []) (pid - 1)) None)) [
        | true ↦ grown_push ps (pid - 1) (started n m f arguments) (slice_get ps (pid - 1)) refl refl refl
        | false ↦ refl
      ]

  -- a process that gets a name, or loses it

  pub named_grows : (ps : List Process) (at : ℕ) (x : Process) (name : Option (List ℕ)) → live_process ps at ≡ Some x → Grows [] ps (with_process ps at (record x { name = name }))
  named_grows ps at x name e = go (at == pid) refl
    where
      go : (b : Bool) → (at == pid) ≡ b → Grown [] (process_of ps pid) (process_of (with_process ps at (record x { name = name })) pid)
      go true h =
          let a = alive_is (process_of ps at) x e in
          let here : at ≡ pid = grind (arith, nat_tests) in
          let is : record x { name = name } ≡ with_name_and_transit name (x.transit ++ []) x =
          ap (λ ts. record x { name = name; transit = ts }) (sym (append-nil x.transit)) ∙ sym (ap (λ b. cond b x (record x { name = name; transit = x.transit ++ [] })) a.1) in
          subst (λ pid. Grown [] (process_of ps pid) (process_of (with_process ps at (record x { name = name })) pid)) here
          (subst (λ o. Grown [] o (process_of (with_process ps at (record x { name = name })) at)) (sym a.0)
          (name, put_here ps at x (record x { name = name }) a.0 ∙ ap Some is))
      go false h =
          let other : pid ≢ at = λ i. true≢false (sym (eq-eqb at pid (sym i)) ∙ h) in
          subst (Grown [] (process_of ps pid)) (sym (put_elsewhere ps at pid (record x { name = name }) other (positive ps at x (alive_is (process_of ps at) x e).0))) (grown_still (process_of ps pid))

  -- the DOWNs of an end are the signals that it sends
  pub hearing_grows : (at : ℕ) (status : Status) (ps : List Process) → Grows (each_sent 1 (downs_of_end at status) ps) ps (hearing_by at status ps)
  hearing_grows at status ps =
      subst (λ xs. Grown xs (process_of ps pid) (process_of (hearing_by at status ps) pid)) (sym (each_sent_to (downs_of_end at status) ps pid))
      (subst (Grown (said (downs_of_end at status) (process_of ps pid)) (process_of ps pid)) (sym (hearing_at at status ps pid)) (go (process_of ps pid)))
    where
      go : (o : Option Process) → Grown (said (downs_of_end at status) o) o (option_map (hears at status) o)
      go None = refl
      go (Some p) = (p.name, refl)

  -- ---- natives of the node

  pub noproc_grows : (ps : List Process) (caller n : ℕ) (watched : TermValue) → Grows (noproc_sends ps caller watched (Some n)) ps (or_noproc ps caller n watched)
  noproc_grows ps caller n watched =
      let signal : Signal = Down n (atom_term (codes "noproc")) in
      elim (is_alive ps (own_number watched)) as (λ b. Grows (cond b [] (signal_to ps caller signal)) ps (cond b ps (posted ps caller signal))) [
        | true ↦ grows_still ps
        | false ↦ posted_grows ps caller signal
      ]

  watching_grows : (ps : List Process) (caller n : ℕ) (watched : TermValue) (o : Option Process) → live_process ps caller ≡ o → pid ≢ caller → Grows [] ps (put_monitor ps caller n watched o)
  watching_grows ps caller n watched None e ne = grows_still ps
  watching_grows ps caller n watched (Some x) e ne =
      subst (Grown [] (process_of ps pid)) (sym (put_elsewhere ps caller pid _ ne (positive ps caller x (alive_is (process_of ps caller) x e).0))) (grown_still (process_of ps pid))

  monitored_grows : (ps : List Process) (caller n : ℕ) (watched : TermValue) → pid ≢ caller → Grows (noproc_sends ps caller watched (Some n)) ps (monitored ps caller watched n)
  monitored_grows ps caller n watched ne =
      let qs : List Process = or_noproc ps caller n watched in
      let xs : List Sent = noproc_sends ps caller watched (Some n) in
      subst (λ ys. Grown ys (process_of ps pid) (process_of (monitored ps caller watched n) pid)) (ap (signals_to pid) (append-nil xs))
      (grows_more xs [] ps qs (monitored ps caller watched n) (noproc_grows ps caller n watched) (watching_grows qs caller n watched (live_process qs caller) refl ne))

  -- the caller of monitor is another process; other natives may have any caller
  abbrev pub Elsewhere : NodeNative → ℕ → Type 0
  Elsewhere Monitor caller = pid ≢ caller
  Elsewhere native caller = Unit {0}

  answered_grows : (references : ℕ) (ps : List Process) (caller : ℕ) (native : NodeNative) (xs : List Sent) (a : Answered) → Elsewhere native caller
      → Answers references ps caller native xs a → Grows xs ps a.processes
  answered_grows references ps caller native _ _ apart (keeps_all value) = grows_still ps
  answered_grows references ps caller native _ _ apart (starts_one m f arguments value) = started_grows ps (length ps + 1) m f arguments
  answered_grows references ps caller native _ _ apart (names_one name at x value e free) = named_grows ps at x (Some name) e
  answered_grows references ps caller native _ _ apart (unnames_one at x value e) = named_grows ps at x None e
  answered_grows references ps caller native _ _ apart (posts_one to signal value plain) = posted_grows ps to signal
  answered_grows references ps caller native _ _ apart (makes_one value) = grows_still ps
  answered_grows references ps caller native _ _ apart (monitors_one watched value is) =
      monitored_grows ps caller (references + 1) watched (subst (λ n. Elsewhere n caller) is apart)

  pub answer_grows : (references : ℕ) (ps : List Process) (caller : ℕ) (native : NodeNative) (ts : List TermValue) → Elsewhere native caller
      → Grows (native_sends references ps caller native ts) ps (answer_of references ps caller native ts).processes
  answer_grows references ps caller native ts apart = answered_grows references ps caller native _ _ apart (answer_is references ps caller native ts)
