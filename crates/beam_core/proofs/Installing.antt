-- Signals that are posted before their sender's rows take effect, in place of after it.
use Rattle.std.proofs.Common.{◌≡◌, ◌≢◌, ℕ, ◌==◌, eq-eqb, true≢false, Bool, true, false, cond, List, [], ◌∷◌, ◌++◌, append_assoc, append-nil, refl, sym, ap, subst, ◌∙◌, arith, Option, Some, None, option_map}
use Rattle.std.proofs.lemmas.Bool.Decides.{nat_tests}
use Rattle.beam_machine.specs.declared.event.Then.TheVariants.{GoesOn}
use Rattle.beam_machine.specs.declared.process.Signal.{Signal}
use Rattle.beam_machine.specs.declared.process.Status.{Status}
use Rattle.beam_machine.specs.declared.process.Status.TheVariants.{Running, Waiting, Ended}
use Rattle.beam_machine.specs.Prelude.{Code, Private, Sent, Process, is_running, is_ended, then_of, process_of, with_process, alive, posted_to, posted}
use Rattle.beam_laws.specs.Prelude.{Follows, with_name_and_transit, with_signals, posted_all, after_private, with_name_and_transit_of, signals_to}
use Rattle.beam_laws.proofs.Ending.{runs_on}
use Rattle.beam_laws.proofs.Follows.{on}
use Rattle.beam_laws.proofs.Numbered.{put_same, put_put, put_here, alive_of, gone}
use Rattle.beam_laws.proofs.Posting.{posted_at, all_posted_at}
use Rattle.beam_laws.proofs.Private.{having_status}
use Rattle.beam_laws.proofs.Commits.{elsewhere}
use Rattle.beam_state.specs.Prelude.{Parts, node, then_at, with_processes, CanReplace}
use Rattle.beam_state.specs.Posting.{all_taken}
use Rattle.beam_state.proofs.Untaken.{all_untaken}
use Rattle.beam_core.specs.Installing.{notices_at}
use Rattle.beam_core.proofs.Apart.{having_follows}
use Rattle.beam_core.proofs.Telling.{HavePids, all_told}

-- ---- one signal, and the process put

own : (ps : List Process) (pid : ℕ) (signal : Signal) (q : Process) → process_of ps pid ≡ Some q → is_ended q.status ≡ false
    → posted ps pid signal ≡ with_process ps pid (record q { transit = q.transit ++ signal ∷ [] })
own ps pid signal q e lives = ap (λ o. posted_to ps pid signal (alive o)) e ∙ ap (posted_to ps pid signal) (alive_of q lives)

-- a signal to the sender itself
to_itself : (ps : List Process) (pid : ℕ) (signal : Signal) (q r : Process) (b : Bool) → is_ended r.status ≡ b → process_of ps pid ≡ Some q → is_ended q.status ≡ false
    → with_process (posted ps pid signal) pid (with_name_and_transit q.name (q.transit ++ signal ∷ []) r) ≡ posted (with_process ps pid (with_name_and_transit q.name q.transit r)) pid signal
to_itself ps pid signal q r true over e lives =
    let more : Process = record q { transit = q.transit ++ signal ∷ [] } in
    ap (λ b. with_process (posted ps pid signal) pid (cond b r (record r { name = q.name; transit = q.transit ++ signal ∷ [] }))) over
    ∙ (ap (λ qs. with_process qs pid r) (own ps pid signal q e lives)
    ∙ (put_put ps pid more r
    ∙ (sym (ap (λ o. posted_to (with_process ps pid r) pid signal (alive o)) (put_here ps pid q r e) ∙ ap (posted_to (with_process ps pid r) pid signal) (gone r over))
    ∙ ap (λ b. posted (with_process ps pid (cond b r (record r { name = q.name; transit = q.transit }))) pid signal) (sym over))))
to_itself ps pid signal q r false alive_still e lives =
    let more : Process = record q { transit = q.transit ++ signal ∷ [] } in
    let x : Process = record r { name = q.name; transit = q.transit } in
    let y : Process = record r { name = q.name; transit = q.transit ++ signal ∷ [] } in
    ap (λ b. with_process (posted ps pid signal) pid (cond b r y)) alive_still
    ∙ (ap (λ qs. with_process qs pid y) (own ps pid signal q e lives)
    ∙ (put_put ps pid more y
    ∙ (sym (put_put ps pid x y)
    ∙ (sym (own (with_process ps pid x) pid signal x (put_here ps pid q x e) alive_still)
    ∙ ap (λ b. posted (with_process ps pid (cond b r x)) pid signal) (sym alive_still)))))

-- the signals that a process gets where a signal may be for it
abbrev mine : Bool → Signal → List Signal
mine b signal = cond b (signal ∷ []) []

one_commutes : (ps : List Process) (pid to : ℕ) (signal : Signal) (q r : Process) (b : Bool) → (to == pid) ≡ b → process_of ps pid ≡ Some q → is_ended q.status ≡ false
    → with_process (posted ps to signal) pid (with_name_and_transit q.name (q.transit ++ mine b signal) r) ≡ posted (with_process ps pid (with_name_and_transit q.name q.transit r)) to signal
one_commutes ps pid to signal q r true is e lives =
    let here : pid ≡ to = grind (arith, nat_tests) in
    subst (λ to. with_process (posted ps to signal) pid (with_name_and_transit q.name (q.transit ++ signal ∷ []) r) ≡ posted (with_process ps pid (with_name_and_transit q.name q.transit r)) to signal) here
    (to_itself ps pid signal q r (is_ended r.status) refl e lives)
one_commutes ps pid to signal q r false is e lives =
    let other : pid ≢ to = λ h. true≢false (sym (eq-eqb to pid (sym h)) ∙ is) in
    ap (λ ts. with_process (posted ps to signal) pid (with_name_and_transit q.name ts r)) (append-nil q.transit)
    ∙ elsewhere ps pid to signal q (with_name_and_transit q.name q.transit r) e other

-- ---- several

-- a process with these signals after those in transit to it
abbrev pub more : ℕ → List Sent → Process → Process
more pid sent q = record q { transit = q.transit ++ signals_to pid sent }

split : (pid : ℕ) (one : Sent) (rest : List Sent) → signals_to pid (one ∷ rest) ≡ mine (one.to == pid) one.signal ++ signals_to pid rest
split pid one rest = elim (one.to == pid) as (λ b. cond b (one.signal ∷ signals_to pid rest) (signals_to pid rest) ≡ mine b one.signal ++ signals_to pid rest) [ true ↦ refl | false ↦ refl ]

pub more_there : (ps : List Process) (pid : ℕ) (sent : List Sent) (q : Process) → process_of ps pid ≡ Some q → is_ended q.status ≡ false → process_of (posted_all ps sent) pid ≡ Some (more pid sent q)
more_there ps pid sent q e lives =
    all_posted_at ps pid sent ∙ (ap (option_map (with_signals (signals_to pid sent))) e ∙ ap (λ b. Some (cond b q (more pid sent q))) lives)

commutes : (ps : List Process) (pid : ℕ) (q r : Process) (sent : List Sent) → process_of ps pid ≡ Some q → is_ended q.status ≡ false
    → with_process (posted_all ps sent) pid (with_name_and_transit q.name (q.transit ++ signals_to pid sent) r) ≡ posted_all (with_process ps pid (with_name_and_transit q.name q.transit r)) sent
commutes ps pid q r [] e lives = ap (λ ts. with_process ps pid (with_name_and_transit q.name ts r)) (append-nil q.transit)
commutes ps pid q r (one ∷ rest) e lives =
    let b : Bool = one.to == pid in
    let after : List Process = posted ps one.to one.signal in
    let x : Process = record q { transit = q.transit ++ mine b one.signal } in
    let there : process_of after pid ≡ Some x =
    posted_at ps one.to pid one.signal b refl ∙ (ap (option_map (with_signals (mine b one.signal))) e ∙ ap (λ c. Some (cond c q x)) lives) in
    let whole : q.transit ++ signals_to pid (one ∷ rest) ≡ (q.transit ++ mine b one.signal) ++ signals_to pid rest =
    ap (λ ts. q.transit ++ ts) (split pid one rest) ∙ sym (append_assoc q.transit (mine b one.signal) (signals_to pid rest)) in
    ap (λ ts. with_process (posted_all after rest) pid (with_name_and_transit q.name ts r)) whole
    ∙ (commutes after pid x r rest there lives
    ∙ ap (λ qs. posted_all qs rest) (one_commutes ps pid one.to one.signal q r b refl e lives))

-- ---- the state

-- a process that runs has no end of which others could hear
none_at : (pid : ℕ) (status : Status) (ps : List Process) → is_running status ≡ true → notices_at pid (then_of status) ps ≡ []
none_at pid Running ps runs = refl
none_at pid Waiting ps runs = cc
none_at pid (Ended reason value) ps runs = cc

module _ (code : Code) (old posted put : Parts) (pid : ℕ) (q : Process) (rows : Private) (e : process_of old.processes pid ≡ Some q) (lives : is_ended q.status ≡ false)
    (sent : List Sent) (all : sent ≡ rows.sent ++ notices_at pid (then_of rows.process.status) old.processes) (posts : posted ≡ with_processes old (posted_all old.processes sent)) where
  abbrev pub there : Process
  there = more pid sent q

  abbrev pub made : Process
  made = with_name_and_transit q.name there.transit rows.process

  all_there : process_of (posted_all old.processes sent) pid ≡ Some there
  all_there = more_there old.processes pid sent q e lives

  pub sender_there : process_of posted.processes pid ≡ Some there
  sender_there = ap (λ (s : Parts). process_of s.processes pid) posts ∙ all_there

  -- the process of the rows can take its place
  pub can_replace : (name : Option (List ℕ)) → Follows q.pid name rows.process → CanReplace posted.processes pid rows.process
  can_replace name f = (there, ap alive sender_there ∙ alive_of there lives, having_follows q.pid name q.name there.transit rows.process f)

  module _ (puts : put ≡ with_processes posted (with_process posted.processes pid made)) where
    put_all : put.processes ≡ with_process (posted_all old.processes sent) pid made
    put_all = ap (λ (s : Parts). s.processes) puts ∙ ap (λ (s : Parts). with_process s.processes pid made) posts

    -- the rows took effect
    pub took_effect : HavePids old.processes → node code put ≡ after_private (node code old) pid (with_name_and_transit_of q rows)
    took_effect pids =
        let p : Process = with_name_and_transit q.name q.transit rows.process in
        let status : p.status ≡ rows.process.status = having_status q.name q.transit rows.process in
        let whole : sent ≡ rows.sent ++ notices_at pid (then_of p.status) old.processes =
        all ∙ ap (λ s. rows.sent ++ notices_at pid (then_of s) old.processes) (sym status) in
        ap (node code) puts
        ∙ (ap (λ (s : Parts). node code (with_processes s (with_process s.processes pid made))) posts
        ∙ (ap (λ ps. node code (with_processes old ps)) (commutes old.processes pid q rows.process sent e lives)
        ∙ (ap (λ ts. node code (with_processes old (posted_all (with_process old.processes pid p) ts))) whole
        ∙ ap (λ ps. node code (with_processes old ps)) (all_told old.processes pid q p rows.sent p.status pids e refl))))

    pub made_there : process_of put.processes pid ≡ Some made
    made_there = ap (λ ps. process_of ps pid) put_all ∙ put_here (posted_all old.processes sent) pid there made all_there

    made_status : made.status ≡ rows.process.status
    made_status = having_status q.name there.transit rows.process

    pub stands : then_at put.processes pid ≡ Some (then_of rows.process.status)
    stands = ap (option_map (λ p. then_of p.status)) made_there ∙ ap (λ s. Some (then_of s)) made_status

    pub goes_on : is_running rows.process.status ≡ true → then_at put.processes pid ≡ Some GoesOn
    goes_on runs = stands ∙ ap Some (at rows.process.status runs)
      where
        at : (s : Status) → is_running s ≡ true → then_of s ≡ GoesOn
        at Running e = refl
        at Waiting e = cc
        at (Ended reason value) e = cc

    -- ---- undone

    module _ (runs : is_running rows.process.status ≡ true) (was : Process) (left : was ≡ record there { name = None; transit = [] }) where
      is_made : made ≡ record rows.process { name = q.name; transit = there.transit }
      is_made = ap (λ b. cond b rows.process (record rows.process { name = q.name; transit = there.transit })) (runs_on rows.process.status runs)

      back : with_name_and_transit made.name made.transit was ≡ there
      back =
          ap (λ (p : Process). with_name_and_transit p.name p.transit was) is_made
          ∙ (ap (with_name_and_transit q.name there.transit) left
          ∙ ap (λ b. cond b (record there { name = None; transit = [] }) there) lives)

      pub can_go_back : made.pid ≡ q.pid → CanReplace put.processes pid was
      can_go_back same = (
        made,
        ap alive made_there ∙ alive_of made (ap is_ended made_status ∙ runs_on rows.process.status runs),
        subst (Follows made.pid made.name) (sym back) (on made.pid made.name there (sym same, (sym (ap (λ (p : Process). p.name) is_made), lives))),
      )

      own_alone : rows.sent ≡ sent
      own_alone = sym (all ∙ (ap (λ ts. rows.sent ++ ts) (none_at pid rows.process.status old.processes runs) ∙ append-nil rows.sent))

      pub all_undone : (cur last new : Parts) → cur ≡ put → last ≡ with_processes cur (with_process cur.processes pid (with_name_and_transit made.name made.transit was))
          → new ≡ with_processes last (all_taken last.processes rows.sent) → new ≡ old
      all_undone cur last new same backs takes =
          let ps : List Process = posted_all old.processes sent in
          let again : with_process put.processes pid (with_name_and_transit made.name made.transit was) ≡ ps =
          ap (with_process put.processes pid) back
          ∙ (ap (λ qs. with_process qs pid there) put_all ∙ (put_put ps pid made there ∙ put_same ps pid there all_there)) in
          let parts : put ≡ with_processes old (with_process posted.processes pid made) = puts ∙ ap (λ (s : Parts). with_processes s (with_process posted.processes pid made)) posts in
          let lasts : last ≡ with_processes old ps =
          backs
          ∙ (ap (λ (s : Parts). with_processes s (with_process s.processes pid (with_name_and_transit made.name made.transit was))) same
          ∙ (ap (λ ps. with_processes put ps) again ∙ ap (λ (s : Parts). with_processes s ps) parts)) in
          takes
          ∙ (ap (λ ts. with_processes last (all_taken last.processes ts)) own_alone
          ∙ (ap (λ (s : Parts). with_processes s (all_taken s.processes sent)) lasts
          ∙ ap (λ ps. with_processes old ps) (all_untaken old.processes sent)))
