-- Rows that were executed apart take effect, or nothing changes.
use Rattle.std.proofs.Common.{◌≡◌, ◌+◌, ℕ, false, List, [], ◌++◌, Result, Ok, Err, refl, sym, ap, subst, ◌∙◌, Some, None, IfOk, OnErr}
use Rattle.std.proofs.lemmas.Option.{same_Some}
use Rattle.beam_machine.specs.declared.event.Event.TheVariants.{Steps}
use Rattle.beam_machine.specs.declared.event.Refused.{Refused}
use Rattle.beam_machine.specs.declared.event.Then.{Then}
use Rattle.beam_machine.specs.declared.event.Then.TheVariants.{GoesOn}
use Rattle.beam_machine.specs.Prelude.{Code, Rows, next, Private, Sent, End, at_limit, after_row, before_node_row, at_spot, Process, is_ended, then_of, State, process_of, live_process, with_process}
use Rattle.beam_machine.specs.Next.{steps}
use Rattle.beam_laws.specs.Prelude.{ArePart, Rise, AreRising, with_name_and_transit, posted_all, after_private, before, with_name_and_transit_of}
use Rattle.beam_laws.proofs.Ending.{alive_is}
use Rattle.beam_proc.specs.Prelude.{end_of}
use Rattle.beam_proc.specs.declared.private.End.{End as TheEnd}
use Rattle.beam_proc.specs.declared.private.End.TheVariants.{AtLimit, AfterRow, BeforeNodeRow, AtSpot}
use Rattle.beam_state.specs.Prelude.{Parts, node, then_at, with_processes, CanReplace}
use Rattle.beam_state.specs.Posting.{all_taken}
use Rattle.beam_core.specs.Installing.{AreRowsOf, Installed, installed, node_rows, notices_at}
use Rattle.beam_core.proofs.Apart.{having_follows, now_lives, process_follows, process_runs, rows_alone_keep, rows_keep}
use Rattle.beam_core.proofs.Installing.{more, sender_there, can_replace, took_effect, made_there, stands, goes_on, can_go_back, all_undone}
use Rattle.beam_core.proofs.Monitors.{now_rise, now_part}
use Rattle.beam_core.proofs.Telling.{HavePids}

-- a process takes the place of the one of that number, which is given back
abbrev pub Replaces : Parts → ℕ → Process → Parts → Process → Type 0
Replaces s pid p t was =
    (q : Process) → process_of s.processes pid ≡ Some q
    → (t ≡ with_processes s (with_process s.processes pid (with_name_and_transit q.name q.transit p))) × (was ≡ record q { name = None; transit = [] })

-- ---- why the rows end

pub ends_before : (end : TheEnd) → end_of end ≡ before_node_row → end ≡ BeforeNodeRow
ends_before AtLimit e = cc
ends_before AfterRow e = cc
ends_before BeforeNodeRow e = refl
ends_before AtSpot e = cc

no_row : (end : End) → (end ≡ before_node_row → ⊥) → node_rows end ≡ 0
no_row at_limit other = refl
no_row after_row other = refl
no_row before_node_row other = absurd (other refl)
no_row at_spot other = refl

-- ---- the state

module _ (code : Code) (old posted : Parts) (pid : ℕ) (rows : Private) (h : AreRowsOf (node code old) pid rows) (sent : List Sent) (p : Process) (then : Then)
    (same_sent : sent ≡ rows.sent) (same : p ≡ rows.process) (is_then : then ≡ then_of p.status)
    (posts : posted ≡ with_processes old (posted_all old.processes (sent ++ notices_at pid then old.processes))) where
  lives : is_ended h.now.status ≡ false
  lives = now_lives (node code old) pid rows h

  abbrev told : List Sent
  told = sent ++ notices_at pid then old.processes

  stands_so : then ≡ then_of rows.process.status
  stands_so = is_then ∙ ap (λ (p : Process). then_of p.status) same

  all : told ≡ rows.sent ++ notices_at pid (then_of rows.process.status) old.processes
  all = ap (λ ts. ts ++ notices_at pid then old.processes) same_sent ∙ ap (λ then. rows.sent ++ notices_at pid then old.processes) stands_so

  can : CanReplace posted.processes pid rows.process
  can = can_replace code old posted posted pid h.now rows h.there lives told all posts h.first.name (process_follows (node code old) pid rows h)

  pub stands_in : CanReplace posted.processes pid p
  stands_in = subst (CanReplace posted.processes pid) (sym same) can

  references_stay : old.references ≡ posted.references
  references_stay = ap (λ (s : Parts). s.references) (sym posts)

  -- the rows leave no monitor that wasn't there
  pub part_in : (q : Process) → live_process posted.processes pid ≡ Some q → ArePart q.monitors p.monitors
  part_in q e =
      let there : process_of posted.processes pid ≡ Some q = (alive_is (process_of posted.processes pid) q e).0 in
      let one : more pid told h.now ≡ q = same_Some (more pid told h.now) q (sym (sender_there code old posted posted pid h.now rows h.there lives told all posts) ∙ there) in
      subst (λ (p : Process). ArePart q.monitors p.monitors) (sym same)
      (subst (λ (q : Process). ArePart q.monitors rows.process.monitors) one (now_part (node code old) pid rows h))

  abbrev pub sender : Process
  sender = more pid told h.now

  abbrev pub made : Process
  made = with_name_and_transit h.now.name sender.transit rows.process

  module _ (put : Parts) (was : Process) (does : Replaces posted pid p put was) where
    done : (put ≡ with_processes posted (with_process posted.processes pid (with_name_and_transit h.now.name sender.transit p))) × (was ≡ record sender { name = None; transit = [] })
    done = does sender (sender_there code old posted put pid h.now rows h.there lives told all posts)

    puts : put ≡ with_processes posted (with_process posted.processes pid made)
    puts = done.0 ∙ ap (λ p. with_processes posted (with_process posted.processes pid (with_name_and_transit h.now.name sender.transit p))) same

    taken : HavePids old.processes → node code put ≡ after_private (node code old) pid (with_name_and_transit_of h.now rows)
    taken = took_effect code old posted put pid h.now rows h.there lives told all posts puts

    -- the node after the rows took effect preserves what every `Steps` preserves
    pub effect_keeps : (P : State → Type 0) → ((s : State) (pid n : ℕ) → P s → P (next s (Steps pid n)).state) → HavePids old.processes → P (node code old) → P (node code put)
    effect_keeps P keeps pids kept = subst P (sym (taken pids)) (rows_alone_keep (node code old) pid rows h P keeps kept)

    -- the case in which no row of the node follows
    pub effect : HavePids old.processes → (rows.end ≡ before_node_row → ⊥) → Installed (node code old) pid rows then (node code put)
    effect pids other = λ q there.
        let none : node_rows rows.end ≡ 0 = no_row rows.end other in
        let it : h.now ≡ q = same_Some h.now q (sym h.there ∙ there) in (
          ap (λ q. installed (node code old) pid (with_name_and_transit_of q rows)) (sym it)
              ∙ (ap (λ k. before rows.count (steps (after_private (node code old) pid (with_name_and_transit_of h.now rows)) pid k)) none
              ∙ (ap (λ (t : State). before rows.count (steps t pid 0)) (sym (taken pids))
              ∙ ap (λ k. record { count = rows.count + k; state = node code put }) (sym none))),
          stands code old posted put pid h.now rows h.there lives told all posts puts ∙ ap Some (sym stands_so),
        )

    -- the case in which a row of the node follows
    module _ (e : rows.end ≡ before_node_row) where
      pub goes_on_there : then_at put.processes pid ≡ Some GoesOn
      goes_on_there = goes_on code old posted put pid h.now rows h.there lives told all posts puts (process_runs (node code old) pid rows h e)

      pub effect_and_row : HavePids old.processes → (last : Parts) (after : Then) → steps (node code put) pid 1 ≡ record { count = 1; state = node code last } → then_at last.processes pid ≡ Some after
          → Installed (node code old) pid rows after (node code last)
      effect_and_row pids last after row said = λ q there.
          let one : node_rows rows.end ≡ 1 = ap node_rows e in
          let it : h.now ≡ q = same_Some h.now q (sym h.there ∙ there) in (
            ap (λ q. installed (node code old) pid (with_name_and_transit_of q rows)) (sym it)
                ∙ (ap (λ k. before rows.count (steps (after_private (node code old) pid (with_name_and_transit_of h.now rows)) pid k)) one
                ∙ (ap (λ (t : State). before rows.count (steps t pid 1)) (sym (taken pids))
                ∙ (ap (before rows.count) row
                ∙ ap (λ k. record { count = rows.count + k; state = node code last }) (sym one)))),
            said,
          )

      pub stands_back : (now : Parts) → now ≡ put → CanReplace now.processes pid was
      stands_back now is =
          subst (λ (s : Parts). CanReplace s.processes pid was) (sym is)
          (can_go_back code old posted put pid h.now rows h.there lives told all posts puts (process_runs (node code old) pid rows h e) was done.1
          (having_follows h.now.pid h.first.name h.now.name sender.transit rows.process (process_follows (node code old) pid rows h)).0)

      pub rises_back : AreRising old.references old.processes → (now : Parts) → now ≡ put → Rise 0 now.references was.monitors
      rises_back rise now is =
          let count : old.references ≡ now.references = references_stay ∙ ap (λ (s : Parts). s.references) (sym puts) ∙ ap (λ (s : Parts). s.references) (sym is) in
          subst (λ (p : Process). Rise 0 now.references p.monitors) (sym done.1)
          (subst (λ n. Rise 0 n h.now.monitors) count (now_rise (node code old) pid rows h old.references rise))

      -- all changes are taken back
      pub restored : (now last new : Parts) (left : Process) (ts : List Sent) → now ≡ put → Replaces now pid was last left → ts ≡ rows.sent
          → new ≡ with_processes last (all_taken last.processes ts) → new ≡ old
      restored now last new left ts is back same_ts takes =
          let there : process_of now.processes pid ≡ Some made =
          ap (λ (s : Parts). process_of s.processes pid) is ∙ made_there code old posted put pid h.now rows h.there lives told all posts puts in
          all_undone code old posted put pid h.now rows h.there lives told all posts puts (process_runs (node code old) pid rows h e) was done.1 now last new is (back made there).0
          (takes ∙ ap (λ ts. with_processes last (all_taken last.processes ts)) same_ts)

-- the node preserves what every `Steps` preserves
pub install_keeps : (P : State → Type 0) → ((s : State) (pid n : ℕ) → P s → P (next s (Steps pid n)).state) → (code : Code) (old new : Parts) (pid : ℕ) (rows : Private)
    → AreRowsOf (node code old) pid rows → (result : Result Then Refused) → IfOk result (λ after. Installed (node code old) pid rows after (node code new)) → OnErr result (new ≡ old)
    → P (node code old) → P (node code new)
install_keeps P keeps code old new pid rows h (Ok after) does err p =
    subst P (ap (λ (r : Rows). r.state) (does h.now h.there).0) (rows_keep (node code old) pid rows h P keeps p)
install_keeps P keeps code old new pid rows h (Err refused) does err p = subst P (ap (node code) (sym err)) p
