use Rattle.std.proofs.Common.{◌≡◌, ◌+◌, ◌<◌, ◌≤◌, ℕ, false, length, sym, ap, subst, ◌∙◌, arith, vec_capacity}
use Rattle.beam_machine.specs.declared.debug.DebugReply.TheVariants.{Held, Node}
use Rattle.beam_machine.specs.declared.event.Reply.TheVariants.{Ran}
use Rattle.beam_machine.specs.declared.event.Then.{Then}
use Rattle.beam_machine.specs.Prelude.{Debugged, is_among, with_pid, passes_on, Private, State}
use Rattle.beam_proc.specs.Prelude.{end_of}
use Rattle.beam_core.specs.Installing.{Installed, node_rows}
use Rattle.beam_debug.specs.Prelude.{capacity_of, debugged, AreRising}
use Rattle.beam_debug.proofs.Installs.{ends_at_spot, replies_with, slices_run, slices_stop}
use Rattle.beam_debug.proofs.Capacities.{higher, place_left}
use Rattle.beam_debug.proofs.installing.install.Goals as goal

pub put-requires : goal.put-requires
put-requires c =
    let d : Debugged = debugged c.args.core.now c.args.debug.now in
    let pid : ℕ = c.args.pid in
    let pids = c.make_room.new.held in
    let less : pid < vec_capacity pids = c.in_ok-make_room.ensures.capacity in
    let same : pids.items ≡ d.held = c.make_room.ensures.items in
    let rising : AreRising 0 (vec_capacity pids) pids.items
    = subst (λ ns. AreRising 0 (vec_capacity pids) ns) (sym same) (higher 0 (capacity_of c.args.debug.now) (vec_capacity pids) d.held c.make_room.ensures.kept c.requires.capacity.held) in
    let out = c.requires.rows in
    let free : is_among pid pids.items ≡ false = ap (is_among pid) same ∙ subst (λ n. is_among n d.held ≡ false) out.own out.can.1.1 in
    let from : 0 ≤ pid = omega arith in
    let left : 0 + length pids.items < vec_capacity pids = place_left 0 (vec_capacity pids) pid pids.items from less rising free in
    omega (arith, left, pids.ok.0)

pub returns-in-AtSpot-clause-next : goal.returns-in-AtSpot-clause-next
returns-in-AtSpot-clause-next c =
    let d : Debugged = debugged c.args.core.now c.args.debug.now in
    let rows : Private = c.args.rows in
    let pid : ℕ = c.args.pid in
    let count : ℕ = c.rows_done-count.result in
    let after : Then = c.in_ok-then.then in
    let t : State = c.install.new.self in
    let end : end_of c.rows.inside.end ≡ rows.end = ap (λ (r : Private). r.end) c.rows.view_is in
    let counts : count ≡ rows.count + node_rows rows.end = c.rows_done-count.ensures in
    let does : Installed c.args.core.now pid rows after t = c.in_ok-then.ensures.ok in
    let held : c.put.new.pids.items ≡ with_pid pid d.held = c.put.ensures.items ∙ ap (with_pid pid) c.make_room.ensures.items in
    replies_with _ (Held count) t d.spots (with_pid pid d.held) (passes_on count pid d.passing) c.put.new.pids.items c.pass_on.new.passing.items _
    (slices_stop d pid count rows after t c.requires.rows does counts (sym end ∙ ap end_of c.in-AtSpot.is)) held c.pass_on.ensures c.settle.ensures.debug

pub returns : goal.returns
returns c =
    let d : Debugged = debugged c.args.core.now c.args.debug.now in
    let rows : Private = c.args.rows in
    let pid : ℕ = c.args.pid in
    let count : ℕ = c.rows_done-count.result in
    let after : Then = c.in_ok-then.then in
    let t : State = c.install.new.self in
    let end : end_of c.rows.inside.end ≡ rows.end = ap (λ (r : Private). r.end) c.rows.view_is in
    let counts : count ≡ rows.count + node_rows rows.end = c.rows_done-count.ensures in
    let does : Installed c.args.core.now pid rows after t = c.in_ok-then.ensures.ok in
    record {
      next = replies_with _ (Node (Ran count after)) t d.spots d.held (passes_on count pid d.passing) c.make_room.new.held.items c.pass_on.new.passing.items _
          (slices_run d pid count rows after t c.requires.rows does counts (λ e. c.in_default.not-AtSpot (ends_at_spot c.rows.inside.end (end ∙ e)))) c.make_room.ensures.items c.pass_on.ensures c.settle-2.ensures.debug;
      err = tt;
      refused = tt;
      quiet = λ quiet. tt;
      capacity = omega (arith, c.make_room.ensures.kept, c.settle-2.ensures.capacity);
      begun =
          let made : pid < vec_capacity c.make_room.new.held = c.in_ok-make_room.ensures.capacity in
          omega (arith, made, c.settle-2.ensures.capacity);
    }
