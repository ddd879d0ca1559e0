-- The checkout of a process, with all signals in transit to it delivered.
use Rattle.std.proofs.Common.{◌≡◌, ℕ, ◌==◌, ◌||◌, Bool, true, false, cond, List, [], ◌∷◌, Option, Some, None, Ok, refl, sym, ap, subst, ◌∙◌, ◌⊎◌, inl, inr, arith, true≢false, filter, is_some}
use Rattle.std.proofs.lemmas.Bool.Decides.{nat_tests}
use Rattle.std.proofs.lemmas.Option.{same_Some}
use Rattle.beam_machine.specs.declared.debug.DebugEvent.TheVariants.{Node as NodeEvent}
use Rattle.beam_machine.specs.declared.debug.DebugReply.{DebugReply}
use Rattle.beam_machine.specs.declared.event.Event.TheVariants.{Deliver}
use Rattle.beam_machine.specs.declared.event.Reply.TheVariants.{Done}
use Rattle.beam_machine.specs.declared.event.Refused.TheVariants.{NotReady}
use Rattle.beam_machine.specs.declared.process.Signal.{Signal}
use Rattle.beam_machine.specs.Prelude.{Debugged, DebugAnswer, DebugNext, is_among, is_live_process, replies, pruned, of_node, debug_next, Next, made_process, refused, replied, delivered, is_nothing, next_deliver, Process, is_ended, is_running, View, State, alive, process_of, live_process, with_process, with_made}
use Rattle.beam_machine.specs.declared.debug.DebugReply.TheVariants.{Node as NodeReply}
use Rattle.beam_laws.specs.Prelude.{IsStill, Origin, IsAsItWas, IsOut}
use Rattle.beam_laws.proofs.Ending.{alive_is}
use Rattle.beam_laws.proofs.Hearing.{hearing_here}
use Rattle.beam_laws.proofs.Numbered.{alive_of, put_here}
use Rattle.beam_laws.proofs.Private.{having_own}
use Rattle.beam_laws.proofs.StayingOut.{comes_out}
use Rattle.beam_rows.specs.Prelude.{AlwaysFinds}
use Rattle.beam_rows.proofs.Finding.{framed_finds}
use Rattle.beam_shape_laws.specs.Shaped.{IsFramedNode}
use Rattle.beam_shape_laws.proofs.Nodes.{debug_framed}
use Rattle.beam_shared.specs.Prelude.{CheckedOut, has_any, all_arrived, process_has_incoming, delivered_if, origin_in, serial_of, refusal_in, refusal_of}
use Rattle.beam_shared.proofs.Refusing.{by_tests}

none_nothing : (signals : List Signal) → has_any signals ≡ true → is_nothing signals ≡ false
none_nothing [] e = absurd (cc e)
none_nothing (signal ∷ rest) e = refl

-- ---- sets of pids

still_among : (pid : ℕ) (test : ℕ → Bool) (ns : List ℕ) → test pid ≡ true → is_among pid (filter test ns) ≡ is_among pid ns
still_among pid test [] h = refl
still_among pid test (m ∷ rest) h = by (test m) (m == pid) refl refl (still_among pid test rest h)
  where
    by : (b c : Bool) → test m ≡ b → (m == pid) ≡ c → is_among pid (filter test rest) ≡ is_among pid rest
        → is_among pid (cond b (m ∷ filter test rest) (filter test rest)) ≡ (m == pid) || is_among pid rest
    by true c kept e more = ap (λ x. (m == pid) || x) more
    by false false gone e more = more ∙ ap (λ b. b || is_among pid rest) (sym e)
    by false true gone e more =
        let same : m ≡ pid = grind (arith, nat_tests, e) in
        absurd (true≢false (sym h ∙ (ap test (sym same) ∙ gone)))

module _ (d : Debugged) (pid : ℕ) (p : Process) (there : live_process d.node.processes pid ≡ Some p) where
  -- ---- what the event makes of the node

  abbrev arrived_in : State
  arrived_in = made_process d.node pid (delivered (record p { transit = [] }) p.transit)

  pub next_is : has_any p.transit ≡ true → debug_next d (NodeEvent (Deliver pid)) ≡ replies (record d { node = arrived_in }) (NodeReply Done)
  next_is some =
      ap (λ o. of_node d (next_deliver d.node pid o)) there
      ∙ ap (λ b. of_node d (cond {A = Next} b (refused d.node NotReady) (replied arrived_in Done))) (none_nothing p.transit some)

  pub is_done : has_any p.transit ≡ true → (debug_next d (NodeEvent (Deliver pid))).answer ≡ Ok (NodeReply Done)
  is_done some = ap (λ (n : DebugNext). n.answer) (next_is some)

  -- ---- the process is checked out

  it_is : (o : Origin) (q : Process) (b : Bool) → is_ended q.status ≡ b → o.pid ≡ pid → o.process ≡ q → o.passes ≡ is_among pid d.passing → is_among pid d.held ≡ false
      → process_of (pruned (record d { node = made_process d.node pid q })).node.processes pid ≡ Some q
      → (is_ended q.status ≡ true) ⊎ IsAsItWas (pruned (record d { node = made_process d.node pid q })) o q
  it_is o q true e own same passes free at = inl e
  it_is o q false e own same passes free at =
      let x : Debugged = pruned (record d { node = made_process d.node pid q }) in
      let live : is_live_process x.node pid ≡ true = ap (λ p. is_some (alive p)) at ∙ ap is_some (alive_of q e) in
      let keeps : (ns : List ℕ) → is_among pid (filter (is_live_process x.node) ns) ≡ is_among pid ns = λ ns. still_among pid (is_live_process x.node) ns live in
      inr (
        subst (λ z. IsStill z q) (sym same) (sym (having_own q)),
        ap (λ n. is_among n x.held) own ∙ (keeps d.held ∙ free),
        ap (λ n. is_among n x.passing) own ∙ (keeps d.passing ∙ sym passes),
      )

  arrived_out : (o : Origin) (q : Process) → o.pid ≡ pid → o.process ≡ q → o.passes ≡ is_among pid d.passing → is_among pid d.held ≡ false
      → IsOut (pruned (record d { node = made_process d.node pid q })) o
  arrived_out o q own same passes free =
      let put = put_here d.node.processes pid p q (alive_is (process_of d.node.processes pid) p there).0 in
      let at = hearing_here pid q.status (with_process d.node.processes pid q) q put refl in
      (q, ap (process_of (with_made d.node.processes pid q)) own ∙ at, it_is o q (is_ended q.status) refl own same passes free at)

  out_by : (o : Origin) (b : Bool) → has_any p.transit ≡ b → o.pid ≡ pid → o.process ≡ all_arrived p b → o.passes ≡ is_among pid d.passing → is_among pid d.held ≡ false
      → IsOut (delivered_if d pid b) o
  out_by o true some own same passes free =
      let is : pruned (record d { node = arrived_in }) ≡ (debug_next d (NodeEvent (Deliver pid))).state = sym (ap (λ (n : DebugNext). n.state) (next_is some)) in
      subst (λ x. IsOut x o) is (arrived_out o (delivered (record p { transit = [] }) p.transit) own same passes free)
  out_by o false none own same passes free =
      comes_out d o
      (ap (process_of d.node.processes) own ∙ ((alive_is (process_of d.node.processes pid) p there).0 ∙ ap Some (sym same)))
      (ap (λ n. is_among n d.held) own ∙ free)
      (ap (λ n. is_among n d.passing) own ∙ sym passes)

  pub is_out : (o : Origin) → o.pid ≡ pid → o.process ≡ all_arrived p (has_any p.transit) → o.passes ≡ is_among pid d.passing → is_among pid d.held ≡ false
      → IsOut (delivered_if d pid (has_any p.transit)) o
  is_out o own same passes free = out_by o (has_any p.transit) refl own same passes free

  -- ---- each of its rows finds what it names

  arrived_finds : has_any p.transit ≡ true → IsFramedNode d.node → AlwaysFinds d.node.code (delivered (record p { transit = [] }) p.transit)
  arrived_finds some framed =
      let q : Process = delivered (record p { transit = [] }) p.transit in
      let put = put_here d.node.processes pid p q (alive_is (process_of d.node.processes pid) p there).0 in
      let at = hearing_here pid q.status (with_process d.node.processes pid q) q put refl in
      let after : IsFramedNode arrived_in = subst (λ (n : DebugNext). IsFramedNode n.state.node) (next_is some) (debug_framed d (NodeEvent (Deliver pid)) tt framed) in
      framed_finds arrived_in pid q after at

  pub arrived_or_not : (b : Bool) → has_any p.transit ≡ b → IsFramedNode d.node → AlwaysFinds d.node.code (all_arrived p b)
  arrived_or_not true some framed = arrived_finds some framed
  arrived_or_not false none framed = framed_finds d.node pid p framed (alive_is (process_of d.node.processes pid) p there).0

-- ---- the answer to the event

ok_is : (x y : DebugReply View) (a : DebugAnswer) → a ≡ Ok x → a ≡ Ok y → x ≡ y
ok_is x y a e f = cc (e, f)

pub said_done : (d x : Debugged) (pid : ℕ) (reply : DebugReply View) → process_has_incoming (live_process d.node.processes pid) ≡ true
    → debug_next d (NodeEvent (Deliver pid)) ≡ record { answer = Ok reply; state = x } → reply ≡ NodeReply Done
said_done d x pid reply some e = by (live_process d.node.processes pid) refl some
  where
    by : (o : Option Process) → live_process d.node.processes pid ≡ o → process_has_incoming o ≡ true → reply ≡ NodeReply Done
    by None there some = absurd (cc some)
    by (Some p) there some = ok_is reply (NodeReply Done) (debug_next d (NodeEvent (Deliver pid))).answer (ap (λ (n : DebugNext). n.answer) e) (is_done d pid p there some)

-- ---- a process that may be checked out

may_by : (d : Debugged) (checked_out : List CheckedOut) (pid : ℕ) (p : Process) (busy held : Bool) → is_some (serial_of pid checked_out) ≡ busy → is_among pid d.held ≡ held
    → by_tests busy held (is_running p.status || has_any p.transit) ≡ None → (is_some (serial_of pid checked_out) ≡ false) × (is_among pid d.held ≡ false)
may_by d checked_out pid p true held b h e = absurd (cc e)
may_by d checked_out pid p false true b h e = absurd (cc e)
may_by d checked_out pid p false false b h e = (b, h)

may_be_checked_out : (d : Debugged) (checked_out : List CheckedOut) (pid : ℕ) (o : Option Process) → refusal_in d checked_out pid o ≡ None → (is_some (serial_of pid checked_out) ≡ false) × (is_among pid d.held ≡ false)
may_be_checked_out d checked_out pid None e = absurd (cc e)
may_be_checked_out d checked_out pid (Some p) e = may_by d checked_out pid p (is_some (serial_of pid checked_out)) (is_among pid d.held) refl refl e

pub not_out : (d : Debugged) (checked_out : List CheckedOut) (pid : ℕ) → refusal_of d checked_out pid ≡ None → is_some (serial_of pid checked_out) ≡ false
not_out d checked_out pid e = (may_be_checked_out d checked_out pid (live_process d.node.processes pid) e).0

out_in : (d : Debugged) (checked_out : List CheckedOut) (pid : ℕ) (o : Origin) (q : Option Process) → live_process d.node.processes pid ≡ q → origin_in d pid q ≡ Some o
    → refusal_of d checked_out pid ≡ None → IsOut (delivered_if d pid (process_has_incoming q)) o
out_in d checked_out pid o None there is may = absurd (cc is)
out_in d checked_out pid o (Some p) there is may =
    let own : Origin = record { pid = pid; process = all_arrived p (has_any p.transit); passes = is_among pid d.passing; code = d.node.code; spots = d.spots } in
    subst (IsOut (delivered_if d pid (has_any p.transit))) (same_Some own o is)
    (is_out d pid p there own refl refl refl (may_be_checked_out d checked_out pid (live_process d.node.processes pid) may).1)

pub handed_out : (d x : Debugged) (checked_out : List CheckedOut) (pid : ℕ) (o : Origin) (b : Bool) → origin_in d pid (live_process d.node.processes pid) ≡ Some o → refusal_of d checked_out pid ≡ None
    → process_has_incoming (live_process d.node.processes pid) ≡ b → x ≡ delivered_if d pid b → IsOut x o
handed_out d x checked_out pid o b is may incoming e =
    subst (λ y. IsOut y o) (sym (e ∙ ap (delivered_if d pid) (sym incoming))) (out_in d checked_out pid o (live_process d.node.processes pid) refl is may)

-- ---- each row of a process that is checked out finds what it names

finds_in : (d : Debugged) (pid : ℕ) (o : Origin) (q : Option Process) → live_process d.node.processes pid ≡ q → origin_in d pid q ≡ Some o
    → IsFramedNode d.node → AlwaysFinds o.code o.process
finds_in d pid o None there is framed = absurd (cc is)
finds_in d pid o (Some p) there is framed =
    let own : Origin = record { pid = pid; process = all_arrived p (has_any p.transit); passes = is_among pid d.passing; code = d.node.code; spots = d.spots } in
    subst (λ (z : Origin). AlwaysFinds z.code z.process) (same_Some own o is) (arrived_or_not d pid p there (has_any p.transit) refl framed)

pub origin_finds : (d : Debugged) (pid : ℕ) (o : Origin) → origin_in d pid (live_process d.node.processes pid) ≡ Some o → IsFramedNode d.node
    → AlwaysFinds o.code o.process
origin_finds d pid o is framed = finds_in d pid o (live_process d.node.processes pid) refl is framed

-- ---- the signals in transit to the process are delivered

pub done_now : (d x : Debugged) (pid : ℕ) → process_has_incoming (live_process d.node.processes pid) ≡ true → x ≡ (debug_next d (NodeEvent (Deliver pid))).state
    → debug_next d (NodeEvent (Deliver pid)) ≡ record { answer = Ok (NodeReply Done); state = x }
done_now d x pid some e = by (live_process d.node.processes pid) refl some
  where
    by : (o : Option Process) → live_process d.node.processes pid ≡ o → process_has_incoming o ≡ true → debug_next d (NodeEvent (Deliver pid)) ≡ record { answer = Ok (NodeReply Done); state = x }
    by None there some = absurd (cc some)
    by (Some p) there some =
        ap (λ a. record { answer = a; state = (debug_next d (NodeEvent (Deliver pid))).state }) (is_done d pid p there some)
        ∙ ap (λ s. record { answer = Ok (NodeReply Done); state = s }) (sym e)
