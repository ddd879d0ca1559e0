use Rattle.std.proofs.Common.{◌≡◌, true, [], ◌∷◌, ◌++◌, None, sym, ap, subst, ◌∙◌}
use Rattle.beam_machine.specs.declared.debug.DebugEvent.TheVariants.{Node as NodeEvent}
use Rattle.beam_machine.specs.declared.debug.DebugReply.TheVariants.{Node as NodeReply}
use Rattle.beam_machine.specs.declared.event.Event.TheVariants.{Deliver}
use Rattle.beam_machine.specs.declared.event.Reply.TheVariants.{Done}
use Rattle.beam_debug.specs.Prelude.{reply_of}
use Rattle.beam_shared.specs.Prelude.{deliveries}
use Rattle.beam_shared.proofs.HandedOut.{said_done}
use Rattle.beam_shared.proofs.checking_out.deliver.Goals as goal

pub returns-clause-entered : goal.returns-clause-entered
returns-clause-entered g c =
    let now : c.args.has_incoming ≡ true = c.if-not-has_incoming.false in
    let is : reply_of c.in_ok-reply.reply ≡ NodeReply Done = said_done c.args.debugger.now.state _ c.args.pid (reply_of c.in_ok-reply.reply) (c.requires.incoming ∙ now) c.in_ok-reply.ensures.next in
    subst (λ b. c.enter_without_seat.new.journal.entries ≡ c.args.journal.now.entries ++ deliveries c.args.pid b) (sym now)
    (c.enter_without_seat.ensures.entered ∙ ap (λ r. c.args.journal.now.entries ++ record { event = NodeEvent (Deliver c.args.pid); seat = None; reply = r } ∷ []) is)

pub returns-clause-keeper : goal.returns-clause-keeper
returns-clause-keeper g c =
    let now : c.args.has_incoming ≡ true = c.if-not-has_incoming.false in
    let is : reply_of c.in_ok-reply.reply ≡ NodeReply Done = said_done c.args.debugger.now.state _ c.args.pid (reply_of c.in_ok-reply.reply) (c.requires.incoming ∙ now) c.in_ok-reply.ensures.next in
    subst (λ b. c.enter_without_seat.new.keeper ≡ record c.args.keeper.now { journal = c.args.keeper.now.journal ++ deliveries c.args.pid b }) (sym now)
    (c.enter_without_seat.ensures.keeper
    ∙ ap (λ r. record c.args.keeper.now { journal = c.args.keeper.now.journal ++ record { event = NodeEvent (Deliver c.args.pid); seat = None; reply = r } ∷ [] }) is)
