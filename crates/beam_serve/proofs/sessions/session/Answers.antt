use Rattle.std.proofs.lemmas.Result.{IfErr-weaker, IfOk-weaker}
use Rattle.beam_serve.proofs.Keeping.{kept_served, kept_stopped}
use Rattle.beam_serve.proofs.sessions.session.Goals as goal

pub returns-clause-served : goal.returns-clause-served
returns-clause-served g c =
    IfOk-weaker c.serve.result _ _ (λ v h. (h.0, h.1, h.2, h.3, h.4, kept_served c.args.desk.now h.0 h.1 v c.serve.new.desk h.4)) c.serve.ensures.served

pub returns-clause-stopped : goal.returns-clause-stopped
returns-clause-stopped g c =
    IfErr-weaker c.serve.result _ _ (λ e h. (h.0, h.1, h.2, h.3, h.4, kept_stopped c.args.desk.now h.0 h.1 e c.serve.new.desk h.4)) c.serve.ensures.stopped
