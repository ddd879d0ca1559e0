use Rattle.std.proofs.Common.{◌≡◌, ◌<◌, ◌++◌, subst, arith, IfOk}
use Rattle.beam_state.proofs.ends.notices.Goals as goal

pub returns-in-Some-clause-ok : goal.returns-in-Some-clause-ok
returns-in-Some-clause-ok c =
    let few : c.args.references < 4294967296 = omega arith in
    subst (λ xs. IfOk c.found.result (λ all. all.items ≡ c.args.sent.items ++ xs))
    (c.in-Some.ensures c.args.pid c.args.references c.args.reason.now few c.requires.lawful) (rw c.as_slice.ensures at c.found.ensures.ok)
