use Rattle.std.proofs.Common.{ℕ, List, sym, ap, subst, arith, IsSome}
use Rattle.beam_model.specs.declared.compact.Compact.{Compact}
use Rattle.beam_code.specs.Prelude.{argument_of, meant_in}
use Rattle.beam_code.proofs.Lent.{lendable, same_read, no_fault, read_shorter, next_fits, lent_is}
use Rattle.beam_code.proofs.bytes.CodeBytes.long_argument.Goals as goal

pub rest-bytes-requires : goal.rest-bytes-requires
rest-bytes-requires c =
    let within = (lendable c.args.self.now c.args.at c.requires).read.within in
    omega (arith, within)

pub lent-requires-clause-meant : goal.lent-requires-clause-meant
lent-requires-clause-meant c =
    let l = lendable c.args.self.now c.args.at c.requires in
    let same = same_read c.args.self.now c.args.at l.x l.rest l.read c.rest-bytes.result.now c.rest-bytes.ensures.rest (c.in-Ok.operand, c.in-Ok.rest.now) c.in-Ok.ensures.exact in
    subst (λ (x : Compact). IsSome (meant_in c.args.self.now x)) (sym (ap (λ (p : Compact × List ℕ). p.0) same)) l.means

pub overflow_sub-result : goal.overflow_sub-result
overflow_sub-result c =
    let l = lendable c.args.self.now c.args.at c.requires in
    let same = same_read c.args.self.now c.args.at l.x l.rest l.read c.rest-bytes.result.now c.rest-bytes.ensures.rest (c.in-Ok.operand, c.in-Ok.rest.now) c.in-Ok.ensures.exact in
    read_shorter c.args.self.now.code c.args.at l.x l.rest l.read c.rest-bytes.result.now c.rest-bytes.ensures.rest (c.in-Ok.operand, c.in-Ok.rest.now) same

pub overflow_add-result : goal.overflow_add-result
overflow_add-result c =
    let l = lendable c.args.self.now c.args.at c.requires in
    record { fits = next_fits c.args.self.now.code c.args.at c.rest-bytes.result.now c.rest-bytes.ensures.rest l.read.within c.rest-bytes.ensures.room _ }

pub unreachable-requires : goal.unreachable-requires
unreachable-requires c =
    let l = lendable c.args.self.now c.args.at c.requires in
    no_fault c.args.self.now.code c.args.at l.x l.rest l.read c.rest-bytes.result.now c.rest-bytes.ensures.rest c.in-Err.field-0 c.in-Err.ensures.exact c.in-Err.ensures.memory

pub returns-clause-is : goal.returns-clause-is
returns-clause-is c =
    let l = lendable c.args.self.now c.args.at c.requires in
    lent_is c.args.self.now c.args.at l.x l.rest l.read c.rest-bytes.result.now c.rest-bytes.ensures.rest (c.in-Ok.operand, c.in-Ok.rest.now) c.in-Ok.ensures.exact (argument_of c.lent.result) c.lent.ensures.is
