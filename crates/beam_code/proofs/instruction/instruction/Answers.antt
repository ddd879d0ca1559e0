use Rattle.std.proofs.Common.{◌≡◌, ◌-◌, length, refl, ◌∙◌, arith}
use Rattle.std.proofs.lemmas.Result.{err_from_is_err_and}
use Rattle.beam_code.proofs.Shared.{operands_fail, put_longer, instruction_put}
use Rattle.beam_code.proofs.instruction.instruction.Goals as goal

pub returns-in_err-next-clause-exact : goal.returns-in_err-next-clause-exact
returns-in_err-next-clause-exact c =
    let p = err_from_is_err_and c.from_residual.result c.from_residual.ensures.1 in
    let fails = rw c.kinds.ensures at c.in_err-next.ensures.exact in
    rw (p.1, p.2) (operands_fail c.in_err-next.field-0.0 c.args.atoms.now c.args.imports.now c.args.literals.now c.args.code.now c.args.opcode c.args.at c.args.pool.now.items fails)

pub overflow_cast-from : goal.overflow_cast-from
overflow_cast-from c =
    let start : c.len-start.result ≡ length c.args.pool.now.items = c.len-start.ensures ∙ c.args.pool.now.ok.0 in
    let end : c.len-end.result ≡ length c.as_listed.new.pool.items = c.len-end.ensures ∙ c.as_listed.new.pool.ok.0 in
    let put = rw start at c.in_ok-as_listed.ensures in
    let longer = put_longer c.args.pool.now.items c.operands.new.pool.items _ c.as_listed.new.pool.items c.in_ok-next.next _ c.in_ok-next.ensures.exact put in
    omega (arith, start, end, longer, c.if-end.false)

pub overflow_sub-count : goal.overflow_sub-count
overflow_sub-count c =
    let start : c.len-start.result ≡ length c.args.pool.now.items = c.len-start.ensures ∙ c.args.pool.now.ok.0 in
    let end : c.len-end.result ≡ length c.as_listed.new.pool.items = c.len-end.ensures ∙ c.as_listed.new.pool.ok.0 in
    let put = rw start at c.in_ok-as_listed.ensures in
    let longer = put_longer c.args.pool.now.items c.operands.new.pool.items _ c.as_listed.new.pool.items c.in_ok-next.next _ c.in_ok-next.ensures.exact put in
    omega (arith, start, end, longer)

pub returns-clause-exact : goal.returns-clause-exact
returns-clause-exact c =
    let start : c.len-start.result ≡ length c.args.pool.now.items = c.len-start.ensures ∙ c.args.pool.now.ok.0 in
    let end : c.len-end.result ≡ length c.as_listed.new.pool.items = c.len-end.ensures ∙ c.as_listed.new.pool.ok.0 in
    let put = rw start at c.in_ok-as_listed.ensures in
    let longer = put_longer c.args.pool.now.items c.operands.new.pool.items _ c.as_listed.new.pool.items c.in_ok-next.next _ c.in_ok-next.ensures.exact put in
    let read = rw c.kinds.ensures at c.in_ok-next.ensures.exact in
    (instruction_put c.args.atoms.now c.args.imports.now c.args.literals.now c.args.code.now c.args.opcode c.args.at c.in_ok-next.next c.args.pool.now.items c.operands.new.pool.items c.as_listed.new.pool.items
    (record { opcode = c.args.opcode; from = c.len-start.result; count = c.len-end.result - c.len-start.result }) read put refl start (omega (arith, start, end, longer))).0

pub returns-clause-put : goal.returns-clause-put
returns-clause-put c =
    let start : c.len-start.result ≡ length c.args.pool.now.items = c.len-start.ensures ∙ c.args.pool.now.ok.0 in
    let end : c.len-end.result ≡ length c.as_listed.new.pool.items = c.len-end.ensures ∙ c.as_listed.new.pool.ok.0 in
    let put = rw start at c.in_ok-as_listed.ensures in
    let longer = put_longer c.args.pool.now.items c.operands.new.pool.items _ c.as_listed.new.pool.items c.in_ok-next.next _ c.in_ok-next.ensures.exact put in
    let read = rw c.kinds.ensures at c.in_ok-next.ensures.exact in
    (instruction_put c.args.atoms.now c.args.imports.now c.args.literals.now c.args.code.now c.args.opcode c.args.at c.in_ok-next.next c.args.pool.now.items c.operands.new.pool.items c.as_listed.new.pool.items
    (record { opcode = c.args.opcode; from = c.len-start.result; count = c.len-end.result - c.len-start.result }) read put refl start (omega (arith, start, end, longer))).1
