use Rattle.std.proofs.Common.{sym, map}
use Rattle.std.proofs.lemmas.Result.{err_from_is_err_and}
use Rattle.beam_code.specs.Prelude.{tables_of, made_of}
use Rattle.beam_code.proofs.Loops.{opcode_fails, reading_ends, instruction_fails, instruction_more}
use Rattle.beam_code.proofs.ReadingLayout.{Placed, placed_more, placed_all}
use Rattle.beam_code.proofs.Shared.{made_more, within_more}
use Rattle.beam_code.proofs.instruction.instructions.Goals as goal

pub returns-in_err-opcode-clause-exact : goal.returns-in_err-opcode-clause-exact
returns-in_err-opcode-clause-exact c =
    let p = err_from_is_err_and c.from_residual.result c.from_residual.ensures.1 in
    rw (p.1, p.2) (opcode_fails c.in_err-opcode.field-0.0 c.args.atoms.now c.args.imports.now c.args.literals.now c.args.code.now 20 c.loop-starts.at (map (made_of c.loop-starts.pool.items) c.loop-starts.heads.items)
    c.loop-starts.invariant.read c.in_err-opcode.ensures.exact)

pub returns-then-is_end_of_code-clause-exact : goal.returns-then-is_end_of_code-clause-exact
returns-then-is_end_of_code-clause-exact c =
    let made = rw (c.in_ok-pool.ensures.ok, c.deref.ensures.value) at c.in_ok-instructions.ensures in
    rw made (reading_ends c.args.atoms.now c.args.imports.now c.args.literals.now c.args.code.now 20 c.loop-starts.at (map (made_of c.loop-starts.pool.items) c.loop-starts.heads.items) c.in_ok-opcode.opcode
    c.loop-starts.invariant.read c.in_ok-opcode.ensures.exact (sym c.if-is_end_of_code.ensures))

pub returns-then-is_end_of_code-clause-places : goal.returns-then-is_end_of_code-clause-places
returns-then-is_end_of_code-clause-places c =
    let made = rw (c.in_ok-pool.ensures.ok, c.deref.ensures.value) at c.in_ok-instructions.ensures in
    let placed : Placed (tables_of c.args.atoms.now c.args.imports.now c.args.literals.now) c.args.code.now c.loop-starts.starts c.loop-starts.at c.in_ok-instructions.instructions.items =
    rw made c.loop-starts.invariant.placed in
    let bytes = rw c.deref-then-is_end_of_code.ensures.value at c.in_ok-labels.ensures.bytes in
    placed_all (tables_of c.args.atoms.now c.args.imports.now c.args.literals.now) c.args.code.now _ c.in_ok-instructions.instructions.items c.in_ok-opcode.opcode
    placed c.in_ok-opcode.ensures.exact (sym c.if-is_end_of_code.ensures) c.in_ok-opcode.ensures.within c.in_ok-labels.ensures.order bytes

pub returns-in_err-head-clause-exact : goal.returns-in_err-head-clause-exact
returns-in_err-head-clause-exact c =
    let p = err_from_is_err_and c.from_residual-in_err-head.result c.from_residual-in_err-head.ensures.1 in
    rw (p.1, p.2) (instruction_fails c.in_err-head.field-0.0 c.args.atoms.now c.args.imports.now c.args.literals.now c.args.code.now 20 c.loop-starts.at (map (made_of c.loop-starts.pool.items) c.loop-starts.heads.items) c.in_ok-opcode.opcode
    c.loop-starts.invariant.read c.in_ok-opcode.ensures.exact (sym c.if-is_end_of_code.ensures) c.in_err-head.ensures.exact)

pub loop-starts-preserved : goal.loop-starts-preserved
loop-starts-preserved c =
    let e = c.in_ok-head.ensures in
    let goes = sym c.if-is_end_of_code.ensures in
    let before = c.loop-starts in
    let head = c.in_ok-head.head in
    let old = before.pool.items in
    let new = c.instruction.new.pool.items in
    let more = made_more old new before.heads.items head before.invariant.within e.put in
    record {
      read = rw (c.in_ok-push-2.ensures.items, more) (instruction_more c.args.atoms.now c.args.imports.now c.args.literals.now c.args.code.now 20 before.at c.in_ok-head.next (map (made_of old) before.heads.items) c.in_ok-opcode.opcode (made_of new head)
          before.invariant.read c.in_ok-opcode.ensures.exact goes e.exact e.next.0 e.next.1);
      within = rw c.in_ok-push-2.ensures.items (within_more old new before.heads.items head before.invariant.within e.put);
      placed = rw (c.in_ok-push.ensures.ok, c.in_ok-push-2.ensures.items, more)
          (placed_more (tables_of c.args.atoms.now c.args.imports.now c.args.literals.now) c.args.code.now before.starts before.at c.in_ok-head.next (map (made_of old) before.heads.items) c.in_ok-opcode.opcode (made_of new head)
          before.invariant.placed c.in_ok-opcode.ensures.exact goes e.exact e.next.0 e.next.1);
    }
