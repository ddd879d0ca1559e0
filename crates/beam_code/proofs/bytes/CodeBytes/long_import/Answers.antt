use Rattle.std.proofs.Common.{ℕ, List, Ok, ap, arith, ◌∙◌}
use Rattle.beam_model.specs.declared.compact.Compact.{Compact}
use Rattle.beam_model.specs.declared.compact.Compact.TheVariants.{Number}
use Rattle.beam_code.proofs.Lent.{index_read, same_read, no_fault, read_shorter, next_fits, index_is}
use Rattle.beam_code.proofs.bytes.CodeBytes.long_import.Goals as goal

pub rest-bytes-requires : goal.rest-bytes-requires
rest-bytes-requires c =
    let within = (index_read c.args.self.now c.args.at c.requires).read.within in
    omega (arith, within)

pub import_index-requires : goal.import_index-requires
import_index-requires c =
    let l = index_read c.args.self.now c.args.at c.requires in
    let same = same_read c.args.self.now c.args.at (Number l.n) l.rest l.read c.rest-bytes.result.now c.rest-bytes.ensures.rest (c.in-Ok.operand, c.in-Ok.rest.now) c.in-Ok.ensures.exact in
    (l.n, ap (λ (p : Compact × List ℕ). p.0) same)

pub overflow_sub-result : goal.overflow_sub-result
overflow_sub-result c =
    let l = index_read c.args.self.now c.args.at c.requires in
    let same = same_read c.args.self.now c.args.at (Number l.n) l.rest l.read c.rest-bytes.result.now c.rest-bytes.ensures.rest (c.in-Ok.operand, c.in-Ok.rest.now) c.in-Ok.ensures.exact in
    read_shorter c.args.self.now.code c.args.at (Number l.n) l.rest l.read c.rest-bytes.result.now c.rest-bytes.ensures.rest (c.in-Ok.operand, c.in-Ok.rest.now) same

pub overflow_add-result : goal.overflow_add-result
overflow_add-result c =
    let l = index_read c.args.self.now c.args.at c.requires in
    record { fits = next_fits c.args.self.now.code c.args.at c.rest-bytes.result.now c.rest-bytes.ensures.rest l.read.within c.rest-bytes.ensures.room _ }

pub unreachable-requires : goal.unreachable-requires
unreachable-requires c =
    let l = index_read c.args.self.now c.args.at c.requires in
    no_fault c.args.self.now.code c.args.at (Number l.n) l.rest l.read c.rest-bytes.result.now c.rest-bytes.ensures.rest c.in-Err.field-0 c.in-Err.ensures.exact c.in-Err.ensures.memory

pub returns : goal.returns
returns c =
    let l = index_read c.args.self.now c.args.at c.requires in
    index_is c.args.self.now c.args.at (Number l.n) l.rest l.read c.rest-bytes.result.now c.rest-bytes.ensures.rest c.import_index.result c.in-Ok.rest.now (c.in-Ok.ensures.exact ∙ ap (λ (x : Compact). Ok (x, c.in-Ok.rest.now)) c.import_index.ensures)
