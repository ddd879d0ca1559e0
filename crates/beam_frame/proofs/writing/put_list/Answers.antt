use Rattle.std.proofs.Common.{◌++◌, length, ap, ◌∙◌, take_all}
use Rattle.std.specs.List.{flat_map}
use Rattle.byteorder.specs.Endian.{big_bytes}
use Rattle.beam_machine.specs.Prelude.{numbers_bytes}
use Rattle.beam_frame.proofs.Numbers.{goes_on}
use Rattle.beam_frame.proofs.writing.put_list.Goals as goal

pub loop-numbers-preserved : goal.loop-numbers-preserved
loop-numbers-preserved c =
    let list = c.args.list.now in
    goes_on list c.loop-numbers.numbers-index _ (c.args.out.now.items ++ big_bytes 4 (length list)) c.loop-numbers.out.items c.put_numbers.new.out.items
    c.loop-numbers-test.true c.loop-numbers.invariant c.in_ok-put_numbers.ensures.ok

pub returns-clause-ok : goal.returns-clause-ok
returns-clause-ok c =
    let list = c.args.list.now in
    let front = c.args.out.now.items ++ big_bytes 4 (length list) in
    c.loop-numbers.invariant ∙ ap (λ ns. front ++ flat_map numbers_bytes ns) (take_all c.loop-numbers.numbers-index list c.loop-numbers-test.false)
