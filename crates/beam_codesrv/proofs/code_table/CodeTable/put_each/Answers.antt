use Rattle.std.proofs.Common.{rules, ◌≡◌, ◌+◌, ◌<◌, ◌^◌, length, sym, subst}
use Rattle.beam_laws.specs.Prelude.{Ordered, loaded_each}
use Rattle.beam_laws.proofs.Numbering.{next_is_free, loaded_ordered}
use Rattle.beam_codesrv.proofs.code_table.CodeTable.put_each.Goals as goal

pub put-requires : goal.put-requires
put-requires c = record { fresh = next_is_free c.loop-image.self c.loop-image.count c.loop-image.invariant.ordered }

pub loop-image-preserved : goal.loop-image-preserved
loop-image-preserved c =
    let loaded : loaded_each c.put.new.self (c.loop-image.count + 1) c.in-Some.others.now ≡ loaded_each c.args.self.now c.args.count c.args.images.now = search rules in
    let room : c.loop-image.count + 1 + length c.in-Some.others.now < 2 ^ 32 = search rules in
    record {
      loaded = loaded;
      ordered = subst (λ code. Ordered code (c.loop-image.count + 1)) (sym c.in_ok-put.ensures.ok) (loaded_ordered c.loop-image.self c.loop-image.count c.in-Some.image.now c.loop-image.invariant.ordered);
      room = room;
    }
