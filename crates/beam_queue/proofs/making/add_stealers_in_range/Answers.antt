use Rattle.std.proofs.Common.{◌≡◌, ◌≢◌, ◌<◌, ◌≤◌, ⊎_elim, length, map, ap, sym, ◌∙◌, arith}
use Rattle.std.proofs.lemmas.List.{length-map}
use Rattle.beam_queue.specs.Prelude.{number_of}
use Rattle.beam_queue.proofs.AddingStealers.{adds_none, adds_more, adds_one, number_at}
use Rattle.beam_queue.proofs.making.add_stealers_in_range.Goals as goal

pub loop-of-init : goal.loop-of-init
loop-of-init g c = (omega arith, adds_none c.args.at c.args.from c.args.run_queues.now.items)

pub loop-of-preserved : goal.loop-of-preserved
loop-of-preserved g c =
    let old = c.args.run_queues.now.items in let now = c.loop-of.run_queues.items in let at = c.args.at in let of = c.loop-of.of in
    let u = c.index_mut.result.now in let v = c.index_mut-in-loop-of.result.now in
    let low = c.loop-of.invariant.0 in
    let same : length now ≡ length old = sym (length-map now number_of) ∙ (ap length c.loop-of.invariant.1.0 ∙ length-map old number_of) in
    let high : of < c.args.to = omega (arith, c.loop-of-test.true, c.loop-of.auto.of-end) in
    let apart : at ≢ of =
    λ (e : at ≡ of). ⊎_elim (λ (l : at < c.args.from). omega (arith, l, low, e)) (λ (m : c.args.to ≤ at). omega (arith, m, high, e)) c.requires.others in
    let few_at : at < length now = omega (arith, same, c.requires.within.0) in
    let few_of : of < length now = omega (arith, same, c.requires.within.2, high) in
    let numbers : map number_of now ≡ map number_of old = c.loop-of.invariant.1.0 in
    let number = ap number_of c.index_mut.ensures.value ∙ number_at (length old) of now u few_of (numbers ∙ c.requires.numbers) in (
      omega (arith, low),
      adds_more at c.args.from of old now _ low c.loop-of.invariant.1
          (adds_one at of now u c.lend_stealer.new.self v c.add_stealer.new.self c.in_ok-stealer.stealer apart few_at few_of c.index_mut.ensures.value c.in_ok-stealer.ensures.lent.0 c.in_ok-stealer.ensures.lent.1 c.index_mut-in-loop-of.ensures.value c.in_ok-add_stealer.ensures number),
    )
