use Rattle.std.proofs.Common.{◌≡◌, ◌+◌, inl, inr, Err, length, ap, sym, ◌∙◌, subst, arith}
use Rattle.std.proofs.lemmas.Result.{err_from_is_err_and}
use Rattle.beam_queue.specs.Prelude.{LentAtMost, AddsStealersInRange}
use Rattle.beam_queue.specs.declared.making.NotMade.TheVariants.{TooMany}
use Rattle.std.specs.List.{range_with_len}
use Rattle.beam_queue.proofs.AddingStealers.{furnishes, as_long, most_later, most_first}
use Rattle.beam_queue.proofs.making.add_all_stealers.Goals as goal

pub add_stealers_in_range-requires : goal.add_stealers_in_range-requires
add_stealers_in_range-requires g c = record {
  within = (c.requires.within, omega (arith, c.requires.within, c.len-count.ensures, c.args.run_queues.now.ok.0), omega (arith, c.len-count.ensures, c.args.run_queues.now.ok.0));
  others = inl (omega arith);
  numbers = c.requires.numbers;
}

pub add_stealers_in_range-requires-2 : goal.add_stealers_in_range-requires-2
add_stealers_in_range-requires-2 g c =
    let same = as_long _ _ c.in_ok-add_stealers_in_range.ensures.added.0 in record {
      within = (omega (arith, c.requires.within, same), omega arith, omega (arith, c.requires.within, same));
      others = inr (omega arith);
      numbers = c.in_ok-add_stealers_in_range.ensures.added.0 ∙ (c.requires.numbers ∙ ap (range_with_len 0) (sym same));
    }

pub returns-in_err-add_stealers_in_range-clause-many : goal.returns-in_err-add_stealers_in_range-clause-many
returns-in_err-add_stealers_in_range-clause-many g c e most few =
    let p = err_from_is_err_and c.from_residual.result c.from_residual.ensures.1 in
    let same : c.in_err-add_stealers_in_range.field-0.0 ≡ TooMany = cc (p.1, p.2, e) in
    let long : length c.args.run_queues.now.items ≡ c.len-count.result = sym (c.len-count.ensures ∙ c.args.run_queues.now.ok.0) in
    c.in_err-add_stealers_in_range.ensures.many (ap Err same) most (most_later most (c.args.at + 1) c.len-count.result c.args.run_queues.now.items (subst (λ n. LentAtMost most 0 n c.args.run_queues.now.items) long few))

pub returns-in_err-add_stealers_in_range-2-clause-many : goal.returns-in_err-add_stealers_in_range-2-clause-many
returns-in_err-add_stealers_in_range-2-clause-many g c e most few =
    let p = err_from_is_err_and c.from_residual-in_err-add_stealers_in_range-2.result c.from_residual-in_err-add_stealers_in_range-2.ensures.1 in
    let same : c.in_err-add_stealers_in_range-2.field-0.0 ≡ TooMany = cc (p.1, p.2, e) in
    let long : length c.args.run_queues.now.items ≡ c.len-count.result = sym (c.len-count.ensures ∙ c.args.run_queues.now.ok.0) in
    c.in_err-add_stealers_in_range-2.ensures.many (ap Err same) most (most_first most c.args.at c.len-count.result c.args.run_queues.now.items c.add_stealers_in_range.new.run_queues.items (omega (arith, long, c.requires.within)) c.in_ok-add_stealers_in_range.ensures.added (subst (λ n. LentAtMost most 0 n c.args.run_queues.now.items) long few))

pub returns-clause-added : goal.returns-clause-added
returns-clause-added g c =
    let old = c.args.run_queues.now.items in let mid = c.add_stealers_in_range.new.run_queues.items in
    let long : c.len-count.result ≡ length old = c.len-count.ensures ∙ c.args.run_queues.now.ok.0 in
    furnishes c.args.at old mid c.add_stealers_in_range-2.new.run_queues.items c.requires.within (subst (λ n. AddsStealersInRange c.args.at (c.args.at + 1) n old mid) long c.in_ok-add_stealers_in_range.ensures.added) c.in_ok-add_stealers_in_range-2.ensures.added
