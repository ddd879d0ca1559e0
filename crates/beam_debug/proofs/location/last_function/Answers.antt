use Rattle.std.proofs.Common.{◌≡◌, ◌+◌, ◌-◌, true, false, take, sym, ap, ◌∙◌, arith, rules, None, is_some, option_and_then, slice_get}
use Rattle.beam_machine.specs.Prelude.{function_of, last_function}
use Rattle.beam_debug.proofs.Backwards.{function_here, no_function_here, no_function_left}
use Rattle.beam_debug.proofs.location.last_function.Goals as goal

pub returns-then-is_some : goal.returns-then-is_some
returns-then-is_some c =
    let code = c.args.image.now.instructions in
    let l = c.loop-found in
    let found = c.in_ok-found.found in
    let there : option_and_then function_of (slice_get code l.left) ≡ found = search rules in
    let some : is_some found ≡ true = search rules in
    sym (function_here l.left code found there some) ∙ l.invariant

pub returns-then-left-eq0 : goal.returns-then-left-eq0
returns-then-left-eq0 c =
    let code = c.args.image.now.instructions in
    let l = c.loop-found in
    let found = c.in_ok-found.found in
    let there : option_and_then function_of (slice_get code l.left) ≡ found = search rules in
    let none : is_some found ≡ false = search rules in
    sym (no_function_here l.left code found there none ∙ no_function_left l.left code c.if-left-eq0.true) ∙ l.invariant

pub loop-found-preserved : goal.loop-found-preserved
loop-found-preserved c =
    let code = c.args.image.now.instructions in
    let l = c.loop-found in
    let found = c.in_ok-found.found in
    let there : option_and_then function_of (slice_get code l.left) ≡ found = search rules in
    let none : is_some found ≡ false = search rules in
    let one : (l.left - 1) + 1 ≡ l.left = omega arith in
    ap (λ k. last_function None (take k code)) one ∙ (sym (no_function_here l.left code found there none) ∙ l.invariant)
