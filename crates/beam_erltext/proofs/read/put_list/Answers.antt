use Rattle.std.proofs.Common.{◌≡◌, ◌<◌, List, Err, drop, take, subst, ap}
use Rattle.beam_term.specs.Prelude.{TermValue, list_before, depth_of}
use Rattle.beam_erltext.proofs.Stack.{below_start, from_start, popped, exit_deep}
use Rattle.beam_erltext.proofs.read.put_list.Goals as goal

pub returns-in_err-list : goal.returns-in_err-list
returns-in_err-list c = λ front items tail e n.
    let p = popped c.args.done.now.items c.pop.new.self.items front items c.in-Some.tail tail c.in-Some.ensures.items e in
    let rest : drop c.args.start c.pop.new.self.items ≡ items = from_start c.pop.new.self.items front items c.args.start p.0 n in
    let last : c.in-Some.tail ≡ tail = p.1 in
    let cut : c.in_ok-items.items.items ≡ drop c.args.start c.pop.new.self.items = c.in_ok-items.ensures.tail in
    let same : list_before c.in_ok-items.items.items c.in-Some.tail ≡ list_before items tail = cc in
    exit_deep c.from_residual-in_err-list.result _ c.in_err-list.field-0.0 (4096 < depth_of (list_before items tail)) c.from_residual-in_err-list.ensures.1
    (λ d. subst (λ (u : TermValue). 4096 < depth_of u) same (c.in_err-list.ensures.too_deep (ap Err d)))

pub returns : goal.returns
returns c = λ front items tail e n.
    let p = popped c.args.done.now.items c.pop.new.self.items front items c.in-Some.tail tail c.in-Some.ensures.items e in
    let before : take c.args.start c.pop.new.self.items ≡ front = below_start c.pop.new.self.items front items c.args.start p.0 n in
    let rest : drop c.args.start c.pop.new.self.items ≡ items = from_start c.pop.new.self.items front items c.args.start p.0 n in
    let last : c.in-Some.tail ≡ tail = p.1 in
    let kept : c.split_off.new.self.items ≡ take c.args.start c.pop.new.self.items = c.in_ok-items.ensures.items in
    let cut : c.in_ok-items.items.items ≡ drop c.args.start c.pop.new.self.items = c.in_ok-items.ensures.tail in
    let made : c.in_ok-list.list ≡ list_before c.in_ok-items.items.items c.in-Some.tail = c.in_ok-list.ensures.ok in
    let pushed = c.in_ok-push.ensures.items in
    cc
