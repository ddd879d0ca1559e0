use Rattle.std.proofs.Common.{nat_eq, ap, sym, ◌∙◌, option_map}
use Rattle.std.proofs.lemmas.Bool.{not-true, not-false}
use Rattle.std.specs.List.{list_any}
use Rattle.beam_proc.specs.Prelude.{but_of}
use Rattle.beam_proc.proofs.Arriving.{once, twice, without_but}
use Rattle.beam_proc.proofs.delivering.pid_once.Goals as goal

pub returns-then-branch-clause-pid : goal.returns-then-branch-clause-pid
returns-then-branch-clause-pid c =
    let keys = c.args.seen.now.keys in
    let new = not-true (list_any (nat_eq c.args.reference) keys) (sym c.in_ok-insert.ensures.added ∙ c.if-branch.true) in
    c.get.ensures ∙ ap (option_map (λ m. m.pid)) (once c.args.reference keys c.args.monitors.now new)

pub returns-then-branch-clause-seen : goal.returns-then-branch-clause-seen
returns-then-branch-clause-seen c =
    let ms = c.args.monitors.now in
    ap (λ ks. but_of ks ms) c.in_ok-insert.ensures.keys ∙ sym (without_but c.args.reference c.args.seen.now.keys ms)

pub returns-else-branch-clause-pid : goal.returns-else-branch-clause-pid
returns-else-branch-clause-pid c =
    let keys = c.args.seen.now.keys in
    let old = not-false (list_any (nat_eq c.args.reference) keys) (sym c.in_ok-insert.ensures.added ∙ c.if-branch.false) in
    ap (option_map (λ m. m.pid)) (twice c.args.reference keys c.args.monitors.now old)

pub returns-else-branch-clause-seen : goal.returns-else-branch-clause-seen
returns-else-branch-clause-seen c =
    let ms = c.args.monitors.now in
    ap (λ ks. but_of ks ms) c.in_ok-insert.ensures.keys ∙ sym (without_but c.args.reference c.args.seen.now.keys ms)
