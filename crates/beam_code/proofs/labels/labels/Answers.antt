use Rattle.std.proofs.Common.{ℕ, List, sym, ap, subst, ◌∙◌, map, nat_eq}
use Rattle.std.specs.Map.{lookup, keys_of}
use Rattle.beam_code.specs.Prelude.{AreAscending}
use Rattle.beam_code.proofs.Ascending.{ends_of, ascending_are}
use Rattle.beam_code.proofs.LabelBytes.{ascending, same_lookup}
use Rattle.beam_code.proofs.labels.labels.Goals as goal

pub returns-clause-order : goal.returns-clause-order
returns-clause-order c =
    subst (λ (es : List (ℕ × ℕ)). AreAscending (map (λ l. l.0) es)) (sym c.in_ok-labels.ensures.entries) (ascending (keys_of c.in_ok-bytes.bytes.entries) c.in_ok-labels.ensures.ordered)

pub returns-clause-bytes : goal.returns-clause-bytes
returns-clause-bytes c = λ label. ap (lookup (nat_eq label)) c.in_ok-labels.ensures.entries ∙ sym (same_lookup label c.in_ok-bytes.bytes.entries) ∙ c.in_ok-bytes.ensures label

pub returns-in-Some-clause-order : goal.returns-in-Some-clause-order
returns-in-Some-clause-order c =
    let are = rw c.in-Some.is at c.in_ok-listed.ensures in
    (ascending_are c.args.instructions.now (ends_of c.args.starts.now c.args.end) c.in-Some.listed.items are).order

pub returns-in-Some-clause-bytes : goal.returns-in-Some-clause-bytes
returns-in-Some-clause-bytes c =
    let are = rw c.in-Some.is at c.in_ok-listed.ensures in
    (ascending_are c.args.instructions.now (ends_of c.args.starts.now c.args.end) c.in-Some.listed.items are).bytes
