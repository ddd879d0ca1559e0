use Rattle.std.proofs.Common.{◌≡◌, ◌+◌, ◌<◌, ◌^◌, Some, None, get_or, refl, sym, ◌∙◌, arith, rules}
use Rattle.beam_model.specs.Prelude.{label_of}
use Rattle.beam_code.specs.Prelude.{ascending_from}
use Rattle.beam_code.proofs.Ascending.{ends_of, IsNext, no_label, label_below, label_more, labels_done}
use Rattle.beam_code.proofs.labels.ascending.Goals as goal

pub loop-at-preserved-in_default : goal.loop-at-preserved-in_default
loop-at-preserved-in_default c =
    let is = c.args.instructions.now in
    let starts = c.args.starts.now in
    let at = c.loop-at.at in
    let i = c.index-instructions-at.result in
    let next : IsNext is starts c.args.end at i (get_or starts (at + 1) c.args.end) =
    record { as_many = c.requires; within = c.loop-at-test.true; there = c.index-instructions-at.is; behind = refl } in
    let none : None ≡ label_of i = sym c.in_default.is ∙ c.label.ensures in
    record {
      fits = c.loop-at.invariant.fits;
      listed = no_label c.loop-at.least is starts c.args.end at i (get_or starts (at + 1) c.args.end) c.loop-at.labels.items (ascending_from 0 is (ends_of starts c.args.end)) next none c.loop-at.invariant.listed;
    }

pub returns-then-label-least : goal.returns-then-label-least
returns-then-label-least c =
    let is = c.args.instructions.now in
    let starts = c.args.starts.now in
    let at = c.loop-at.at in
    let i = c.index-instructions-at.result in
    let next : IsNext is starts c.args.end at i (get_or starts (at + 1) c.args.end) =
    record { as_many = c.requires; within = c.loop-at-test.true; there = c.index-instructions-at.is; behind = refl } in
    let some : Some c.in-Some.label ≡ label_of i = sym c.in-Some.is ∙ c.label.ensures in
    label_below c.loop-at.least is starts c.args.end at i (get_or starts (at + 1) c.args.end) c.in-Some.label c.loop-at.labels.items (ascending_from 0 is (ends_of starts c.args.end)) next some
    c.if-label-least.true c.loop-at.invariant.listed

pub loop-at-preserved : goal.loop-at-preserved
loop-at-preserved c =
    let is = c.args.instructions.now in
    let starts = c.args.starts.now in
    let at = c.loop-at.at in
    let i = c.index-instructions-at.result in
    let byte = c.byte_behind.result in
    let next : IsNext is starts c.args.end at i byte =
    record { as_many = c.requires; within = c.loop-at-test.true; there = c.index-instructions-at.is; behind = c.byte_behind.ensures } in
    let some : Some c.in-Some.label ≡ label_of i = sym c.in-Some.is ∙ c.label.ensures in
    let narrow : c.in-Some.label < 2 ^ 32 = search rules in
    record {
      fits = omega (arith, narrow);
      listed = rw c.in_ok-push.ensures.items (label_more c.loop-at.least is starts c.args.end at i byte c.in-Some.label c.loop-at.labels.items (ascending_from 0 is (ends_of starts c.args.end)) next some
          c.if-label-least.false c.loop-at.invariant.listed);
    }

pub returns : goal.returns
returns c =
    let is = c.args.instructions.now in
    let starts = c.args.starts.now in
    labels_done c.loop-at.least is starts c.args.end c.loop-at.at c.loop-at.labels.items (ascending_from 0 is (ends_of starts c.args.end)) c.loop-at-test.false c.loop-at.invariant.listed
