use Rattle.std.proofs.Common.{◌≡◌, [], ◌∷◌, ◌++◌, length, rules, sym, ap, subst, ◌∙◌, arith}
use Rattle.std.proofs.Math.ListN.{set}
use Rattle.std.specs.Int.{from_bool}
use Rattle.beam_agenda.specs.Prelude.{earlier, least_of, entries_of, Covers}
use Rattle.beam_agenda.proofs.FlagsAndTimes.{room_made, pushed, Covers-push, least_of-append}
use Rattle.beam_agenda.proofs.agenda.Agenda.push.Goals as goal

pub invariant_of-self-in_err-push : goal.invariant_of-self-in_err-push
invariant_of-self-in_err-push c =
    let a = c.self.inside in
    let room = room_made a.flags a.times c.make_room.new.self c.self.invariant.0 (rw c.len-count.ensures at c.in_ok-make_room.ensures.ok) in
    rw c.in_err-push.ensures.err (room.0, c.self.invariant.1)

pub returns-in_err-push-clause-err : goal.returns-in_err-push-clause-err
returns-in_err-push-clause-err c =
    let a = c.self.inside in
    let room = room_made a.flags a.times c.make_room.new.self c.self.invariant.0 (rw c.len-count.ensures at c.in_ok-make_room.ensures.ok) in
    let same : entries_of c.make_room.new.self c.push.new.self ≡ c.args.self.now = ap (entries_of c.make_room.new.self) c.in_err-push.ensures.err ∙ (room.2 ∙ c.self.view_is) in
    search (rules, same)

pub set-requires : goal.set-requires
set-requires c =
    let a = c.self.inside in
    let room = room_made a.flags a.times c.make_room.new.self c.self.invariant.0 (rw c.len-count.ensures at c.in_ok-make_room.ensures.ok) in
    omega (arith, room.1)

pub invariant_of-self-2 : goal.invariant_of-self-2
invariant_of-self-2 c =
    let a = c.self.inside in
    let room = room_made a.flags a.times c.make_room.new.self c.self.invariant.0 (rw c.len-count.ensures at c.in_ok-make_room.ensures.ok) in
    let put : c.set.new.self ≡ set c.make_room.new.self (length a.times) c.from.result = rw c.len-count.ensures at c.set.ensures in (
      subst (λ ns. Covers ns c.push.new.self) (sym put)
          (subst (Covers (set c.make_room.new.self (length a.times) c.from.result)) (sym c.in_ok-push.ensures.ok) (Covers-push c.make_room.new.self a.times c.from.result c.args.entry.due room.1 room.0)),
      c.earlier-self-inside.ensures
          ∙ (ap (λ least. earlier least c.args.entry.due) c.self.invariant.1
          ∙ (sym (least_of-append a.times c.args.entry.due)
          ∙ ap least_of (sym c.in_ok-push.ensures.ok))),
    )

pub returns-clause-ok : goal.returns-clause-ok
returns-clause-ok c =
    let a = c.self.inside in
    let room = room_made a.flags a.times c.make_room.new.self c.self.invariant.0 (rw c.len-count.ensures at c.in_ok-make_room.ensures.ok) in
    let put : c.set.new.self ≡ set c.make_room.new.self (length a.times) (from_bool c.args.entry.ready) = rw (c.len-count.ensures, c.from.ensures) at c.set.ensures in
    ap (λ ns. entries_of ns c.push.new.self) put
    ∙ (ap (entries_of (set c.make_room.new.self (length a.times) (from_bool c.args.entry.ready))) c.in_ok-push.ensures.ok
    ∙ (pushed c.make_room.new.self a.times c.args.entry room.1
    ∙ ap (λ es. es ++ c.args.entry ∷ []) (room.2 ∙ c.self.view_is)))
