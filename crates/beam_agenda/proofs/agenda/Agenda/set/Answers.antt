use Rattle.std.proofs.Common.{◌≡◌, ◌<◌, ℕ, List, length, sym, ap, subst, ◌∙◌, arith}
use Rattle.std.proofs.Math.ListN.{set}
use Rattle.std.specs.Int.{from_bool}
use Rattle.beam_agenda.specs.declared.agenda.Agenda.TheInside.{Inside}
use Rattle.beam_agenda.specs.declared.entry.AgendaEntry.{AgendaEntry}
use Rattle.beam_agenda.specs.Prelude.{entries_of, Covers}
use Rattle.beam_agenda.proofs.FlagsAndTimes.{length-entries_of, length-Covers, set_same, changed, Covers-set}
use Rattle.beam_agenda.proofs.Same.{same_due}
use Rattle.beam_agenda.proofs.agenda.Agenda.set.Goals as goal

index_within : (a : Inside) (es : List AgendaEntry) (i : ℕ) → Covers a.flags a.times → entries_of a.flags a.times ≡ es → i < length es → i < length a.times
index_within a es i h v l = omega (arith, length-entries_of a.flags a.times h, ap length v)

pub set-requires : goal.set-requires
set-requires c =
    let a = c.self.inside in
    omega (arith, index_within a c.args.self.now c.args.index c.self.invariant.0 c.self.view_is c.requires, length-Covers a.flags a.times c.self.invariant.0)

pub get-requires : goal.get-requires
get-requires c = index_within c.self.inside c.args.self.now c.args.index c.self.invariant.0 c.self.view_is c.requires

pub invariant_of-self : goal.invariant_of-self
invariant_of-self c =
    let a = c.self.inside in
    let same : c.get.result ≡ c.args.entry.due = same_due c.get.result c.args.entry.due (sym c.eq.ensures ∙ c.if-eq.true) in
    let stays : a.times ≡ set a.times c.args.index c.args.entry.due = set_same a.times c.args.index c.get.result c.get.ensures ∙ ap (set a.times c.args.index) same in
    let l = index_within a c.args.self.now c.args.index c.self.invariant.0 c.self.view_is c.requires in (
      subst (λ ns. Covers ns a.times) (sym c.set.ensures)
          (subst (Covers (set a.flags c.args.index c.from.result)) (sym stays) (Covers-set a.flags a.times c.args.index c.from.result c.args.entry.due l c.self.invariant.0)),
      c.self.invariant.1,
    )

pub returns-then-eq : goal.returns-then-eq
returns-then-eq c =
    let a = c.self.inside in
    let same : c.get.result ≡ c.args.entry.due = same_due c.get.result c.args.entry.due (sym c.eq.ensures ∙ c.if-eq.true) in
    let stays : a.times ≡ set a.times c.args.index c.args.entry.due = set_same a.times c.args.index c.get.result c.get.ensures ∙ ap (set a.times c.args.index) same in
    ap (λ ns. entries_of ns a.times) (c.set.ensures ∙ ap (set a.flags c.args.index) c.from.ensures)
    ∙ (ap (entries_of (set a.flags c.args.index (from_bool c.args.entry.ready))) stays
    ∙ (changed a.flags a.times c.args.index c.args.entry
    ∙ ap (λ es. set es c.args.index c.args.entry) c.self.view_is))

pub set-requires-2 : goal.set-requires-2
set-requires-2 c = index_within c.self.inside c.args.self.now c.args.index c.self.invariant.0 c.self.view_is c.requires

pub invariant_of-self-2 : goal.invariant_of-self-2
invariant_of-self-2 c =
    let a = c.self.inside in
    let l = index_within a c.args.self.now c.args.index c.self.invariant.0 c.self.view_is c.requires in (
      subst (λ ns. Covers ns c.set-2.new.self) (sym c.set.ensures)
          (subst (Covers (set a.flags c.args.index c.from.result)) (sym c.set-2.ensures) (Covers-set a.flags a.times c.args.index c.from.result c.args.entry.due l c.self.invariant.0)),
      c.least-self-inside.ensures,
    )

pub returns : goal.returns
returns c =
    let a = c.self.inside in
    ap (λ ns. entries_of ns c.set-2.new.self) (c.set.ensures ∙ ap (set a.flags c.args.index) c.from.ensures)
    ∙ (ap (entries_of (set a.flags c.args.index (from_bool c.args.entry.ready))) c.set-2.ensures
    ∙ (changed a.flags a.times c.args.index c.args.entry
    ∙ ap (λ es. set es c.args.index c.args.entry) c.self.view_is))
