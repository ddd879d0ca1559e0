use Rattle.std.proofs.Common.{lit<, arith, sym, ap, ℕ, ℤ, pos, w64, ◌+◌, Some, subst, ◌<◌, ◌^◌, ◌∙◌, IsSome, option_map}
use Rattle.std.proofs.lemmas.Int.{to_z_pos}
use Rattle.beam_term.specs.Prelude.{int_term}
use Rattle.beam_model.specs.declared.instruction.Argument.TheVariants as argument
use Rattle.beam_model.specs.declared.compact.CompactTag.TheVariants as tag
use Rattle.beam_model.specs.Prelude.{atom_or_nil}
use Rattle.beam_code.specs.Prelude.{meant_in}
use Rattle.beam_code.proofs.Lent.{lendable}
use Rattle.beam_code.proofs.Short.{wide_argument, wide_here, wide_meant}
use Rattle.beam_code.proofs.bytes.CodeBytes.wide_argument.Goals as goal

pub rest-requires : goal.rest-requires
rest-requires c = let within = (lendable c.args.self.now c.args.at c.requires).read.within in omega (arith, within)

pub atom-requires : goal.atom-requires
atom-requires c =
    let fits = subst (λ (n : ℕ). n < 2 ^ 32) c.two_bytes-number.ensures c.two_bytes-number.type_inv in
    let wide = wide_here c.args.self.now c.args.at tag.Atom (lit< tt) c.rest.result.now c.rest.ensures.rest c.in-len2-up.len_at_least c.in-10.is fits c.requires in
    subst (λ (n : ℕ). IsSome (meant_in c.args.self.now (atom_or_nil n))) (sym c.two_bytes-number.ensures) (wide_meant c.args.self.now c.args.at _ _ _ tag.Atom wide c.requires)

pub returns-in-8-clause-is : goal.returns-in-8-clause-is
returns-in-8-clause-is c =
    let fits = subst (λ (n : ℕ). n < 2 ^ 32) c.two_bytes-number.ensures c.two_bytes-number.type_inv in
    let wide = wide_here c.args.self.now c.args.at tag.Number (lit< tt) c.rest.result.now c.rest.ensures.rest c.in-len2-up.len_at_least c.in-8.is fits c.requires in
    wide_argument c.args.self.now c.args.at _ _ _ tag.Number wide
    ∙ ap (λ (n : ℕ). Some (argument.Number n, c.args.at + 2)) (sym c.two_bytes-number.ensures)

pub returns-in-9-clause-is : goal.returns-in-9-clause-is
returns-in-9-clause-is c =
    let fits = subst (λ (n : ℕ). n < 2 ^ 32) c.two_bytes-number.ensures c.two_bytes-number.type_inv in
    let wide = wide_here c.args.self.now c.args.at tag.Integer (lit< tt) c.rest.result.now c.rest.ensures.rest c.in-len2-up.len_at_least c.in-9.is fits c.requires in
    wide_argument c.args.self.now c.args.at _ _ _ tag.Integer wide
    ∙ ap (λ (n : ℕ). Some (argument.Term (int_term (pos n)), c.args.at + 2)) (sym c.two_bytes-number.ensures)
    ∙ ap (λ (z : ℤ). Some (argument.Term (int_term z), c.args.at + 2)) (sym (to_z_pos w64 c.two_bytes-number.result (omega (arith, c.two_bytes-number.type_inv))))

pub returns-in-10-clause-is : goal.returns-in-10-clause-is
returns-in-10-clause-is c =
    let fits = subst (λ (n : ℕ). n < 2 ^ 32) c.two_bytes-number.ensures c.two_bytes-number.type_inv in
    let wide = wide_here c.args.self.now c.args.at tag.Atom (lit< tt) c.rest.result.now c.rest.ensures.rest c.in-len2-up.len_at_least c.in-10.is fits c.requires in
    wide_argument c.args.self.now c.args.at _ _ _ tag.Atom wide
    ∙ ap (λ (n : ℕ). option_map (λ a. (a, c.args.at + 2)) (meant_in c.args.self.now (atom_or_nil n))) (sym c.two_bytes-number.ensures)
    ∙ ap (option_map (λ a. (a, c.args.at + 2))) c.atom.ensures.is

pub returns-in-11-clause-is : goal.returns-in-11-clause-is
returns-in-11-clause-is c =
    let fits = subst (λ (n : ℕ). n < 2 ^ 32) c.two_bytes-number.ensures c.two_bytes-number.type_inv in
    let wide = wide_here c.args.self.now c.args.at tag.X (lit< tt) c.rest.result.now c.rest.ensures.rest c.in-len2-up.len_at_least c.in-11.is fits c.requires in
    wide_argument c.args.self.now c.args.at _ _ _ tag.X wide
    ∙ ap (λ (n : ℕ). Some (argument.X n, c.args.at + 2)) (sym c.two_bytes-number.ensures)

pub returns-in-12-clause-is : goal.returns-in-12-clause-is
returns-in-12-clause-is c =
    let fits = subst (λ (n : ℕ). n < 2 ^ 32) c.two_bytes-number.ensures c.two_bytes-number.type_inv in
    let wide = wide_here c.args.self.now c.args.at tag.Y (lit< tt) c.rest.result.now c.rest.ensures.rest c.in-len2-up.len_at_least c.in-12.is fits c.requires in
    wide_argument c.args.self.now c.args.at _ _ _ tag.Y wide
    ∙ ap (λ (n : ℕ). Some (argument.Y n, c.args.at + 2)) (sym c.two_bytes-number.ensures)

pub returns-in-13-clause-is : goal.returns-in-13-clause-is
returns-in-13-clause-is c =
    let fits = subst (λ (n : ℕ). n < 2 ^ 32) c.two_bytes-number.ensures c.two_bytes-number.type_inv in
    let wide = wide_here c.args.self.now c.args.at tag.Label (lit< tt) c.rest.result.now c.rest.ensures.rest c.in-len2-up.len_at_least c.in-13.is fits c.requires in
    wide_argument c.args.self.now c.args.at _ _ _ tag.Label wide
    ∙ ap (λ (n : ℕ). Some (argument.Label n, c.args.at + 2)) (sym c.two_bytes-number.ensures)
