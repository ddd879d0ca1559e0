use Rattle.std.proofs.Common.{◌≡◌, ◌<◌, Some, sym, ◌∙◌, rules}
use Rattle.beam_code.specs.Prelude.{argument_of_byte, import_of_byte}
use Rattle.beam_code.proofs.Whole.{byte_meant}
use Rattle.beam_code.proofs.Wide.{are_bytes, import_meant, bytes_meant}
use Rattle.beam_code.proofs.operand.operand.Goals as goal

pub returns-in-Some-short-clause-exact : goal.returns-in-Some-short-clause-exact
returns-in-Some-short-clause-exact c =
    let there = c.in-Some.ensures.lookup in
    let byte : c.in-Some.byte.now < 256 = search rules in
    let means : argument_of_byte c.args.kind c.in-Some.byte.now ≡ Some c.in-Some-short.argument = sym c.in-Some-short.ensures in
    byte_meant c.args.atoms.now c.args.imports.now c.args.literals.now c.args.code.now c.args.kind c.args.at c.in-Some.byte.now c.in-Some-short.argument there.3.0 there.1 byte means

pub returns-in-Some-2-clause-exact : goal.returns-in-Some-2-clause-exact
returns-in-Some-2-clause-exact c =
    let there = c.in-Some.ensures.lookup in
    let byte : c.in-Some.byte.now < 256 = search rules in
    let means : import_of_byte c.args.kind c.args.imports.now c.in-Some.byte.now ≡ Some c.in-Some-2.import = sym c.in_ok-import.ensures ∙ c.in-Some-2.is in
    import_meant c.args.atoms.now c.args.imports.now c.args.literals.now c.args.code.now c.args.kind c.args.at c.in-Some.byte.now c.in-Some-2.import there.3.0 there.1 byte means

pub returns-in-Some-wide-clause-exact : goal.returns-in-Some-wide-clause-exact
returns-in-Some-wide-clause-exact c =
    let bytes = are_bytes c.args.code.now (λ i. (c.type_inv.code i).fits) in
    (bytes_meant c.args.atoms.now c.args.imports.now c.args.literals.now c.args.code.now c.args.kind c.args.at (c.in-Some-wide.argument, c.in-Some-wide.count) c.requires bytes (sym c.wide.ensures ∙ c.in-Some-wide.is)).is
