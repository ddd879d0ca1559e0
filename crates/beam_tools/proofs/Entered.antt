-- The subcommand that a parse entered.
use Rattle.std.proofs.Common.{◌≡◌, ◌∙◌, ap, ap₂, sym, List, Option, Some, None, option_map, unwrap_or}
use Rattle.std.specs.Box.{box_value}
use Rattle.clap.specs.Words.{Row, Text, found_of, rows_of, subcommand_name_of, subcommand_rows_of}
use Rattle.clap.specs.declared.parser.matches.ArgMatches.{ArgMatches}
use Rattle.clap.specs.declared.parser.matches.ArgMatches.TheViews.{out-ArgMatches, out-SubCommand}

joined : {B : Type 0} (o : Option B) (f : B → Text) (g : B → List Row) (name : Text) (rows : List Row) → Some name ≡ option_map f o
    → Some rows ≡ option_map (λ (p : Text × List Row). p.1) (option_map {U = Text × List Row} (λ b. (f b, g b)) o)
    → option_map {U = Text × List Row} (λ b. (f b, g b)) o ≡ Some (name, rows)
joined None f g name rows named stand = cc
joined (Some b) f g name rows named stand =
    let one : f b ≡ name = ap (λ (o : Option Text). unwrap_or o name) (sym named) in
    let two : g b ≡ rows = ap (λ (o : Option (List Row)). unwrap_or o rows) (sym stand) in
    let pair : Text → List Row → Option (Text × List Row) = λ a c. Some (a, c) in
    ap₂ pair one two

-- the subcommand that was entered has this name and these rows
entered : (m : ArgMatches) (name : Text) (rows : List Row) → Some name ≡ subcommand_name_of m
    → Some rows ≡ option_map (λ (p : Text × List Row). p.1) (subcommand_rows_of m) → subcommand_rows_of m ≡ Some (name, rows)
entered m name rows named stand =
    joined (out-ArgMatches m).subcommand (λ b. (out-SubCommand (box_value b)).name.now) (λ b. rows_of (found_of (out-SubCommand (box_value b)).matches))
    name rows named stand

-- the subcommand that was entered has the wanted name, and these rows
pub entered_as : (m : ArgMatches) (name wanted : Text) (rows : List Row) → name ≡ wanted → Some name ≡ subcommand_name_of m
    → Some rows ≡ option_map (λ (p : Text × List Row). p.1) (subcommand_rows_of m) → subcommand_rows_of m ≡ Some (wanted, rows)
entered_as m name wanted rows is named stand = entered m wanted rows (ap Some (sym is) ∙ named) stand
