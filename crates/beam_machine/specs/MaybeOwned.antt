-- The term of a constant.
use Rattle.beam_term.specs.Prelude.{TermValue}
use Rattle.beam_machine.specs.declared.lent.MaybeOwned.{MaybeOwned}
use Rattle.beam_machine.specs.declared.lent.MaybeOwned.TheVariants.{Here, Lent}

abbrev pub term_of_constant : MaybeOwned → TermValue
term_of_constant (Here t) = t
term_of_constant (Lent t) = t.now
