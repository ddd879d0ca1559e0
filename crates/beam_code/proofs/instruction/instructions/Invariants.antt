use Rattle.std.proofs.Common.{◌-◌, length, map}
use Rattle.std.specs.List.{All}
use Rattle.beam_code.specs.Prelude.{tables_of, made_of, IsWithin}
use Rattle.beam_code.proofs.Loops.{IsRead}
use Rattle.beam_code.proofs.ReadingLayout.{Placed}
use Rattle.beam_code.proofs.instruction.instructions.Given as goal

abbrev pub invariant-loop-starts : goal.invariant-loop-starts
invariant-loop-starts l = record {
  read : IsRead l.atoms l.imports l.literals l.code 20 l.at (map (made_of l.pool.items) l.heads.items);
  within : All (IsWithin l.pool.items) l.heads.items;
  placed : Placed (tables_of l.atoms l.imports l.literals) l.code l.starts l.at (map (made_of l.pool.items) l.heads.items);
}

abbrev pub decreases-loop-starts : goal.decreases-loop-starts
decreases-loop-starts l = length l.code - l.at
