use Rattle.beam_recall.proofs.FileRead.{all_of_the_file, those_of_the_file}
use Rattle.beam_recall.proofs.laws.recalled_to_the_end.Goals as goal

pub returns-clause-those : goal.returns-clause-those
returns-clause-those c = those_of_the_file

pub returns-clause-all : goal.returns-clause-all
returns-clause-all c = all_of_the_file
