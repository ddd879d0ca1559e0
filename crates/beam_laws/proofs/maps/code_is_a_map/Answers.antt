use Rattle.beam_laws.proofs.Mapping.{map_kept, map_reached}
use Rattle.beam_laws.proofs.maps.code_is_a_map.Goals as goal

pub returns-clause-reached : goal.returns-clause-reached
returns-clause-reached c = map_reached

pub returns-clause-kept : goal.returns-clause-kept
returns-clause-kept c = map_kept
