-- The queries of a part, as those of the model below.
use Rattle.process.proofs.Parts.{part_states, part_options, part_moves, part_move}

pub ruleset part_queries = (part_states, part_options, part_moves, part_move)
