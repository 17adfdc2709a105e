-- `celduga_neighbours` meets its contract.
use Rattle.record.specs.Laws.OneBlock.{part_near}
use Rattle.celduga.proofs.celduga_neighbours.Goals as goal

pub of_part-requires : goal.of_part-requires
of_part-requires c = part_near c.part_of.ensures
