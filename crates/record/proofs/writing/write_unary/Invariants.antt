-- `writing::write_unary` meets its contract: D is written degree by degree.
use lib.ListN.{take}
use Rattle.bits.specs.Bits.{bits}
use Rattle.record.proofs.Laws.Writing.Unary.{Marking}
use Rattle.record.proofs.writing.write_unary.Given as goal

abbrev pub invariant-loop-degree : goal.invariant-loop-degree
invariant-loop-degree l = Marking (take 28 (bits l.initial.bytes)) l.lists.degrees.now l.bytes l.at l.degree-index
