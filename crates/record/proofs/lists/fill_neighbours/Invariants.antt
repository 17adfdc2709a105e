-- `lists::fill_neighbours` meets its contract: the list is filled from the front.
use mathlib.Core.Path.{◌≡◌}
use mathlib.Core.List.{map}
use lib.ListN.{length, take}
use Rattle.record.specs.Steps.{vertex_of}
use Rattle.record.proofs.lists.fill_neighbours.Given as goal

abbrev pub invariant-loop-i : goal.invariant-loop-i
invariant-loop-i l =
    (length l.nbrs ≡ length l.neighbours) × (take l.i l.nbrs ≡ map vertex_of (take l.i l.neighbours))
