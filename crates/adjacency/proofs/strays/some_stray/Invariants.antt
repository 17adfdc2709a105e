-- `strays::some_stray` meets its contract: no block passed holds a stray neighbour.
use mathlib.Core.Path.{◌≡◌}
use Rattle.adjacency.specs.Places.{any_place, stray}
use Rattle.adjacency.specs.Arrays.{cut}
use Rattle.adjacency.proofs.Laws.Strays.{from_block}
use Rattle.adjacency.proofs.strays.some_stray.Given as goal

abbrev pub invariant-loop-u : goal.invariant-loop-u
invariant-loop-u l =
    let g = cut l.lists.starts.now l.lists.nbrs.now in
    any_place (stray g) g ≡ from_block (stray g) g l.u
