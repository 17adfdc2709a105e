-- `roots::count_roots` meets its contract: the roots so far are counted.
use mathlib.Core.Path.{◌≡◌}
use lib.Dec.{eqb}
use lib.ListN.{take}
use Rattle.std.specs.Prelude.{count_by}
use Rattle.forest.proofs.roots.count_roots.Given as goal

abbrev pub invariant-loop-parent : goal.invariant-loop-parent
invariant-loop-parent l = l.roots ≡ count_by (λ p. eqb p 0) (take l.parent-index l.parents)
