-- Where a step up leads: to a vertex.
use Rattle.std.specs.Prelude.{ℕ, zero, suc, ◌<◌, ltb, length}
use Rattle.std.proofs.Common.{ltb-true}
use Rattle.graph.specs.Graph.{Blocks, target}
use Rattle.graph.specs.Laws.Places.Basics.{Told, pass, fail, told}
use Rattle.queries.specs.Queries.{Step, stuck, top, rise, step_by}

-- a parent is a vertex
abbrev pub Inside : Blocks → Step → Type 0
Inside g stuck = Unit {0}
Inside g top = Unit {0}
Inside g (rise j p) = p < length g

one_inside : (g : Blocks) (u j : ℕ) → Told (ltb (target g u j) (length g)) → Inside g (step_by g u 1 j)
unfolding step_by
one_inside g u j (pass e) = rw (step_by, e) (ltb-true (target g u j) (length g) e)
one_inside g u j (fail e) = rw (step_by, e) tt

pub step_inside : (g : Blocks) (u c j : ℕ) → Inside g (step_by g u c j)
unfolding step_by
step_inside g u zero j = tt
step_inside g u (suc zero) j = one_inside g u j (told (ltb (target g u j) (length g)))
step_inside g u (suc (suc c)) j = tt
