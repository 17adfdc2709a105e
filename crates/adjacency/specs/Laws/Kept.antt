-- A graph that keeps rules 6 and 8 is well_formed.
use Rattle.std.specs.Prelude.{◌≡◌, refl, false, eqb, leb, length}
use Rattle.std.proofs.Common.{leb-false, eqb-true}
use Rattle.std.proofs.lemmas.Bool.{eqb-false, not-false}
use Rattle.graph.specs.Graph.{Blocks, WellFormed}
use Rattle.graph.specs.Laws.Places.Pairing.{well_formed_at}
use Rattle.adjacency.specs.Places.{any_place, stray, one_sided}
use Rattle.adjacency.specs.Laws.Anywhere.{neither, nowhere}

-- no stray neighbour and no wire at one end only
pub well_formed : (g : Blocks) → any_place (stray g) g ≡ false → any_place (one_sided g) g ≡ false → WellFormed g
unfolding stray one_sided
well_formed g e f =
    well_formed_at {g = g}
    (λ u j v p. leb-false (length g) v (neither (leb (length g) v) (eqb v u) ((nowhere (stray g) g).0 e u j v p)).0)
    (λ u j p. eqb-false u u (neither (leb (length g) u) (eqb u u) ((nowhere (stray g) g).0 e u j u p)).1 refl)
    (λ u j v p. eqb-true _ _ (not-false _ ((nowhere (one_sided g) g).0 f u j v p)))
