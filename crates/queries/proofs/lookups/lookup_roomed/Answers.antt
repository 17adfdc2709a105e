-- `lookups::lookup_roomed` meets its contract: the parts lent are of the exact length.
use mathlib.Core.Path.{sym}
use native.Mathlib.Omega.{arith}
use lib.ListN.{replicate, length-replicate}
use Rattle.adjacency.specs.Laws.Stores.{cell_zero, part_zeros}
use Rattle.queries.specs.Seen.{seen}
use Rattle.queries.proofs.Laws.Knowing.{known_none}
use Rattle.queries.proofs.Laws.Looking.{lists_fit}
use Rattle.queries.proofs.lookups.lookup_roomed.Goals as goal
use Prim.Native.Nat.{ℕ}

pub slice_bounds-first-end : goal.slice_bounds-first-end
slice_bounds-first-end g c = (lists_fit c.args.list.now c.args.heads.now c.args.visits.now c.requires.0).0

pub slice_bounds-lookup_by-end-4 : goal.slice_bounds-lookup_by-end-4
slice_bounds-lookup_by-end-4 g c =
    sym (part_zeros 512 _ (lists_fit c.args.list.now c.args.heads.now c.args.visits.now c.requires.0).0)

pub slice_bounds-second-end : goal.slice_bounds-second-end
slice_bounds-second-end g c = (lists_fit c.args.list.now c.args.heads.now c.args.visits.now c.requires.0).0

pub slice_bounds-lookup_by-end-5 : goal.slice_bounds-lookup_by-end-5
slice_bounds-lookup_by-end-5 g c =
    sym (part_zeros 512 _ (lists_fit c.args.list.now c.args.heads.now c.args.visits.now c.requires.0).0)

pub lookup_by-requires : goal.lookup_by-requires
lookup_by-requires g c =
    let (good, blocks, vertices, _, _) = c.requires in
    let few = (lists_fit c.args.list.now c.args.heads.now c.args.visits.now good).0 in
    let n = c.args.i.now.layout.n in (
      good,
      part_zeros g.row.STARTS _ blocks,
      known_none (seen c.args.i.now) n (replicate {A = ℕ} g.row.VERTICES 0)
          (omega (arith, vertices, length-replicate {A = ℕ} g.row.VERTICES 0)) (cell_zero g.row.VERTICES),
      part_zeros g.row.VERTICES n vertices,
      part_zeros 512 _ few,
      part_zeros 512 _ few,
    )
