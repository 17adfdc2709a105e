-- `tables::fill_lists` meets its contract.
use mathlib.Core.Path.{sym}
use Prim.Native.Nat.{◌+◌}
use native.Mathlib.Omega.{arith}
use Rattle.adjacency.specs.Laws.Stores.{part_zeros}
use Rattle.queries.proofs.tables.fill_lists.Goals as goal

pub slice_bounds-fill-end : goal.slice_bounds-fill-end
slice_bounds-fill-end c =
    let b = c.args.b.now in
    sym (part_zeros 4097 (b.indexed.layout.n + 1) (omega (arith, b.indexed.framed.n_fits)))

pub slice_bounds-fill-end-2 : goal.slice_bounds-fill-end-2
slice_bounds-fill-end-2 c =
    let b = c.args.b.now in
    sym (part_zeros 4096 b.indexed.layout.n b.indexed.framed.n_fits)
