-- `tables::table_in` meets its contract.
use mathlib.Core.Path.{sym, ap, ◌∙◌}
use mathlib.Core.Bool.{Bool, not}
use Prim.Native.Nat.{ℕ, ◌≤◌}
use native.Mathlib.Omega.{arith}
use lib.Dec.{eqb}
use Rattle.record.specs.Operations.{other_length}
use Rattle.forest.specs.Index.{index_length}
use Rattle.adjacency.specs.Laws.Stores.{part_zeros}
use Rattle.queries.specs.Table.{columns, misfits}
use Rattle.queries.proofs.Laws.Rooms.{index_short, other_where, lent_short}
use Rattle.queries.proofs.tables.table_in.Goals as goal
use Rattle.queries.proofs.tables.table_in.Goals.{After-lent_length-size}

abbrev misfit : After-lent_length-size → Bool
misfit c =
    misfits c.args.layout.now.n (columns c.args.visits.now c.args.parents.now c.args.counts.now c.args.heads.now)

-- the buffer has room
short : (c : After-lent_length-size) → c.lent_length-size.result ≤ 19969
short c =
    let s = c.args.layout.now.sound in
    omega (arith, c.lent_length-size.ensures, lent_short (misfit c) (index_short s.n_fits s.m_fits))

pub slice_bounds-index-end : goal.slice_bounds-index-end
slice_bounds-index-end c = short (goal.at.slice_bounds-index-end c).After-lent_length-size

pub slice_bounds-table_by-end : goal.slice_bounds-table_by-end
slice_bounds-table_by-end c =
    sym (part_zeros 19969 _ (short (goal.at.slice_bounds-table_by-end c).After-lent_length-size))

pub table_by-requires : goal.table_by-requires
unfolding other_length
table_by-requires c =
    let longest : ℕ = index_length c.args.layout.now.n c.args.layout.now.m in
    let size =
    part_zeros 19969 c.lent_length-size.result (short (goal.at.table_by-requires c).After-lent_length-size)
    ∙ c.lent_length-size.ensures in
    let b = misfit (goal.at.table_by-requires c).After-lent_length-size in
    ap (λ (k : ℕ). not (eqb k longest)) size ∙ other_where longest b
