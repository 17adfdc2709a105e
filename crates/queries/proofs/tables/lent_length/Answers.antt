-- `tables::lent_length` meets its contract.
use native.Mathlib.Omega.{arith}
use Rattle.queries.proofs.Laws.Rooms.{index_short, flag_small}
use Rattle.queries.proofs.tables.lent_length.Goals as goal

pub overflow_add-result : goal.overflow_add-result
overflow_add-result c =
    let s = c.args.layout.now.sound in
    let flag = flag_small c.some_misfit.result in
    omega (arith, index_short s.n_fits s.m_fits, c.index_length.ensures, c.from.ensures)
