-- `rooms::build_by` meets its contract: Check first.
use Rattle.record.specs.Operations.{check}
use Rattle.record.specs.Laws.Sounded.{check_accepted}
use Rattle.record.specs.Laws.Told.{exit_told}
use Rattle.forest.proofs.Laws.Building.{done_refused}
use Rattle.forest.proofs.rooms.build_by.Goals as goal

pub build_from-requires : goal.build_from-requires
build_from-requires c =
    let (told, arrays) = c.in_ok-check_arrays.ensures in
    (check_accepted told, arrays)

pub returns-in_err-check_arrays : goal.returns-in_err-check_arrays
unfolding check
returns-in_err-check_arrays c =
    rw (exit_told (λ u. u) _ _ c.from_residual.ensures.1) (done_refused tt c.in_err-check_arrays.ensures.0)
