-- `build` meets its contract: order R and rule 5 first, and then the rest in a room.
use Rattle.record.specs.Sized.{sizes_of}
use Rattle.record.specs.Laws.Told.{exit_told}
use Rattle.forest.proofs.Laws.Building.{done_unread}
use Rattle.forest.proofs.build.Goals as goal

pub returns-in_err-laid : goal.returns-in_err-laid
returns-in_err-laid c =
    let d = done_unread (sizes_of c.args.bytes.now) c.in_err-laid.ensures.sizes in
    rw (exit_told (λ u. u) _ _ c.from_residual.ensures.1) (d.told, d.left)

pub returns : goal.returns
returns c =
    let d = rw c.in_ok-laid.ensures.same at c.in_room.ensures in
    (d.told, d.left)
