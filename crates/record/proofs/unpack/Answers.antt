-- `unpack` meets its contract: Check with the list first, and then the list's length.
use mathlib.Core.Path.{◌∙◌}
use native.Mathlib.Omega.{arith}
use Rattle.record.specs.Sized.{sizes_of}
use Rattle.record.specs.Laws.Sounded.{check_kept, check_sound}
use Rattle.record.specs.Laws.Told.{exit_told}
use Rattle.record.proofs.Laws.Telling.Unpacking.{unpack_refused, unpack_misfit, unpack_done}
use Rattle.record.proofs.unpack.Goals as goal

pub returns-in_err-layout : goal.returns-in_err-layout
returns-in_err-layout c =
    let told = c.in_err-layout.ensures.told in
    let refused = unpack_refused c.args.bytes.now c.args.list.now (sizes_of c.args.bytes.now) told.0 in
    (exit_told _ _ _ c.from_residual.ensures.1 ∙ refused.0, told.1)

pub returns-then-list-layout : goal.returns-then-list-layout
returns-then-list-layout c =
    let bytes = c.args.bytes.now in
    let told = c.in_ok-layout.ensures.told in
    let m = (check_sound bytes told.0).is_m in
    ((unpack_misfit bytes c.args.list.now (check_kept bytes told.0) m (λ same. omega arith)).0, told.1)

pub returns : goal.returns
returns c =
    let bytes = c.args.bytes.now in
    let told = c.in_ok-layout.ensures.told in
    let m = (check_sound bytes told.0).is_m in
    ((unpack_done bytes c.args.list.now (check_kept bytes told.0) m (omega arith)).0, told.1)
