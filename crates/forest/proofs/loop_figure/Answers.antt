-- `loop_figure` meets its contract: order R and rule 5 first, and then the rest in a room.
use mathlib.Core.Path.{◌∙◌}
use Rattle.record.specs.Rules.{layout_rules, check_rules}
use Rattle.record.specs.Sized.{sizes_of}
use Rattle.record.specs.Laws.Told.{exit_told, told_append}
use Rattle.forest.specs.Operations.{loops, loop_figure}
use Rattle.forest.proofs.loop_figure.Goals as goal

pub returns-in_err-laid : goal.returns-in_err-laid
unfolding check_rules loop_figure
returns-in_err-laid c =
    let bytes = c.args.bytes.now in
    exit_told _ _ _ c.from_residual.ensures.1
    ∙ told_append (layout_rules bytes) _ (sizes_of bytes) (loops bytes) c.in_err-laid.ensures.sizes
