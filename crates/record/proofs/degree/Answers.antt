-- `degree` meets its contract: order R first, and then the block.
use mathlib.Core.Path.{◌∙◌}
use Rattle.record.specs.Laws.OneBlock.{degree_unread}
use Rattle.record.specs.Laws.Told.{exit_told}
use Rattle.record.proofs.degree.Goals as goal

pub returns-in_err-layout : goal.returns-in_err-layout
returns-in_err-layout c =
    exit_told _ _ _ c.from_residual.ensures.1 ∙ degree_unread c.args.bytes.now c.args.v.0 c.in_err-layout.ensures.sizes
