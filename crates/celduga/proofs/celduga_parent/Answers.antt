-- `celduga_parent` meets its contract.
use Rattle.celduga.proofs.Laws.Coded.{code_call, fits_call}
use Rattle.queries.specs.Laws.Small.{parent_small}
use Rattle.queries.specs.Answers.{or_zero, terminal_or_none}
use Rattle.celduga.proofs.celduga_parent.Goals as goal

pub code-requires : goal.code-requires
code-requires c =
    fits_call terminal_or_none or_zero c.parent.result c.parent.ensures
    (parent_small c.args.bytes.now c.args.index.now c.args.v)

pub returns : goal.returns
returns c = code_call terminal_or_none or_zero c.parent.result c.parent.ensures c.code.ensures
