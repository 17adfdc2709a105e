-- `celduga_table` meets its contract.
use Rattle.celduga.proofs.Laws.Coded.{code_call}
use Rattle.celduga.specs.Code.{nothing}
use Rattle.celduga.proofs.celduga_table.Goals as goal

pub returns : goal.returns
unfolding nothing
returns c =
    let done = c.table.ensures in
    (code_call (λ u. u) nothing c.table.result done.answers c.code.ensures, done.leaves)
