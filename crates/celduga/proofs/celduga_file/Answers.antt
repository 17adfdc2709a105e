-- `celduga_file` meets its contract.
use Rattle.celduga.proofs.Laws.Coded.{code_call}
use Rattle.celduga.specs.Code.{nothing}
use Rattle.celduga.proofs.celduga_file.Goals as goal

pub returns : goal.returns
unfolding nothing
returns c = (code_call (λ u. u) nothing c.file.result c.file.ensures.0 c.code.ensures, c.file.ensures.1)
