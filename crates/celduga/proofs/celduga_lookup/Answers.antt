-- `celduga_lookup` meets its contract.
use Rattle.celduga.proofs.Laws.Coded.{code_call}
use Rattle.celduga.specs.Code.{nothing}
use Rattle.celduga.proofs.celduga_lookup.Goals as goal

pub returns : goal.returns
unfolding nothing
returns c =
    let done = c.lookup.ensures in
    (code_call (λ u. u) nothing c.lookup.result done.answers c.code.ensures, done.leaves)
