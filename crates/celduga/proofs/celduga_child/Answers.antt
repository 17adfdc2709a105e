-- `celduga_child` meets its contract.
use Rattle.celduga.proofs.Laws.Coded.{code_call, fits_call}
use Rattle.queries.specs.Laws.Small.{child_small}
use Rattle.celduga.specs.Code.{itself}
use Rattle.record.specs.declared.Vertex.{Vertex}
use Rattle.celduga.proofs.celduga_child.Goals as goal

pub code-requires : goal.code-requires
unfolding itself
code-requires c =
    fits_call (λ (v : Vertex). v.0) itself c.child.result c.child.ensures
    (child_small c.args.bytes.now c.args.index.now c.args.v c.args.j)

pub returns : goal.returns
unfolding itself
returns c = code_call (λ (v : Vertex). v.0) itself c.child.result c.child.ensures c.code.ensures
