-- `celduga_visit` meets its contract.
use Rattle.celduga.proofs.Laws.Coded.{code_call, fits_call}
use Rattle.queries.specs.Laws.Small.{visit_small}
use Rattle.celduga.specs.Code.{itself}
use Rattle.forest.specs.declared.Dfi.{Dfi}
use Rattle.celduga.proofs.celduga_visit.Goals as goal

pub code-requires : goal.code-requires
unfolding itself
code-requires c =
    fits_call (λ (d : Dfi). d.0) itself c.visit.result c.visit.ensures
    (visit_small c.args.bytes.now c.args.index.now c.args.v)

pub returns : goal.returns
unfolding itself
returns c = code_call (λ (d : Dfi). d.0) itself c.visit.result c.visit.ensures c.code.ensures
