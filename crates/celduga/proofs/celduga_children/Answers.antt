-- `celduga_children` meets its contract.
use Prim.Native.Nat.{ℕ}
use Rattle.celduga.proofs.Laws.Coded.{code_call, fits_call}
use Rattle.queries.specs.Laws.Small.{children_small}
use Rattle.celduga.specs.Code.{itself}
use Rattle.celduga.proofs.celduga_children.Goals as goal

pub code-requires : goal.code-requires
unfolding itself
code-requires c =
    fits_call (λ (k : ℕ). k) itself c.children.result c.children.ensures
    (children_small c.args.bytes.now c.args.index.now c.args.v)

pub returns : goal.returns
unfolding itself
returns c = code_call (λ (k : ℕ). k) itself c.children.result c.children.ensures c.code.ensures
