-- `celduga_degree` meets its contract.
use Prim.Native.Nat.{ℕ}
use Rattle.celduga.proofs.Laws.Coded.{code_call, fits_call}
use Rattle.celduga.specs.Laws.Small.{degree_small}
use Rattle.celduga.specs.Code.{itself}
use Rattle.celduga.proofs.celduga_degree.Goals as goal

pub code-requires : goal.code-requires
unfolding itself
code-requires c =
    fits_call (λ (k : ℕ). k) itself c.degree.result c.degree.ensures
    (degree_small c.args.bytes.now c.args.v)

pub returns : goal.returns
unfolding itself
returns c = code_call (λ (k : ℕ). k) itself c.degree.result c.degree.ensures c.code.ensures
