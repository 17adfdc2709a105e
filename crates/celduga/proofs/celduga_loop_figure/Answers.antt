-- `celduga_loop_figure` meets its contract.
use Prim.Native.Nat.{ℕ}
use Rattle.celduga.proofs.Laws.Coded.{code_call, fits_call}
use Rattle.celduga.specs.Laws.Small.{figure_small}
use Rattle.celduga.specs.Code.{itself}
use Rattle.celduga.proofs.celduga_loop_figure.Goals as goal

pub code-requires : goal.code-requires
unfolding itself
code-requires c =
    fits_call (λ (k : ℕ). k) itself c.loop_figure.result c.loop_figure.ensures
    (figure_small c.args.bytes.now)

pub returns : goal.returns
unfolding itself
returns c = code_call (λ (k : ℕ). k) itself c.loop_figure.result c.loop_figure.ensures c.code.ensures
