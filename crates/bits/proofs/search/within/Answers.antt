-- `search::within` meets its contract, with no sum that wraps.
use mathlib.Core.Path.{sym}
use Prim.Native.Nat.{◌+◌, ◌*◌}
use native.Mathlib.Omega.{arith}
use Rattle.bits.specs.Laws.Select.{within_in, within_out}
use Rattle.bits.proofs.search.within.Goals as goal

pub returns-then-limit-at : goal.returns-then-limit-at
returns-then-limit-at c = sym (within_out c.args.limit (8 * c.args.at + c.args.t) (omega arith))

pub returns-then-limit-before : goal.returns-then-limit-before
returns-then-limit-before c =
    let a = c.args in
    sym (within_out a.limit (8 * a.at + a.t) (omega arith))

pub returns : goal.returns
returns c =
    let a = c.args in
    sym (within_in a.limit (8 * a.at + a.t) (omega arith))
