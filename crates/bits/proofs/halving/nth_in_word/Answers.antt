-- `halving::nth_in_word` meets its contract: the first one is the highest.
use mathlib.Core.Path.{sym}
use native.Mathlib.Omega.{arith}
use Rattle.bits.proofs.Tops.{some_one, select_top}
use Rattle.bits.proofs.halving.nth_in_word.Goals as goal

pub top-requires : goal.top-requires
top-requires c =
    let a = c.args in
    let pre = c.requires in
    some_one a.x (omega arith)

pub returns-then-k-eq1 : goal.returns-then-k-eq1
returns-then-k-eq1 c =
    let a = c.args in
    let top = c.top in
    let fits = c.ranges.x.fits in
    let first = select_top 64 a.x top.result fits top.ensures.1 top.ensures.2 in
    (rw c.if-k-eq1.true (sym first), omega arith, omega arith)
