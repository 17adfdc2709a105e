-- `rooms::hand_on` meets its contract: the list is filled from the front.
use mathlib.Core.Path.{refl, sym, ◌∙◌}
use Prim.Native.Nat.{suc}
use native.Mathlib.Numerals.{add-one}
use native.Mathlib.Omega.{arith}
use lib.ListN.{length-map}
use Rattle.adjacency.specs.Laws.InOrder.{order_more}
use Rattle.record.specs.Laws.Mapped.{map_at}
use Rattle.record.proofs.rooms.hand_on.Goals as goal

pub loop-i-preserved : goal.loop-i-preserved
loop-i-preserved c =
    let nbrs = c.args.nbrs.now in
    let l = length-map nbrs suc in
    order_more c.loop-i.invariant _ refl (add-one _ ∙ sym (map_at suc nbrs c.loop-i.i (omega arith))) (omega arith)
