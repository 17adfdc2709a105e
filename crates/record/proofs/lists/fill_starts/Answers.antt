-- `lists::fill_starts` meets its contract: each sum is entered, and those of the degrees that are left are still to be.
use mathlib.Core.Path.{◌≡◌, ap, ◌∙◌}
use mathlib.Core.List.{◌∷◌, append_assoc, sum}
use Prim.Native.Nat.{suc, ◌+◌}
use native.Mathlib.Numerals.{add-one}
use native.Mathlib.Omega.{arith}
use lib.ListN.{length, drop, length-set, drop_of_length-le}
use lib.Seq.{take-suc-set, drop-cons, set_split}
use Rattle.record.specs.Starts.{sums_from}
use Rattle.record.proofs.lists.fill_starts.Goals as goal

pub loop-v-preserved : goal.loop-v-preserved
unfolding sums_from sum
loop-v-preserved c =
    let degrees = c.args.lists.now.degrees.now in
    let loop = c.loop-v in
    let inv = loop.invariant in
    let h = c.loop-v-test.true in
    let next : drop loop.v degrees ≡ c.from-start.result ∷ drop (loop.v + 1) degrees =
    rw (add-one loop.v, c.from-start.ensures) (drop-cons degrees loop.v 0 h) in
    let left = rw next at inv.left in
    let entered = rw next at inv.entered in
    let size = ap length c.put.ensures ∙ length-set loop.starts loop.v loop.start in
    record {
      size = size ∙ inv.size;
      left = omega arith;
      entered =
          rw (c.put.ensures, add-one loop.v, take-suc-set loop.starts loop.v loop.start (omega arith), append_assoc)
          (rw add-one at entered);
    }

pub returns : goal.returns
unfolding sums_from
returns c =
    let loop = c.loop-v in
    let inv = loop.invariant in
    let n = length c.args.lists.now.degrees.now in
    let end : loop.v ≡ n = omega arith in
    let none = drop_of_length-le c.args.lists.now.degrees.now {i = n} (omega arith) in
    let past = drop_of_length-le loop.starts {i = suc n} (omega arith) in
    c.put-2.ensures ∙ rw (set_split loop.starts n loop.start (omega arith), past) (rw (end, none) at inv.entered)
