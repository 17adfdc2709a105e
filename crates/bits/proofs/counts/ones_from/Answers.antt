-- `counts::ones_from` meets its contract, by the laws of a string that starts inside a byte.
use mathlib.Core.Path.{◌≡◌, ap, sym, refl}
use Prim.Native.Nat.{ℕ, ◌+◌}
use native.Mathlib.Omega.{arith}
use lib.Count.{ones}
use lib.ListN.{take}
use Rattle.bits.specs.Bits.{count}
use Rattle.bits.specs.Laws.Rank.{count_take_le}
use Rattle.bits.proofs.FromBit.{from, ones_within, ones_beyond}
use Rattle.bits.proofs.counts.ones_from.Goals as goal
use Rattle.bits.proofs.counts.ones_from.Goals.{After-ones_after}

pub returns-then-n-eq0 : goal.returns-then-n-eq0
unfolding count
returns-then-n-eq0 c =
    let a = c.args in
    sym (ap (λ (n : ℕ). count (take n (from a.bytes.now a.start))) c.if-n-eq0.true)

pub returns-then-n-room : goal.returns-then-n-room
returns-then-n-room c =
    let n = c.args.n in
    ones_within c.byte_rest-b.ensures n c.if-n-room.true

-- the ones up to the end of the byte, and those after it
all : (c : After-ones_after)
    → ones c.byte_rest-b.result + c.ones_after.result
    ≡ count (take c.args.n (from c.args.bytes.now c.args.start))
all c =
    let y = c.ones_after in
    ones_beyond c.byte_rest-b.ensures c.args.n _ y.result (omega arith) refl y.ensures

pub overflow_add-result : goal.overflow_add-result
overflow_add-result c =
    let a = c.args in
    let s = all (goal.at.overflow_add-result c).After-ones_after in
    omega (arith, count_take_le a.n (from a.bytes.now a.start))

pub returns : goal.returns
returns c = all (goal.at.returns c).After-ones_after
