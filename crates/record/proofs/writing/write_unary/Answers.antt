-- `writing::write_unary` meets its contract: D is written degree by degree.
use mathlib.Core.Path.{◌≡◌}
use mathlib.Core.List.{List}
use Prim.Native.Nat.{ℕ, ◌+◌, ◌*◌, ◌≤◌}
use native.Mathlib.Omega.{arith}
use lib.ListN.{length, take}
use lib.Seq.{length-take-le}
use Rattle.bits.specs.Bits.{bits}
use Rattle.bits.specs.Laws.Bytes.{length_bits}
use Rattle.adjacency.specs.Reverse.{total}
use Rattle.record.proofs.Laws.Writing.Unary.{marking_start, marking_room, marking_more}
use Rattle.record.proofs.writing.write_unary.Goals as goal

-- there is room for D
room : (degrees bytes : List ℕ) → 28 + (length degrees + total degrees) ≤ 8 * length bytes
    → (length (take 28 (bits bytes)) ≡ 28)
    × (length (take 28 (bits bytes)) + (length degrees + total degrees) ≤ 8 * length bytes)
room degrees bytes h =
    let l = length_bits bytes in
    let t = length-take-le 28 (bits bytes) (omega arith) in
    (t, omega arith)

pub loop-degree-init : goal.loop-degree-init
loop-degree-init c =
    marking_start c.args.lists.now.degrees.now c.args.bytes.now 28 (omega arith) c.requires.1

pub set_bit-requires : goal.set_bit-requires
set_bit-requires c =
    let r = room c.args.lists.now.degrees.now c.args.bytes.now c.requires.0 in
    omega (arith, marking_room c.loop-degree.invariant c.loop-degree-test.true)

pub overflow_add-at-in-loop-degree : goal.overflow_add-at-in-loop-degree
overflow_add-at-in-loop-degree c =
    let r = room c.args.lists.now.degrees.now c.args.bytes.now c.requires.0 in
    omega (arith, marking_room c.loop-degree.invariant c.loop-degree-test.true)

pub loop-degree-preserved : goal.loop-degree-preserved
loop-degree-preserved c =
    let loop = c.loop-degree in
    let r = room c.args.lists.now.degrees.now c.args.bytes.now c.requires.0 in
    let (set, same) = c.set_bit.ensures in
    marking_more loop.invariant c.loop-degree-test.true c.from.result c.from.ensures (omega arith)
    set same
