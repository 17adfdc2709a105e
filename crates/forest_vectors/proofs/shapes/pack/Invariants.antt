-- `shapes::pack` meets its contract: each block before v is put.
use Prim.Native.Nat.{◌*◌, ◌≤◌}
use Rattle.forest_vectors.proofs.shapes.pack.Given as goal

abbrev pub invariant-loop-v : goal.invariant-loop-v
invariant-loop-v l = l.p ≤ 4095 * l.v
