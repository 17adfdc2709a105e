-- `counts::ones_before` meets its contract. The invariant: the ones of the words passed are counted.
use mathlib.Core.Path.{◌≡◌}
use Prim.Native.Nat.{◌≤◌, ◌*◌}
use lib.ListN.{take}
use Rattle.bits.specs.Bits.{bits, count}
use Rattle.bits.proofs.counts.ones_before.Given as goal

abbrev pub invariant-loop-i : goal.invariant-loop-i
invariant-loop-i l = (l.i ≤ l.words) × (l.sum ≡ count (take (64 * l.i) (bits l.bytes)))
