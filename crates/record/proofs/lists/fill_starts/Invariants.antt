-- `lists::fill_starts` meets its contract: each sum is entered, and those of the degrees that are left are still to be.
use mathlib.Core.Path.{◌≡◌}
use mathlib.Core.List.{◌++◌}
use Prim.Native.Nat.{◌+◌}
use lib.ListN.{length, take, drop}
use Rattle.adjacency.specs.Reverse.{total}
use Rattle.record.specs.Starts.{sums_from, sums_of}
use Rattle.record.proofs.lists.fill_starts.Given as goal

abbrev pub invariant-loop-v : goal.invariant-loop-v
invariant-loop-v l = record {
  size : length l.starts ≡ length l.lists.degrees.now + 1;
  left : l.start + total (drop l.v l.lists.degrees.now) ≡ total l.lists.degrees.now;
  entered : take l.v l.starts ++ sums_from l.start (drop l.v l.lists.degrees.now) ≡ sums_of l.lists.degrees.now;
}
