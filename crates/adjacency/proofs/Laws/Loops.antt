-- Where a loop over the places of a block ends.
use Prim.Native.Nat.{ℕ, ◌+◌, ◌≤◌, ◌<◌}
use mathlib.Core.Path.{◌≡◌}
use mathlib.Core.List.{List}
use native.Mathlib.Omega.{arith}
use lib.ListN.{length, get_or}
use Rattle.adjacency.specs.Arrays.{Divided}

pub block_end : {starts nbrs : List ℕ} (u : ℕ) {from end p : ℕ} → Divided starts nbrs → u + 1 < length starts
    → from ≡ get_or starts u 0 → end ≡ get_or starts (u + 1) 0 → (from ≤ end → p ≤ end) → end ≤ p
    → p ≡ get_or starts (u + 1) 0
block_end u d k a b l h =
    let r = d.rising u k in
    let m = l (omega arith) in
    omega arith
