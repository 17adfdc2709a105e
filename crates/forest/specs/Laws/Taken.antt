-- The start: what is known of one that Build takes, and the one that a listing takes.
use Rattle.std.specs.Prelude.{◌≡◌, refl, false, ℕ, zero, suc, ◌-◌, ◌≤◌, ◌<◌, length}
use Rattle.std.proofs.Common.{ap, arith}
use Rattle.graph.specs.Graph.{Blocks}
use Rattle.graph.specs.Search.{all, search, count_up}
use Rattle.graph.specs.Laws.Places.Pairing.{InRange}
use Rattle.graph.specs.Theorems.{start_1}
use Rattle.record.specs.Laws.Range.{inside_range, range_inside}
use Rattle.forest.specs.Index.{index_by, index_of}
use Rattle.forest.specs.Operations.{no_start, first_start}

-- it is a terminal, unless there are none
pub taken_range : (n start : ℕ) → no_start n start ≡ false → 0 < n → (0 < start) × (start ≤ n)
unfolding no_start
taken_range zero start e h = absurd (omega arith)
taken_range (suc n) start e h = range_inside (suc n) start e

pub taken_inside : (n start : ℕ) → no_start n start ≡ false → 0 < n → start - 1 < n
taken_inside n start e h =
    let (some, upto) = taken_range n start e h in
    omega arith

pub first_taken : (n : ℕ) → no_start n (first_start n) ≡ false
unfolding no_start first_start
first_taken zero = refl
first_taken (suc n) = inside_range (suc n) 1 (omega arith) (omega arith)

-- which gives the index of the search that takes the vertices in order
pub first_index : {g : Blocks} → InRange g → (n : ℕ)
    → index_by g (search g all (count_up 0 (length g))) ≡ index_of g (first_start n - 1)
unfolding first_start
first_index {g} r zero = ap (index_by g) (start_1 r)
first_index {g} r (suc n) = ap (index_by g) (start_1 r)
