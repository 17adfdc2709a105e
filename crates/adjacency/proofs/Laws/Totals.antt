-- The cells of all parts counted together: as many are passed as places, so in the end every part is full.
use Prim.Native.Nat.{ℕ, zero, suc, ◌+◌, ◌-◌, ◌≤◌, ◌<◌}
use mathlib.Core.Path.{refl, ◌≡◌, sym, ◌∙◌, ap}
use mathlib.Core.List.{List, sum}
use native.Mathlib.Numerals.{add-one}
use native.Mathlib.Omega.{arith}
use lib.ListN.{length, get_or, set, take}
use lib.Seq.{ext_get_or, get_or-take, length-take-le, take-length}
use borrow.Author.Count.{below_more}
use Rattle.std.proofs.lemmas.Grind.{common_steps}
use Rattle.std.proofs.lemmas.List.Recursion.{is_sum_by}
use Rattle.adjacency.specs.Reverse.{total, TurnedBefore, AtStarts}
use Rattle.adjacency.specs.Laws.Totals.{total_next}

-- a cell goes up by one
pub total_set : (l : List ℕ) (i : ℕ) → i < length l → total (set l i (get_or l i 0 + 1)) ≡ total l + 1
unfolding sum
total_set l i h = grind (arith, common_steps, is_sum_by total (λ x. x) refl (λ _ _. omega arith))

-- no cell of a part is passed yet
pub total_start : {starts next : List ℕ} → AtStarts starts next → total next ≡ total (take (length next) starts)
total_start {starts} {next} a =
    let c = a.cells in
    ap total (ext_get_or 0 next (take (length next) starts) (sym (length-take-le (length next) starts (omega arith)))
    (λ v h. a.begins v (omega arith) ∙ sym (get_or-take (length next) starts v 0 h)))

module _ {starts nbrs reverse next : List ℕ} (done : TurnedBefore starts nbrs reverse next (length starts - 1)) where
  -- of the first n parts no more cells are passed than they have; where all of these are, each of the parts is full
  full_to : (n : ℕ) → n ≤ length next
      → (total (take n next) ≤ total (take n starts) + get_or starts n 0)
      × (total (take n next) ≡ total (take n starts) + get_or starts n 0
      → (v : ℕ) → v < n → get_or next v 0 ≡ get_or starts (v + 1) 0)
  full_to zero h = (omega arith, λ e v l. absurd (omega arith))
  full_to (suc n) h =
      let c = done.turned.cells in
      let (most, all) = full_to n (omega arith) in
      let near = done.turned.near n (omega arith) in
      let z = ap (λ (x : ℕ). get_or starts x 0) (add-one n) in
      let a = total_next next n (omega arith) in
      let b = total_next starts n (omega arith) in (
        omega arith,
        λ e v l. below_more (λ w. get_or next w 0 ≡ get_or starts (w + 1) 0) n (all (omega arith)) (omega arith) v
            (omega arith),
      )

  -- and all cells are passed in the end
  pub full : (v : ℕ) → v + 1 < length starts → get_or next v 0 ≡ get_or starts (v + 1) 0
  full v h =
      let c = done.turned.cells in
      let n : length starts - 1 ≡ length next = omega arith in
      (full_to (length next) (omega arith)).1 (ap total (take-length next) ∙ (rw n at done.spent)) v (omega arith)
