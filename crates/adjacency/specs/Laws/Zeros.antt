-- A list of zeros, filled from the front.
use Rattle.std.specs.Prelude.{◌≡◌, refl, List, ℕ, ◌+◌, ◌≤◌, ◌<◌, length, set, replicate}
use Rattle.std.proofs.Common.{sym, ◌∙◌, arith, length-set}
use Rattle.std.proofs.lemmas.List.{length-replicate}
use Rattle.adjacency.specs.Laws.Stores.{cell_zero}
use Rattle.adjacency.specs.Laws.InOrder.{InOrder, order_start, order_more, order_end}

-- the first i of k cells are zero
pub record Zeroed (k : ℕ) (list : List ℕ) (i : ℕ) : Type 0 where
  pub size : length list ≡ k
  pub order : InOrder (replicate k 0) list i

pub zeroed_start : (list : List ℕ) → Zeroed (length list) list 0
zeroed_start list =
    let l = length-replicate {A = ℕ} (length list) 0 in
    record { size = refl; order = order_start (replicate (length list) 0) list (sym l) }

module _ {k : ℕ} {list : List ℕ} {i : ℕ} (z : Zeroed k list i) where
  pub zeroed_more : i < k → Zeroed k (set list i 0) (i + 1)
  zeroed_more h =
      let l = length-replicate {A = ℕ} k 0 in
      record {
        size = length-set list i 0 ∙ z.size;
        order = order_more z.order 0 refl (sym (cell_zero k i)) (omega arith);
      }

  pub zeroed_end : k ≤ i → list ≡ replicate k 0
  zeroed_end h = order_end z.order (let l = length-replicate {A = ℕ} k 0 in omega arith)
