-- A cell of zeros, and a cell after a store.
use Rattle.std.specs.Prelude.{ℕ, zero, suc, ◌≤◌, ◌<◌, ◌≡◌, refl, List, length, take, get_or, set, replicate}
use Rattle.std.proofs.Common.{arith, get_or-set_same, get_or-set_other, length-take-le}
use Rattle.std.proofs.lemmas.List.{length-replicate}

pub cell_zero : (n i : ℕ) → ◌≡◌ {A = ℕ} (get_or (replicate n 0) i 0) 0
cell_zero zero i = refl
cell_zero (suc n) zero = refl
cell_zero (suc n) (suc i) = cell_zero n i

module _ (l : List ℕ) {i j : ℕ} (x : ℕ) where
  pub cell_same : j ≡ i → i < length l → get_or (set l i x) j 0 ≡ x
  cell_same e h = rw e (get_or-set_same l i x 0 h)

  pub cell_other : (j ≡ i → ⊥) → get_or (set l i x) j 0 ≡ get_or l j 0
  cell_other h = get_or-set_other l i j x 0 h

-- the front part of a list of zeros
pub part_zeros : (m k : ℕ) → k ≤ m → length (take k (replicate {A = ℕ} m 0)) ≡ k
part_zeros m k h = length-take-le k (replicate m 0) (let e = length-replicate {A = ℕ} m 0 in omega arith)
