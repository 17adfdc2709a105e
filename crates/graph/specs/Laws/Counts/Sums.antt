-- Sums over the numbers below n.
--   when_yes, when_no              a term under a test
--   sum_same, sum_zero, sum_ones   equal terms, terms of 0, terms of 1
--   sum_add, sum_one               a sum of two, one term only
--   sum_first, sum_swap            the first term apart, two sums in either order
use Rattle.std.specs.Prelude.{ℕ, zero, suc, ◌+◌, ◌<◌, ◌≡◌, refl, Bool, true, false}
use Rattle.std.proofs.Common.{sym, ap, arith}
use Rattle.std.proofs.Math.Decide.{ℕ_discrete}
use Rattle.graph.specs.Counts.{when, sum}

-- a term under a test
pub when_yes : {b : Bool} (x : ℕ) → b ≡ true → when b x ≡ x
when_yes x e = rw e

pub when_no : {b : Bool} (x : ℕ) → b ≡ false → when b x ≡ 0
when_no x e = rw e

-- equal terms
pub sum_same : (n : ℕ) {f h : ℕ → ℕ} → ((x : ℕ) → x < n → f x ≡ h x) → sum n f ≡ sum n h
unfolding sum
sum_same zero e = refl
sum_same (suc n) e =
    let a = sum_same n (λ x l. e x (omega arith)) in
    let b = e n (omega arith) in
    omega arith

-- terms of 0
pub sum_zero : (n : ℕ) {f : ℕ → ℕ} → ((x : ℕ) → x < n → f x ≡ 0) → sum n f ≡ 0
unfolding sum
sum_zero zero e = refl
sum_zero (suc n) e =
    let a = sum_zero n (λ x l. e x (omega arith)) in
    let b = e n (omega arith) in
    omega arith

-- terms of 1
pub sum_ones : (n : ℕ) → sum n (λ x. 1) ≡ n
unfolding sum
sum_ones zero = refl
sum_ones (suc n) = let a = sum_ones n in omega arith

-- a sum of two
pub sum_add : (n : ℕ) (f h : ℕ → ℕ) → sum n (λ x. f x + h x) ≡ sum n f + sum n h
unfolding sum
sum_add zero f h = refl
sum_add (suc n) f h = let a = sum_add n f h in omega arith

-- one term only
pub sum_one : (n : ℕ) {f : ℕ → ℕ} (a : ℕ) → a < n → ((x : ℕ) → x < n → (x ≡ a → ⊥) → f x ≡ 0) → sum n f ≡ f a
unfolding sum
sum_one zero a l e = absurd (omega arith)
sum_one (suc n) {f} a l e = go (ℕ_discrete n a) (λ k. sum_one n a k (λ x c d. e x (omega arith) d))
  where
    go : Dec (n ≡ a) → (a < n → sum n f ≡ f a) → sum n f + f n ≡ f a
    go (yes p) rec =
        let z = sum_zero n (λ x c. e x (omega arith) (λ (q : x ≡ a). omega arith)) in
        let y = ap f p in
        omega arith
    go (no d) rec =
        let z = rec (omega arith) in
        let y = e n (omega arith) d in
        omega arith

-- the first term apart
pub sum_first : (n : ℕ) (f : ℕ → ℕ) → sum (suc n) f ≡ f 0 + sum n (λ x. f (suc x))
unfolding sum
sum_first zero f = omega arith
sum_first (suc n) f = let a = sum_first n f in omega arith

-- two sums in either order
pub sum_swap : (n k : ℕ) (K : ℕ → ℕ → ℕ) → sum n (λ x. sum k (K x)) ≡ sum k (λ y. sum n (λ x. K x y))
unfolding sum
sum_swap zero k K = sym (sum_zero k (λ y l. refl))
sum_swap (suc n) k K =
    let a = sum_swap n k K in
    let b = sum_add k (λ y. sum n (λ x. K x y)) (K n) in
    omega arith
