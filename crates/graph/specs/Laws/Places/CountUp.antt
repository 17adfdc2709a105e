-- The numbers i, i + 1, .. (`count_up`), and a function at each of them.
--   count_every, count_inside      which they are
--   count_length                   how many they are
--   count_more, count_none         those from i on, of n in all
--   length_each, each_at, each_is  the values of a function: how many they are, and the one at a position
--   each_same, each_next           functions that agree there; the values from the next number on
use Rattle.std.specs.Prelude.{ℕ, zero, suc, ◌+◌, ◌-◌, ◌≤◌, ◌<◌, ◌≡◌, refl, length, get_or}
use Rattle.std.proofs.Common.{ap, ap₂, ◌∙◌, arith}
use mathlib.Core.List.{List, [], ◌∷◌, map, Memᴰ}
use Rattle.std.proofs.Math.Decide.{ℕ_discrete}
use Rattle.std.proofs.lemmas.List.{length-map}
use Rattle.graph.specs.Search.{count_up}

pub count_every : (i n v : ℕ) → i ≤ v → v < i + n → Memᴰ v (count_up i n)
unfolding count_up
count_every i zero v h l = absurd (omega arith)
count_every i (suc n) v h l =
    elim (ℕ_discrete v i) [
      | yes e ↦ Memᴰ.head e
      | no d ↦ Memᴰ.tail
          (count_every (suc i) n v (omega arith) (omega arith))
    ]

pub count_inside : (i n v : ℕ) → Memᴰ v (count_up i n) → v < i + n
unfolding count_up
count_inside i zero v m = elim m [ ]
count_inside i (suc n) v (Memᴰ.head e) = omega arith
count_inside i (suc n) v (Memᴰ.tail m) = let a = count_inside (suc i) n v m in omega arith

pub count_length : (i n : ℕ) → length (count_up i n) ≡ n
unfolding count_up
count_length i zero = refl
count_length i (suc n) = ap suc (count_length (suc i) n)

pub count_more : (n i : ℕ) → i < n → count_up i (n - i) ≡ i ∷ count_up (suc i) (n - suc i)
unfolding count_up
count_more n i h = let e : n - i ≡ suc (n - suc i) = omega arith in rw e

pub count_none : (n i : ℕ) → n ≤ i → count_up i (n - i) ≡ []
unfolding count_up
count_none n i h = let e : n - i ≡ 0 = omega arith in rw e

pub length_each : {A : Type 0} (f : ℕ → A) (i n : ℕ) → length (map f (count_up i n)) ≡ n
length_each f i n = length-map (count_up i n) f ∙ count_length i n

pub each_at : {A : Type 0} (f : ℕ → A) (d : A) (i n k : ℕ) → k < n → get_or (map f (count_up i n)) k d ≡ f (i + k)
unfolding count_up
each_at f d i zero k h = absurd (omega arith)
each_at f d i (suc n) zero h = ap f (omega arith)
each_at f d i (suc n) (suc k) h = each_at f d (suc i) n k (omega arith) ∙ ap f (omega arith)

pub each_is : {A : Type 0} (f : ℕ → A) (d : A) (n k : ℕ) → k < n → get_or (map f (count_up 0 n)) k d ≡ f k
each_is f d n k h = let z : 0 + k ≡ k = omega arith in each_at f d 0 n k h ∙ ap f z

pub each_same : {A : Type 0} (f h : ℕ → A) (i n : ℕ) → ((k : ℕ) → k < n → f (i + k) ≡ h (i + k))
    → map f (count_up i n) ≡ map h (count_up i n)
unfolding count_up
each_same f h i zero e = refl
each_same {A} f h i (suc n) e =
    let z : i + 0 ≡ i = omega arith in
    let first : f i ≡ h i = rw z at (e 0 (omega arith)) in
    ap₂ (λ (x : A) (xs : List A). x ∷ xs) first (each_same f h (suc i) n step)
  where
    step : (k : ℕ) → k < n → f (suc i + k) ≡ h (suc i + k)
    step k l = let c : i + suc k ≡ suc i + k = omega arith in rw c at (e (suc k) (omega arith))

pub each_next : {A : Type 0} (f : ℕ → A) (i n : ℕ) → map f (count_up (suc i) n) ≡ map (λ v. f (suc v)) (count_up i n)
unfolding count_up
each_next f i zero = refl
each_next {A} f i (suc n) = ap (λ (xs : List A). f (suc i) ∷ xs) (each_next f (suc i) n)
