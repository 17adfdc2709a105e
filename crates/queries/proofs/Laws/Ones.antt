-- The ones of a string, met in order, and a part of one.
--   positive     a number that is not 0
--   part_length  k bits from a bit on
--   part_bit     one of them
--   count_next   the ones up to the next bit
--   found_here   the one that makes j of them is the j-th
--   found_none   fewer than j are there
use mathlib.Core.Path.{◌≡◌, sym, ap, ◌∙◌}
use mathlib.Core.Bool.{Bool, true, false}
use mathlib.Core.List.{List, [], ◌∷◌}
use Prim.Native.Nat.{ℕ, ◌+◌, ◌≤◌, ◌<◌}
use native.Mathlib.Numerals.{add-one}
use native.Mathlib.Decide.{ℕ_discrete}
use native.Mathlib.Omega.{arith}
use lib.ListN.{length, take, drop, get_or, length-drop}
use lib.Seq.{take-suc, take_all, length-take-le, get_or-take, get_or-drop}
use Rattle.bits.specs.Bits.{bit, count, rank, select}
use Rattle.bits.specs.Laws.Rank.{count_append, count_cons}
use Rattle.bits.specs.Laws.Select.{select_none, select_rank}

-- a number that is not 0
pub positive : {j : ℕ} → (j ≡ 0 → ⊥) → 1 ≤ j
positive {j} z = elim (ℕ_discrete j 0) [ yes e ↦ absurd (z e) | no d ↦ omega arith ]

-- k bits from bit `from` on
module _ (s : List Bool) (from k : ℕ) (h : from + k ≤ length s) where
  pub part_length : length (take k (drop from s)) ≡ k
  part_length = length-take-le k (drop from s) (let l = length-drop from s in omega arith)

  pub part_bit : (i : ℕ) → i < k → get_or (take k (drop from s)) i false ≡ get_or s (from + i) false
  part_bit i l = get_or-take k (drop from s) i false l ∙ get_or-drop from s i false

-- one bit further
pub count_next : (t : List Bool) (i : ℕ) → i < length t
    → count (take (i + 1) t) ≡ count (take i t) + bit (get_or t i false)
unfolding count
count_next t i h =
    ap (λ (x : ℕ). count (take x t)) (add-one i) ∙ ap count (take-suc t i false h)
    ∙ count_append (take i t) (get_or t i false ∷ [])
    ∙ ap (λ (x : ℕ). count (take i t) + x) (count_cons (get_or t i false) [] ∙ omega arith)

count_whole : (t : List Bool) {i : ℕ} → length t ≤ i → count (take i t) ≡ count t
count_whole t {i} h = ap count (take_all i t h)

-- the one that makes j of them is the j-th
pub found_here : (t : List Bool) (i : ℕ) {j : ℕ} → get_or t i false ≡ true → count (take (i + 1) t) ≡ j
    → i + 1 ≡ select t j
unfolding rank
found_here t i e c = sym (select_rank t i e) ∙ ap (select t) c

-- fewer than j are there
pub found_none : (t : List Bool) {i j : ℕ} → length t ≤ i → count (take i t) < j → 0 ≡ select t j
found_none t {i} {j} h c = let e = count_whole t h in sym (select_none t j (omega arith))
