-- The part of a block before a place: one neighbour longer past each place of the block, and whole at its end.
use Prim.Native.Nat.{ℕ, suc, ◌+◌, ◌-◌, ◌≤◌, ◌<◌}
use mathlib.Core.Path.{◌≡◌, sym, ◌∙◌, ap}
use mathlib.Core.List.{List, [], ◌∷◌, ◌++◌}
use native.Mathlib.Omega.{arith}
use native.Mathlib.Decide.{dec_lt}
use lib.ListN.{length, get_or}
use lib.Seq.{take_all, take-suc}
use Rattle.graph.specs.Graph.{block, target}
use Rattle.adjacency.specs.Arrays.{cut, Divided, Holds, up_to}
use Rattle.adjacency.specs.Laws.Rows.{no_block, starts_fit, one_block, row_size, row_neighbour}

-- ---- the part of a block before a place

module _ (starts nbrs : List ℕ) (u p : ℕ) where
  pub upto_start : p ≤ get_or starts u 0 → up_to starts nbrs u p ≡ []
  unfolding up_to
  upto_start h = let z : p - get_or starts u 0 ≡ 0 = omega arith in rw z

  upto_whole : length (block (cut starts nbrs) u) ≤ p - get_or starts u 0
      → up_to starts nbrs u p ≡ block (cut starts nbrs) u
  unfolding up_to
  upto_whole h = take_all (p - get_or starts u 0) (block (cut starts nbrs) u) h

  -- u is no vertex
  upto_none : length starts ≤ u + 1 → up_to starts nbrs u p ≡ block (cut starts nbrs) u
  upto_none h =
      let e = ap length (no_block starts nbrs u h) in
      upto_whole (omega arith)

module _ {starts nbrs : List ℕ} (i : Divided starts nbrs) where
  pub upto_past : (u p : ℕ) → u + 1 < length starts → get_or starts (u + 1) 0 ≤ p
      → up_to starts nbrs u p ≡ block (cut starts nbrs) u
  upto_past u p k h = let l = row_size i u k in upto_whole starts nbrs u p (omega arith)

  pub upto_end : (u : ℕ) → up_to starts nbrs u (length nbrs) ≡ block (cut starts nbrs) u
  upto_end u = go (dec_lt (u + 1) (length starts))
    where
      go : Dec (u + 1 < length starts) → up_to starts nbrs u (length nbrs) ≡ block (cut starts nbrs) u
      go (yes k) = upto_past u (length nbrs) k (starts_fit i (u + 1) k)
      go (no k) = upto_none starts nbrs u (length nbrs) (omega arith)

  pub upto_next : {u p : ℕ} → Holds starts u p
      → up_to starts nbrs u (p + 1) ≡ up_to starts nbrs u p ++ (get_or nbrs p 0 ∷ [])
  unfolding up_to
  upto_next {u} {p} h =
      let l = row_size i u h.inside in
      let j : p + 1 - get_or starts u 0 ≡ suc (p - get_or starts u 0) = omega arith in
      let q : get_or starts u 0 + (p - get_or starts u 0) ≡ p = omega arith in
      let b : p - get_or starts u 0 < length (block (cut starts nbrs) u) = omega arith in
      let e : target (cut starts nbrs) u (p - get_or starts u 0) ≡ get_or nbrs p 0 =
      row_neighbour i u h.inside (p - get_or starts u 0) b ∙ ap (λ k. get_or nbrs k 0) q in
      rw (j, ← e) (take-suc (block (cut starts nbrs) u) (p - get_or starts u 0) 0 b)

-- place p is in u's block, or leaves its part as it is
pub data Step (starts nbrs : List ℕ) (u p : ℕ) : Type 0 where
  inside : Holds starts u p → Step starts nbrs u p
  outside : up_to starts nbrs u (p + 1) ≡ up_to starts nbrs u p → Step starts nbrs u p

module _ {starts nbrs : List ℕ} (i : Divided starts nbrs) where
  pub step : (u p : ℕ) → Step starts nbrs u p
  step u p = go (dec_lt (u + 1) (length starts)) (dec_lt p (get_or starts u 0)) (dec_lt p (get_or starts (u + 1) 0))
    where
      go : Dec (u + 1 < length starts) → Dec (p < get_or starts u 0) → Dec (p < get_or starts (u + 1) 0)
          → Step starts nbrs u p
      go (no k) l h =
          outside (upto_none starts nbrs u (p + 1) (omega arith) ∙ sym (upto_none starts nbrs u p (omega arith)))
      go (yes k) (yes l) h =
          outside (upto_start starts nbrs u (p + 1) (omega arith) ∙ sym (upto_start starts nbrs u p (omega arith)))
      go (yes k) (no l) (yes h) = inside (record { inside = k; low = omega arith; high = h })
      go (yes k) (no l) (no h) = outside (upto_past i u (p + 1) k (omega arith) ∙ sym (upto_past i u p k (omega arith)))

  pub upto_other : {u w p : ℕ} → Holds starts w p → (u ≡ w → ⊥) → up_to starts nbrs u (p + 1) ≡ up_to starts nbrs u p
  upto_other {u} {w} {p} h n = go (step u p)
    where
      go : Step starts nbrs u p → up_to starts nbrs u (p + 1) ≡ up_to starts nbrs u p
      go (inside k) = absurd (n (one_block i k h))
      go (outside e) = e
