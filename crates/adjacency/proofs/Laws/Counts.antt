-- How often a vertex stands in a block before a place.
use Prim.Native.Nat.{ℕ, zero, suc, ◌+◌, ◌-◌, ◌≤◌, ◌<◌}
use mathlib.Core.Path.{◌≡◌, sym, ◌∙◌, ap}
use mathlib.Core.List.{List, [], ◌∷◌}
use native.Mathlib.Omega.{arith}
use lib.ListN.{length, get_or, take, drop, take-append-drop}
use Rattle.graph.specs.Graph.{block, mentions}
use Rattle.adjacency.specs.Arrays.{cut, Divided, Holds, up_to}
use Rattle.adjacency.proofs.Laws.Mentions.{mentions_append, one_hit, one_miss}
use Rattle.adjacency.proofs.Laws.Parts.{Step, inside, outside, step, upto_start, upto_next}

module _ (starts nbrs : List ℕ) (u p v : ℕ) where
  pub count_start : p ≤ get_or starts u 0 → mentions v (up_to starts nbrs u p) ≡ 0
  unfolding mentions
  count_start h = ap (mentions v) (upto_start starts nbrs u p h)

  pub count_part : mentions v (up_to starts nbrs u p) ≤ mentions v (block (cut starts nbrs) u)
  unfolding up_to
  count_part =
      let k : ℕ = p - get_or starts u 0 in
      let b : List ℕ = block (cut starts nbrs) u in
      let e = ap (mentions v) (sym (take-append-drop k b)) ∙ mentions_append v (take k b) (drop k b) in
      omega arith

module _ {starts nbrs : List ℕ} (i : Divided starts nbrs) (u p v : ℕ) where
  count_next : Holds starts u p
      → mentions v (up_to starts nbrs u (p + 1))
      ≡ mentions v (up_to starts nbrs u p) + mentions v (get_or nbrs p 0 ∷ [])
  count_next h = ap (mentions v) (upto_next i h) ∙ mentions_append v (up_to starts nbrs u p) (get_or nbrs p 0 ∷ [])

  pub count_hit : Holds starts u p → v ≡ get_or nbrs p 0
      → mentions v (up_to starts nbrs u (p + 1)) ≡ mentions v (up_to starts nbrs u p) + 1
  count_hit h e = omega (arith, count_next h, one_hit v (get_or nbrs p 0) e)

  -- so the block has v once more from p on
  pub count_more : Holds starts u p → v ≡ get_or nbrs p 0
      → mentions v (up_to starts nbrs u p) + 1 ≤ mentions v (block (cut starts nbrs) u)
  count_more h e = omega (arith, count_hit h e, count_part starts nbrs u (p + 1) v)

  pub count_miss : (v ≡ get_or nbrs p 0 → ⊥)
      → mentions v (up_to starts nbrs u (p + 1)) ≡ mentions v (up_to starts nbrs u p)
  count_miss n = go (step i u p)
    where
      go : Step starts nbrs u p → mentions v (up_to starts nbrs u (p + 1)) ≡ mentions v (up_to starts nbrs u p)
      go (inside h) = omega (arith, count_next h, one_miss v (get_or nbrs p 0) n)
      go (outside e) = ap (mentions v) e

-- parts of two rows that have the same numbers before a place
module _ {starts a b : List ℕ} (i : Divided starts a) (j : Divided starts b) (v w : ℕ) (k : v + 1 < length starts) where
  agree_by : (d : ℕ) → get_or starts v 0 + d ≤ get_or starts (v + 1) 0
      → ((q : ℕ) → get_or starts v 0 ≤ q → q < get_or starts v 0 + d → get_or a q 0 ≡ get_or b q 0)
      → mentions w (up_to starts a v (get_or starts v 0 + d)) ≡ mentions w (up_to starts b v (get_or starts v 0 + d))
  agree_by zero h e =
      count_start starts a v (get_or starts v 0 + 0) w (omega arith)
      ∙ sym (count_start starts b v (get_or starts v 0 + 0) w (omega arith))
  agree_by (suc d) h e =
      let z : get_or starts v 0 + suc d ≡ get_or starts v 0 + d + 1 = omega arith in
      let o : Holds starts v (get_or starts v 0 + d) = record { inside = k; low = omega arith; high = omega arith } in
      let r = agree_by d (omega arith) (λ q l m. e q l (omega arith)) in
      let x = count_next i v (get_or starts v 0 + d) w o in
      let y = count_next j v (get_or starts v 0 + d) w o in
      let c = ap (λ (n : ℕ). mentions w (n ∷ [])) (e (get_or starts v 0 + d) (omega arith) (omega arith)) in
      rw z (omega arith)

  pub count_agree : {p : ℕ} → get_or starts v 0 ≤ p → p ≤ get_or starts (v + 1) 0
      → ((q : ℕ) → get_or starts v 0 ≤ q → q < p → get_or a q 0 ≡ get_or b q 0)
      → mentions w (up_to starts a v p) ≡ mentions w (up_to starts b v p)
  count_agree {p} l h e =
      let z : get_or starts v 0 + (p - get_or starts v 0) ≡ p = omega arith in
      rw z at (agree_by (p - get_or starts v 0) (omega arith) (λ q x y. e q x (omega arith)))
