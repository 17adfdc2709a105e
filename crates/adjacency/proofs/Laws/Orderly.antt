-- A graph that keeps rules 6 and 8 passes every test: no part is full too early, and the parts turned round again are
-- their own.
use Prim.Native.Nat.{ℕ, zero, suc, ◌+◌, ◌-◌, ◌≤◌, ◌<◌}
use mathlib.Core.Path.{◌≡◌, refl, sym, ◌∙◌, ap}
use mathlib.Core.List.{List}
use native.Mathlib.Omega.{arith}
use native.Mathlib.Decide.{dec_lt}
use lib.ListN.{length, get_or}
use Rattle.graph.specs.Graph.{Blocks, block, mentions, WellFormed}
use Rattle.adjacency.specs.Arrays.{cut, Divided, Holds, up_to}
use Rattle.adjacency.specs.Reverse.{Turned, TurnedBefore, Kept, Orderly}
use Rattle.adjacency.specs.Laws.Rows.{length_cut, starts_mono, place_at}
use Rattle.adjacency.specs.Laws.Kept.{well_formed}
use Rattle.adjacency.proofs.Laws.Parts.{upto_past}
use Rattle.adjacency.proofs.Laws.Counts.{count_more, count_miss}
use Rattle.adjacency.proofs.Laws.Totals.{full}
use Rattle.adjacency.proofs.Laws.Mutual.{turned_whole}
use Rattle.adjacency.proofs.Laws.Reversed.{not_full, turned_back}

-- ---- the graph

well : {g : Blocks} → Kept g → WellFormed g
well {g} k = well_formed g k.no_stray k.no_one_sided

-- place p of block u
module _ {starts nbrs : List ℕ} (i : Divided starts nbrs) {u p : ℕ} (h : Holds starts u p) {v : ℕ}
    (is-v : v ≡ get_or nbrs p 0) where
  pub no_vertex : Kept (cut starts nbrs) → length starts - 1 ≤ v → ⊥
  no_vertex k l = omega (arith, (well k).in_range u _ v (place_at i h is-v), length_cut starts nbrs)

  pub no_own : Kept (cut starts nbrs) → v ≡ u → ⊥
  no_own k e = (well k).no_loop u (p - get_or starts u 0) (rw e at (place_at i h is-v))

-- where the rules are kept, the part of the neighbour at p is not full
pub full_refused : {starts nbrs reverse next : List ℕ} {p : ℕ} → Turned starts nbrs reverse next p → {u : ℕ}
    → Holds starts u p → {v : ℕ} → v ≡ get_or nbrs p 0 → v + 1 < length starts → Kept (cut starts nbrs)
    → {q : ℕ} → q ≡ get_or next v 0 → q ≡ get_or starts (v + 1) 0 → ⊥
full_refused {nbrs = nbrs} t h {v} is-v k b is-q e = not_full t h is-v k nbrs refl ((well b).balanced v) (sym is-q ∙ e)

module _ {starts nbrs reverse next : List ℕ} (done : TurnedBefore starts nbrs reverse next (length starts - 1))
    (k : Kept (cut starts nbrs)) where
  -- the parts are balanced as the blocks are
  pub orderly : Orderly starts reverse
  orderly = record { balanced = balanced; rising = rising }
    where
      balanced : (v w : ℕ) → v + 1 < length starts
          → mentions w (block (cut starts reverse) v) ≡ mentions v (block (cut starts reverse) w)
      balanced v w h = turned_whole done v h w ∙ (well k).balanced w v ∙ turned_back done v w h

      rising : (v q : ℕ) → Holds starts v q → Holds starts v (q + 1) → get_or reverse q 0 ≤ get_or reverse (q + 1) 0
      rising v q a b = let e = full done v a.inside in done.rising v q a (omega arith)

-- ---- the parts turned round once more

module _ {starts reverse next : List ℕ} {p : ℕ} (t : Turned starts reverse reverse next p) (o : Orderly starts reverse)
    {u : ℕ}
    (h : Holds starts u p) {w : ℕ} (is-w : w ≡ get_or reverse p 0) where
  -- part u has w once more from place p on
  more : mentions w (up_to starts reverse u p) + 1 ≤ mentions w (block (cut starts reverse) u)
  more = count_more t.divided u p w h is-w

  module _ (k : w + 1 < length starts) {q : ℕ} (is-q : q ≡ get_or next w 0)
      (free : q ≡ get_or starts (w + 1) 0 → ⊥) where
    at : Holds starts w q
    at = let n = t.near w k in record { inside = k; low = omega arith; high = omega arith }

    -- a vertex before u is passed wherever it stands
    not_before : get_or reverse q 0 < u → ⊥
    not_before l =
        let x : ℕ = get_or reverse q 0 in
        let s = starts_mono t.divided (x + 1) u (omega arith) (omega (arith, h.inside)) in
        let a = t.same w x k in
        let b = ap (mentions w)
        (upto_past t.divided x p (omega (arith, h.inside)) (omega (arith, h.low))) in
        let c = ap (λ (y : ℕ). mentions x (up_to starts reverse w y)) is-q in
        let d = count_more t.divided w q x at refl in
        let f = o.balanced w x k in
        omega arith

    -- past a greater vertex u is not found again
    beyond : u < get_or reverse q 0 → (d : ℕ) → Holds starts w (q + d)
        → (u < get_or reverse (q + d) 0)
        × (mentions u (up_to starts reverse w (q + d + 1)) ≡ mentions u (up_to starts reverse w q))
    beyond l zero a =
        let z : q + 0 ≡ q = omega arith in
        rw z (l, count_miss t.divided w q u (λ e. omega arith))
    beyond l (suc d) a =
        let z : q + suc d ≡ q + d + 1 = omega arith in
        let b : Holds starts w (q + d) =
        record { inside = k; low = omega (arith, at.low); high = omega (arith, a.high) } in
        let r = beyond l d b in
        let s = o.rising w (q + d) b (rw z at a) in
        rw z (omega arith, count_miss t.divided w (q + d + 1) u (λ e. (let i = r.0 in omega arith)) ∙ r.1)

    not_after : u < get_or reverse q 0 → ⊥
    not_after l =
        let d : ℕ = get_or starts (w + 1) 0 - 1 - q in
        let a = at in
        let r = beyond l d (record { inside = k; low = omega arith; high = omega arith }) in
        let z = ap (mentions u) (upto_past t.divided w (q + d + 1) k (omega arith)) in
        let b = t.same w u k in
        let c = ap (λ (y : ℕ). mentions u (up_to starts reverse w y)) is-q in
        let e = o.balanced w u k in
        let m = more in
        let s = r.1 in
        omega arith

    pub next_is : get_or reverse q 0 ≡ u
    next_is = go (dec_lt (get_or reverse q 0) u) (dec_lt u (get_or reverse q 0))
      where
        go : Dec (get_or reverse q 0 < u) → Dec (u < get_or reverse q 0) → get_or reverse q 0 ≡ u
        go (yes l) d = absurd (not_before l)
        go (no l) (yes d) = absurd (not_after d)
        go (no l) (no d) = omega arith
