-- The blocks of a graph in two arrays: where each lies in the row, and what stands in it.
--   length_cut     a part for each start but the last
--   cut_block      the part between a start and the next
--   no_block       the empty part of what is no vertex
--   starts_mono    the starts rise
--   starts_fit     no start is past the row
--   one_block      a place is in one block
--   divided_too    a row of the same length is divided by the same starts
--   row_size       a block reaches from its start to the next
--   row_neighbour  the neighbour at a position of a block
--   place_at       a place of a block is a place of the graph, and the other way round (place_held)
--   place_known    what a block mentions is a vertex
--   flatten_cut    the blocks in a row are the row
use Rattle.std.specs.Prelude.{ℕ, zero, suc, ◌+◌, ◌-◌, ◌≤◌, ◌<◌, ◌≡◌, refl, length, get_or, take, drop}
use Rattle.std.proofs.Common.{sym, ◌∙◌, ap, ap₂, arith, length-drop, length-take-le, get_or-take, get_or-drop}
use Rattle.std.proofs.Common.{drop-drop, take-add, take_all}
use mathlib.Core.List.{List, [], ◌∷◌, ◌++◌, flatten}
use Rattle.std.proofs.Math.Decide.{dec_lt}
use Rattle.std.proofs.Math.ListN.{get_or-eq_default}
use Rattle.graph.specs.Graph.{block, target, Place}
use Rattle.graph.specs.Laws.Places.Pairing.{source}
use Rattle.adjacency.specs.Arrays.{cut, Divided, Arrays, Holds}

-- ---- the parts between the starts

pub length_cut : (starts l : List ℕ) → length (cut starts l) ≡ length starts - 1
unfolding cut
length_cut [] l = refl
length_cut (a ∷ []) l = refl
length_cut (a ∷ b ∷ starts) l = let e = length_cut (b ∷ starts) l in omega arith

pub cut_block : (starts l : List ℕ) (u : ℕ) → u + 1 < length starts
    → block (cut starts l) u ≡ take (get_or starts (u + 1) 0 - get_or starts u 0) (drop (get_or starts u 0) l)
unfolding cut
cut_block [] l u h = absurd (omega arith)
cut_block (a ∷ []) l u h = absurd (omega arith)
cut_block (a ∷ b ∷ starts) l zero h = refl
cut_block (a ∷ b ∷ starts) l (suc u) h =
    let e : suc u + 1 ≡ suc (u + 1) = omega arith in
    rw e (cut_block (b ∷ starts) l u (omega arith))

-- what is no vertex has none
pub no_block : (starts l : List ℕ) (u : ℕ) → length starts ≤ u + 1 → block (cut starts l) u ≡ []
no_block starts l u h = let e = length_cut starts l in get_or-eq_default (cut starts l) [] {n = u} (omega arith)

-- ---- the starts rise

module _ {starts nbrs : List ℕ} (i : Divided starts nbrs) where
  starts_add : (u d : ℕ) → u + d < length starts → get_or starts u 0 ≤ get_or starts (u + d) 0
  starts_add u zero h = let z : u + 0 ≡ u = omega arith in rw z (omega arith)
  starts_add u (suc d) h =
      let z : u + suc d ≡ u + d + 1 = omega arith in
      let a = starts_add u d (omega arith) in
      let b = i.rising (u + d) (omega arith) in
      rw z (omega arith)

  pub starts_mono : (u w : ℕ) → u ≤ w → w < length starts → get_or starts u 0 ≤ get_or starts w 0
  starts_mono u w l h = let z : u + (w - u) ≡ w = omega arith in rw z at (starts_add u (w - u) (omega arith))

  pub starts_fit : (u : ℕ) → u < length starts → get_or starts u 0 ≤ length nbrs
  starts_fit u h = rw (← i.last) (starts_mono u (length starts - 1) (omega arith) (let s = i.some in omega arith))

  -- a place is in one block
  pub one_block : {u w p : ℕ} → Holds starts u p → Holds starts w p → u ≡ w
  one_block {u} {w} a b = go (dec_lt u w) (dec_lt w u)
    where
      go : Dec (u < w) → Dec (w < u) → u ≡ w
      go (yes l) d = absurd (omega (arith, starts_mono (u + 1) w (omega arith) (omega arith)))
      go (no l) (yes d) = absurd (omega (arith, starts_mono (w + 1) u (omega arith) (omega arith)))
      go (no l) (no d) = omega arith

-- a row of the same length is divided by the same starts
pub divided_too : {starts nbrs other : List ℕ} → Divided starts nbrs → length other ≡ length nbrs → Divided starts other
divided_too i e = record {
  some = i.some;
  first = i.first;
  rising = i.rising;
  last = i.last ∙ sym e;
  few_blocks = i.few_blocks;
  few_places = let f = i.few_places in omega arith;
}

-- ---- blocks

module _ {starts nbrs : List ℕ} (i : Divided starts nbrs) (u : ℕ) (k : u + 1 < length starts) where
  block_is : block (cut starts nbrs) u ≡ take (get_or starts (u + 1) 0 - get_or starts u 0) (drop (get_or starts u 0) nbrs)
  block_is = cut_block starts nbrs u k

  pub row_size : length (block (cut starts nbrs) u) ≡ get_or starts (u + 1) 0 - get_or starts u 0
  row_size =
      let f = starts_fit i (u + 1) k in
      ap length block_is ∙ length-take-le (get_or starts (u + 1) 0 - get_or starts u 0) (drop (get_or starts u 0) nbrs)
      (simp length-drop (omega arith))

  pub row_neighbour : (j : ℕ) → j < length (block (cut starts nbrs) u)
      → target (cut starts nbrs) u j ≡ get_or nbrs (get_or starts u 0 + j) 0
  row_neighbour j h =
      let l = row_size in
      ap (λ b. get_or b j 0) block_is
      ∙ get_or-take (get_or starts (u + 1) 0 - get_or starts u 0) (drop (get_or starts u 0) nbrs) j 0 (omega arith)
      ∙ get_or-drop (get_or starts u 0) nbrs j 0

-- a place of a block is a place of the graph, and the other way round
module _ {starts nbrs : List ℕ} (i : Divided starts nbrs) where
  pub place_at : {u p v : ℕ} → Holds starts u p → v ≡ get_or nbrs p 0 → Place (cut starts nbrs) u (p - get_or starts u 0) v
  place_at {u} {p} h e =
      let l = row_size i u h.inside in
      let z : get_or starts u 0 + (p - get_or starts u 0) ≡ p = omega arith in
      record {
        fits = omega arith;
        leads =
            row_neighbour i u h.inside (p - get_or starts u 0) (omega arith) ∙ ap (λ (x : ℕ). get_or nbrs x 0) z ∙ sym e;
      }

  pub place_held : {u j v : ℕ} → Place (cut starts nbrs) u j v
      → (Holds starts u (get_or starts u 0 + j)) × (v ≡ get_or nbrs (get_or starts u 0 + j) 0)
  place_held {u} {j} p =
      let c = length_cut starts nbrs in
      let k : u + 1 < length starts = omega (arith, source p) in
      let a = p.fits in
      let b = row_size i u k in
      (record { inside = k; low = omega arith; high = omega arith }, sym p.leads ∙ row_neighbour i u k j a)

-- what a block mentions is a vertex
pub place_known : {starts nbrs : List ℕ} {u j v : ℕ} → Arrays starts nbrs → Place (cut starts nbrs) u j v
    → v + 1 < length starts
place_known {starts} {nbrs} {u} {j} a p =
    let (h, e) = place_held a.divided p in
    let f = starts_fit a.divided (u + 1) h.inside in
    rw e (a.known (get_or starts u 0 + j) (let k = h.high in omega arith))

-- ---- the blocks in a row

abbrev Rise : List ℕ → Type 0
Rise s = (u : ℕ) → u + 1 < length s → get_or s u 0 ≤ get_or s (u + 1) 0

rise_tail : (a : ℕ) (s : List ℕ) → Rise (a ∷ s) → Rise s
rise_tail a s r u h =
    let e : suc u + 1 ≡ suc (u + 1) = omega arith in
    rw e at (r (suc u) (omega arith))

rise_last : (a : ℕ) (s : List ℕ) → Rise (a ∷ s) → a ≤ get_or (a ∷ s) (length s) 0
rise_last a [] r = omega arith
rise_last a (b ∷ s) r = omega (arith, rise_last b s (rise_tail a (b ∷ s) r), r 0 (omega arith))

flatten_from : (a : ℕ) (s l : List ℕ) → Rise (a ∷ s)
    → flatten (cut (a ∷ s) l) ≡ take (get_or (a ∷ s) (length s) 0 - a) (drop a l)
unfolding cut flatten
flatten_from a [] l r = let e : a - a ≡ 0 = omega arith in rw e
flatten_from a (b ∷ s) l r =
    let z : ℕ = get_or (b ∷ s) (length s) 0 in
    let h = r 0 (omega arith) in
    let k = rise_last b s (rise_tail a (b ∷ s) r) in
    let e : a + (b - a) ≡ b = omega arith in
    let f : z - a ≡ (b - a) + (z - b) = omega arith in
    let d : drop b l ≡ drop (b - a) (drop a l) = sym (drop-drop (b - a) a l ∙ ap (λ (x : ℕ). drop x l) e) in
    ap (λ (x : List ℕ). take (b - a) (drop a l) ++ x) (flatten_from b s l (rise_tail a (b ∷ s) r) ∙ ap (take (z - b)) d)
    ∙ sym (ap (λ (x : ℕ). take x (drop a l)) f ∙ take-add (b - a) (z - b) (drop a l))

pub flatten_cut : {starts nbrs : List ℕ} → Divided starts nbrs → flatten (cut starts nbrs) ≡ nbrs
flatten_cut {starts} {nbrs} i = go starts i.some i.first i.rising i.last
  where
    go : (s : List ℕ) → 0 < length s → get_or s 0 0 ≡ 0 → Rise s → get_or s (length s - 1) 0 ≡ length nbrs
        → flatten (cut s nbrs) ≡ nbrs
    go [] h f r e = absurd (omega arith)
    go (a ∷ s) h f r e =
        let l : length (a ∷ s) - 1 ≡ length s = omega arith in
        let z : get_or (a ∷ s) (length s) 0 ≡ length nbrs = ap (λ (k : ℕ). get_or (a ∷ s) k 0) (sym l) ∙ e in
        flatten_from a s nbrs r
        ∙ ap₂ (λ (x y : ℕ). take (x - y) (drop y nbrs)) z f
        ∙ take_all (length nbrs - 0) nbrs (omega arith)
