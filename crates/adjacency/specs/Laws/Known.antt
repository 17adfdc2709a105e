-- Where no neighbour is stray, each number of the row is a vertex.
use Rattle.std.specs.Prelude.{◌≡◌, refl, false, ℕ, zero, suc, ◌+◌, ◌-◌, ◌<◌, leb, eqb, length, get_or}
use Rattle.std.proofs.Common.{ap, ◌∙◌, arith, leb-false, length-append, get_or-append-add}
use mathlib.Core.List.{List, [], ◌∷◌, ◌++◌, flatten}
use Rattle.std.proofs.Math.Decide.{dec_lt}
use Rattle.std.proofs.Math.ListN.{get_or-append}
use Rattle.graph.specs.Graph.{Blocks, Place}
use Rattle.adjacency.specs.Arrays.{cut, Divided, Arrays}
use Rattle.adjacency.specs.Places.{any_place, stray}
use Rattle.adjacency.specs.Laws.Anywhere.{neither, nowhere}
use Rattle.adjacency.specs.Laws.Rows.{length_cut, flatten_cut}

-- ---- the blocks' numbers in one list

pub flatten_below : {k : ℕ} (g : Blocks) → 0 < k → ((u j v : ℕ) → Place g u j v → v < k) → (p : ℕ)
    → get_or (flatten g) p 0 < k
unfolding flatten
flatten_below [] some h p = some
flatten_below {k} (b ∷ g) some h p =
    go (dec_lt p (length b))
    (flatten_below g some (λ u j v q. h (suc u) j v (record { fits = q.fits; leads = q.leads })) (p - length b))
  where
    go : Dec (p < length b) → get_or (flatten g) (p - length b) 0 < k → get_or (b ++ flatten g) p 0 < k
    go (yes l) r = rw (get_or-append b (flatten g) 0 p l) (h 0 p (get_or b p 0) (record { fits = l; leads = refl }))
    go (no l) r =
        let e : p ≡ length b + (p - length b) = omega arith in
        let f : get_or (b ++ flatten g) p 0 ≡ get_or (flatten g) (p - length b) 0 =
        ap (λ (i : ℕ). get_or (b ++ flatten g) i 0) e ∙ get_or-append-add b (flatten g) (p - length b) 0 in
        rw f r

-- and the other way round: what stands at a place of the blocks stands in the list
pub places_below : {k : ℕ} (g : Blocks) → ((p : ℕ) → p < length (flatten g) → get_or (flatten g) p 0 < k) → (u j v : ℕ)
    → Place g u j v → v < k
unfolding flatten
places_below [] h u j v q = absurd (let f = q.fits in omega arith)
places_below (b ∷ g) h zero j v q =
    let a = length-append b (flatten g) in
    let f = q.fits in
    let e = get_or-append b (flatten g) 0 j f in
    let r = h j (omega arith) in
    omega (arith, q.leads)
places_below (b ∷ g) h (suc u) j v q =
    let a = length-append b (flatten g) in
    places_below g (λ p l. rw (← get_or-append-add b (flatten g) p 0) (h (length b + p) (omega arith))) u j v
    (record { fits = q.fits; leads = q.leads })

not_stray : (g : Blocks) (u v : ℕ) → stray g u v ≡ false → v < length g
unfolding stray
not_stray g u v e = leb-false (length g) v (neither (leb (length g) v) (eqb v u) e).0

-- each neighbour is a vertex
pub all_known : (g : Blocks) → any_place (stray g) g ≡ false → (p : ℕ) → p < length (flatten g)
    → get_or (flatten g) p 0 < length g
unfolding flatten
all_known [] e p h = absurd (omega arith)
all_known (b ∷ g) e p h =
    flatten_below (b ∷ g) (omega arith)
    (λ u j v q. not_stray (b ∷ g) u v ((nowhere (stray (b ∷ g)) (b ∷ g)).0 e u j v q)) p

-- a graph in two arrays without a stray neighbour
pub arrays_kept : {starts nbrs : List ℕ} → Divided starts nbrs
    → any_place (stray (cut starts nbrs)) (cut starts nbrs) ≡ false
    → Arrays starts nbrs
arrays_kept {starts} {nbrs} d e = record {
  divided = d;
  known = λ p h. (
      let f = flatten_cut d in
      let l = length_cut starts nbrs in
      let s = d.some in
      let a = ap length f in
      let b = ap (λ (x : List ℕ). get_or x p 0) f in
      let k = all_known (cut starts nbrs) e p (omega arith) in
      omega arith
      );
}
