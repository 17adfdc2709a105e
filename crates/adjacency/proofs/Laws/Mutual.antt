-- Blocks turned round and found again keep rules 6 and 8.
use Prim.Native.Nat.{ℕ, ◌+◌, ◌-◌, ◌≤◌, ◌<◌}
use mathlib.Core.Path.{◌≡◌, sym, ◌∙◌, ap}
use mathlib.Core.Bool.{false, ◌||◌}
use mathlib.Core.List.{List}
use native.Mathlib.Omega.{arith}
use lib.Dec.{leb, eqb}
use lib.ListN.{length, get_or}
use borrow.Author.Tests.{lt-leb, eq-eqb, ne_eqb}
use Rattle.graph.specs.Graph.{block, mentions, Place}
use Rattle.graph.specs.Laws.Places.Mentions.{mention_found}
use Rattle.graph.specs.Laws.Places.Pairing.{source}
use Rattle.adjacency.specs.Arrays.{cut, up_to}
use Rattle.adjacency.specs.Places.{stray, one_sided}
use Rattle.adjacency.specs.Reverse.{Turning, TurnedBefore, Matching, Kept}
use Rattle.adjacency.specs.Laws.Anywhere.{nowhere}
use Rattle.adjacency.specs.Laws.Rows.{length_cut}
use Rattle.adjacency.proofs.Laws.Parts.{upto_past, upto_end}
use Rattle.adjacency.proofs.Laws.Counts.{count_part}
use Rattle.adjacency.proofs.Laws.Totals.{full}
use Rattle.adjacency.proofs.Laws.Turned.{turned_divided}

module _ {starts nbrs reverse next : List ℕ} (done : TurnedBefore starts nbrs reverse next (length starts - 1)) where
  pub turned_end : Turning starts nbrs reverse next (length starts - 1) (length nbrs)
  turned_end = rw done.turned.divided.last at done

  -- a part has w as often as w's block has the part's vertex
  pub turned_whole : (v : ℕ) → v + 1 < length starts → (w : ℕ)
      → mentions w (block (cut starts reverse) v) ≡ mentions v (block (cut starts nbrs) w)
  turned_whole v k w =
      let t = turned_end.turned in
      sym (ap (mentions w) (upto_past (turned_divided t) v (get_or next v 0) k (let e = full done v k in omega arith)))
      ∙ t.same v w k ∙ ap (mentions v) (upto_end t.divided w)

module _ {starts nbrs reverse next next' : List ℕ} (t : TurnedBefore starts nbrs reverse next (length starts - 1))
    (m : Matching starts reverse next' (length starts - 1)) where
  matched_le : (v : ℕ) → v + 1 < length starts → (w : ℕ)
      → mentions v (block (cut starts reverse) w) ≤ mentions w (block (cut starts reverse) v)
  matched_le v k w =
      let i = m.divided in
      let a = m.same v w k in
      let b = ap (λ (x : ℕ). mentions v (up_to starts reverse w x)) i.last ∙ ap (mentions v) (upto_end i w) in
      let c = count_part starts reverse v (get_or next' v 0) w in
      omega arith

  -- a neighbour of u is a vertex other than u, and the two mention each other equally often
  module _ {u j v : ℕ} (p : Place (cut starts nbrs) u j v) where
    from : u + 1 < length starts
    from = omega (arith, length_cut starts nbrs, source p)

    mentioned : 0 < mentions v (block (cut starts nbrs) u)
    mentioned = let a = (mention_found v (block (cut starts nbrs) u) j p.fits p.leads).counted in omega arith

    other : (v + 1 < length starts) × (v ≡ u → ⊥)
    other =
        (turned_end t).others u v
        (omega (arith, ap (mentions v) (upto_end t.turned.divided u), mentioned))

    equal : mentions v (block (cut starts nbrs) u) ≡ mentions u (block (cut starts nbrs) v)
    equal =
        let k = other.0 in
        let h = from in
        let a = turned_whole t v k u in
        let b = turned_whole t u h v in
        let c = matched_le v k u in
        let d = matched_le u h v in
        omega arith

  pub mutual_kept : Kept (cut starts nbrs)
  unfolding stray one_sided
  mutual_kept =
      let g = cut starts nbrs in
      record {
        no_stray = (nowhere (stray g) g).1 (λ u j v p. six p);
        no_one_sided =
            (nowhere (one_sided g) g).1
            (λ u j v p. rw (eq-eqb (mentions v (block g u)) (mentions u (block g v)) (equal p)));
      }
    where
      six : {u j v : ℕ} → Place (cut starts nbrs) u j v → (leb (length (cut starts nbrs)) v || eqb v u) ≡ false
      six {u} {j} {v} p =
          let a = length_cut starts nbrs in
          let k = (other p).0 in
          rw (lt-leb (length (cut starts nbrs)) v (omega arith), ne_eqb v u (other p).1)
