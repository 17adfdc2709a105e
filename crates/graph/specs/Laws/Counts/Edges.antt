-- Wires, counted at their lower end.
--   edges_same     marks that agree at all places are at as many wires
--   two_places     a mark at both ends of a wire or at neither stands twice for each wire
--   all_edges      there are half as many wires as places
--   neither_twin   a mark is at neither end, as seen from the one end and from the other
--   edges_neither  marks that agree at all places are at neither end of as many wires
use Prim.Native.Nat.{ℕ, ◌+◌, ◌*◌, ◌≤◌, ◌<◌}
use Rattle.std.specs.Prelude.{◌≡◌, refl, ltb, length}
use Rattle.std.proofs.Common.{ap, lt-ltb, le-ltb}
use Rattle.std.proofs.Math.Bool.{not, or_comm}
use mathlib.Core.List.{flatten}
use native.Mathlib.Omega.{arith}
use Rattle.std.proofs.Math.Decide.{dec_lt}
use Rattle.graph.specs.Graph.{Blocks, target, Place, twin, WellFormed}
use Rattle.graph.specs.Search.{PlaceTest, all}
use Rattle.graph.specs.Counts.{when, count_places, count_edges, at_neither}
use Rattle.graph.specs.Laws.Places.Pairing.{place_at, twin_place, twin_twin}
use Rattle.graph.specs.Laws.Counts.Places.{over_same, over_add, over_twin, over_places}

pub edges_same : {g : Blocks} {mark mark' : PlaceTest} → ((u j v : ℕ) → Place g u j v → mark u j ≡ mark' u j)
    → count_edges g mark ≡ count_edges g mark'
unfolding count_edges
edges_same {g} same = over_same g (λ u j l k.
    ap (λ b. when (ltb u (target g u j)) (when b 1)) (same u j (target g u j) (place_at k)))

module _ {g : Blocks} (wf : WellFormed g) where
  pub two_places : (q : PlaceTest) → ((u j v : ℕ) → Place g u j v → q v (twin g u j) ≡ q u j)
      → count_places g q ≡ 2 * count_edges g q
  unfolding count_places count_edges
  two_places q both =
      let a = over_same g (λ u j l k. split u j (place_at k) (dec_lt u (target g u j)) (dec_lt (target g u j) u)) in
      let b = over_add g f (λ u j. f (target g u j) (twin g u j)) in
      let c = over_twin wf f in
      omega arith
    where
      f : ℕ → ℕ → ℕ
      f u j = when (ltb u (target g u j)) (when (q u j) 1)

      split : (u j : ℕ) → Place g u j (target g u j) → Dec (u < target g u j) → Dec (target g u j < u)
          → when (q u j) 1 ≡ f u j + f (target g u j) (twin g u j)
      split u j p (yes l) d =
          let h : u ≤ target g u j = omega arith in
          rw ((twin_place wf p).leads, lt-ltb u (target g u j) l, le-ltb (target g u j) u h) (omega arith)
      split u j p (no l) (yes d) =
          let h : target g u j ≤ u = omega arith in
          rw (
            (twin_place wf p).leads,
            lt-ltb (target g u j) u d,
            le-ltb u (target g u j) h,
            both u j (target g u j) p,
          ) (omega arith)
      split u j p (no l) (no d) =
          let e : target g u j ≡ u = omega arith in
          absurd (wf.no_loop u j (record { fits = p.fits; leads = e }))

  pub all_edges : (m : ℕ) → length (flatten g) ≡ 2 * m → count_edges g all ≡ m
  unfolding count_places
  all_edges m e = omega (arith, two_places all (λ u j v p. refl), over_places g)

  pub neither_twin : (mark : PlaceTest) (u j v : ℕ) → Place g u j v
      → at_neither g mark v (twin g u j) ≡ at_neither g mark u j
  unfolding at_neither
  neither_twin mark u j v p =
      rw ((twin_place wf p).leads, twin_twin wf p, p.leads) (ap not (or_comm (mark v (twin g u j)) (mark u j)))

  -- ---- marks that agree at all places

  module _ {mark mark' : PlaceTest} (same : (u j v : ℕ) → Place g u j v → mark u j ≡ mark' u j) where
    neither_same : (u j v : ℕ) → Place g u j v → at_neither g mark u j ≡ at_neither g mark' u j
    unfolding at_neither
    neither_same u j v p =
        rw (p.leads, same u j v p, same v (twin g u j) u (twin_place wf p))

  pub edges_neither : {mark mark' : PlaceTest} → ((u j v : ℕ) → Place g u j v → mark u j ≡ mark' u j)
      → count_edges g (at_neither g mark) ≡ count_edges g (at_neither g mark')
  edges_neither same = edges_same (neither_same same)
