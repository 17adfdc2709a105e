-- One step of the search over the work slice: a start is tried, or the vertex at hand goes on.
--   new_room                     there is room for a vertex that is not visited
--   start_passed, start_entered  the start is visited, or it is not
--   hand_vertex                  the vertex at hand is a vertex
--   next_fits                    what its next place leads to is a vertex, and there is room for it
--   next_left, next_entered      all that it leads to is visited, or it is not
use mathlib.Core.Path.{◌≡◌, refl, ap, ◌∙◌}
use mathlib.Core.List.{List, ◌∷◌}
use Prim.Native.Nat.{ℕ, suc, ◌+◌, ◌-◌, ◌*◌, ◌≤◌, ◌<◌}
use native.Mathlib.Numerals.{add-one}
use native.Mathlib.Omega.{arith}
use lib.ListN.{length, get_or, set}
use Rattle.graph.specs.Graph.{Blocks, block, Place}
use Rattle.graph.specs.Search.{all, search}
use Rattle.graph.specs.Laws.Loop.Invariant.{Loop, loop_room, loop_vertex, loop_visited, loop_pass_start}
use Rattle.graph.specs.Laws.Loop.Invariant.{loop_enter_start, Visited, loop_leave, loop_enter_at}
use Rattle.adjacency.specs.Laws.Rows.{starts_fit}
use Rattle.forest.specs.Laws.Starts.{start_cut}
use Rattle.forest.specs.Steps.{down_bit, cells_of, Tied, Searching, Entering, AllVisited, PassedTo}
use Rattle.forest.specs.Graphs.{held, SearchingIn}
use Rattle.forest.specs.declared.graphs.Graph.{Graph}
use Rattle.forest.proofs.Laws.Graphs.{many, in_range, row_end, row_place, place_row}
use Rattle.forest.proofs.Laws.Stores.{Put, put_other, changed, stored_changed}
use Rattle.forest.proofs.Laws.Tied.{tied_next, tied_enter, enters}

searching : {g : Blocks} {roots todo starts : List ℕ} {n s : ℕ} {work : List ℕ} {left cur k : ℕ}
    {next_of slot_of : ℕ → ℕ} → Tied g starts n s work next_of slot_of
    → Loop g (search g all roots) left todo cur k (cells_of s next_of slot_of work)
    → Searching g roots todo starts n s work left cur k
searching t l = record { next_of = _; slot_of = _; tied = t; loop = l }

pub new_room : {g : Blocks} {roots todo starts : List ℕ} {n s : ℕ} {work : List ℕ} {left cur k v : ℕ}
    → Searching g roots todo starts n s work left cur k → length g ≡ n → v < n → get_or work (2 * s + v) 0 ≡ 0 → k < n
new_room {v = v} t size h z = let r = loop_room t.loop {x = v} (omega arith) z in omega arith

-- ---- no vertex is at hand

module _ (g : Graph) {roots todo work : List ℕ} {left v k : ℕ} (t : SearchingIn g roots (v ∷ todo) work left 0 k)
    (h : v < g.n) where
  pub start_passed : (get_or work (2 * g.s + v) 0 ≡ 0 → ⊥) → SearchingIn g roots todo work (left - 1) 0 k
  start_passed d = let size = many g in searching t.tied (loop_pass_start t.loop (omega arith) d)

  pub start_entered : {next : List ℕ} → get_or work (2 * g.s + v) 0 ≡ 0 → Entering g.n g.s work next v k 0 0
      → SearchingIn g roots todo next (left - 1) (v + 1) (k + 1)
  unfolding down_bit
  start_entered {next} z e =
      let size = many g in
      let c = enters {n = g.n} 0 work t.next_of t.next_of t.slot_of (λ i l. refl) e (t.tied.fresh v h z) in
      rw (add-one v, add-one k)
      (searching (tied_enter t.tied 0 e refl) (loop_enter_start t.loop (omega arith) z (rw size c)))

-- ---- vertex u is at hand

module _ (g : Graph) {roots todo work : List ℕ} {left u k : ℕ} (t : SearchingIn g roots todo work left (suc u) k) where
  pub hand_vertex : u < g.n
  hand_vertex = omega (arith, many g, loop_vertex t.loop)

  module _ {from end : ℕ} (is-from : from ≡ get_or work u 0) (is-end : end ≡ get_or g.starts.now (u + 1) 0) where
    -- the place from which the passing begins
    from_next : from ≡ get_or g.starts.now u 0 + t.next_of u
    from_next = is-from ∙ t.tied.nexts u hand_vertex

    passed : {p : ℕ} → AllVisited g.nbrs.now g.s work from p → (j : ℕ) → get_or g.starts.now u 0 + j ≤ p
        → Visited (held g) (cells_of g.s t.next_of t.slot_of work) u (t.next_of u) j
    passed d j m x v l h q z =
        let f = from_next in
        d (get_or g.starts.now u 0 + x) (omega arith) (omega arith)
        (ap (λ y. get_or work (2 * g.s + y) 0) (place_row g.arrays g.sized hand_vertex q) ∙ z)

    pub next_left : {p q : ℕ} → PassedTo g.nbrs.now g.s work from end p → end ≤ p → q ≡ get_or work (g.s + u) 0
        → SearchingIn g roots todo work (left - 1) q k
    next_left d m e =
        let b = row_end g.arrays g.sized hand_vertex in
        rw e (searching t.tied
        (loop_leave t.loop (in_range g.arrays) (passed d.visited (length (block (held g) u)) (omega arith))))

    pub place_fits : {p : ℕ} → p < end → (p < length g.nbrs.now) × (p + u + 1 < 65536)
    place_fits h =
        let f = starts_fit g.arrays.divided (u + 1) (omega (arith, hand_vertex, g.sized)) in
        let few = g.arrays.divided.few_places in
        let v = hand_vertex in
        let r = t.tied.room.few in
        (omega arith, omega arith)

    module _ {p v : ℕ} (d : PassedTo g.nbrs.now g.s work from end p) (h : p < end) (is-v : v ≡ get_or g.nbrs.now p 0)
      where
        -- the position of place p
        abbrev pos : ℕ
        pos = p - get_or g.starts.now u 0

        place_is : get_or g.starts.now u 0 + pos ≡ p
        place_is = omega (arith, from_next, d.low)

        next_place : Place (held g) u pos v
        next_place =
            let b = place_is in
            row_place g.arrays g.sized hand_vertex (omega arith) (omega arith) is-v

        next_new : get_or work (2 * g.s + v) 0 ≡ 0
        next_new = ap (λ x. get_or work (2 * g.s + x) 0) is-v ∙ d.stops h

        -- it is a vertex, and there is room for it
        pub next_fits : (v < g.n) × (k < g.n)
        next_fits =
            let size = many g in
            let inside = in_range g.arrays u pos v next_place in
            (omega arith, new_room t size (omega arith) next_new)

        module _ {mid next : List ℕ} (m : mid ≡ set work u (p + 1))
            (e : Entering g.n g.s mid next v k (u + 1) (p + u + 1)) where
          abbrev later : ℕ → ℕ
          later = changed t.next_of u (suc pos)

          store : Put work mid u (get_or g.starts.now u 0 + suc pos)
          store = record { is = m ∙ ap (set work u) (let b = place_is in omega arith) }

          behind : (i : ℕ) → g.s ≤ i → get_or mid i 0 ≡ get_or work i 0
          behind i l =
              let w = hand_vertex in
              let r = t.tied.room in
              put_other store i (λ q. omega arith)

          tied_mid : Tied (held g) g.starts.now g.n g.s mid later t.slot_of
          tied_mid = tied_next t.tied (suc pos) hand_vertex (loop_visited t.loop) store

          bit_is : p + u + 1 ≡ down_bit (held g) (suc u) pos
          unfolding down_bit
          bit_is =
              let b = place_is in
              let w = hand_vertex in
              let f = g.sized in
              let q = start_cut g.arrays.divided u (omega arith) in
              omega arith

          pub next_entered : SearchingIn g roots todo next (left - 1) (v + 1) (k + 1)
          next_entered =
              let size = many g in
              let inside = next_fits.0 in
              let x : Entering g.n g.s mid next v k (suc u) (p + u + 1) = rw (add-one u) at e in
              let z = tied_mid.fresh v (omega arith) (behind (2 * g.s + v) (omega arith) ∙ next_new) in
              let c = enters {n = g.n} pos work t.next_of later t.slot_of behind x z in
              let y = stored_changed (length (held g)) t.next_of u (suc pos) in
              let f = from_next in
              rw (add-one v, add-one k)
              (searching (tied_enter tied_mid pos x bit_is)
              (loop_enter_at t.loop (in_range g.arrays) (omega arith) (passed d.visited pos (omega arith)) next_place
              next_new y (rw size c)))
