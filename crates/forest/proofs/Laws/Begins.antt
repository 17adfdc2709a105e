-- The search from its begin to its end.
--   next_start                                   no vertex is at hand: the next vertex is a start
--   From                                         the vertices from i on are still to try
--   search_begun, search_first                   before the start is tried, and behind it
--   searching_busy, still_busy, search_ended     before a step, and after the last
use mathlib.Core.Path.{◌≡◌, refl, sym, ap, ap₂, subst, ◌∙◌}
use mathlib.Core.List.{List, ◌∷◌}
use Prim.Native.Nat.{ℕ, zero, suc, ◌+◌, ◌-◌, ◌*◌, ◌≤◌, ◌<◌}
use native.Mathlib.Numerals.{add-one}
use native.Mathlib.Omega.{arith}
use native.Mathlib.Decide.{dec_lt}
use lib.ListN.{length, get_or}
use Rattle.graph.specs.Search.{Forest, all, search, count_up, starts_from}
use Rattle.graph.specs.Forest.{number}
use Rattle.graph.specs.Laws.Places.CountUp.{count_more, count_none}
use Rattle.graph.specs.Laws.Tree.Entries.{Entered}
use Rattle.graph.specs.Laws.Joined.Spanning.{Covers, Spanning, search_spans, forest_length}
use Rattle.graph.specs.Laws.Joined.Starts.{starts_more, starts_many, starts_cover}
use Rattle.graph.specs.Laws.Loop.Arrays.{Kept, visit_entered}
use Rattle.graph.specs.Laws.Loop.Invariant.{Loop, loop_begin, loop_full, loop_end}
use Rattle.graph.specs.Laws.Loop.Invariant.{loop_busy_start, loop_busy}
use Rattle.forest.specs.Laws.Starts.{places_cut}
use Rattle.forest.specs.Steps.{down_bit, cells_of, Begun, Searched}
use Rattle.forest.specs.Graphs.{held, SearchingIn}
use Rattle.forest.specs.declared.graphs.Graph.{Graph}
use Rattle.forest.specs.declared.search.At.{At}
use Rattle.forest.proofs.Laws.Graphs.{many, in_range}

-- ---- something is left to do

-- no vertex is at hand, and i is the next start
pub next_start : (g : Graph) {roots work : List ℕ} {left k : ℕ} (i : ℕ) → i < g.n
    → SearchingIn g roots (count_up i (g.n - i)) work left 0 k
    → SearchingIn g roots (i ∷ count_up (i + 1) (g.n - (i + 1))) work left 0 k
next_start g i h t =
    let f = count_more g.n i h ∙ ap (λ (x : ℕ). i ∷ count_up x (g.n - x)) (sym (add-one i)) in
    rw f at t

-- the search began at `first`, and the vertices from i on are still to try
abbrev pub From : Graph → ℕ → List ℕ → ℕ → At → Type 0
From g first work left at =
    SearchingIn g (starts_from g.n first) (count_up at.i (g.n - at.i)) work left at.hand.cur at.hand.k

pub searching_busy : (g : Graph) {roots work : List ℕ} {left k : ℕ} (i cur : ℕ)
    → SearchingIn g roots (count_up i (g.n - i)) work left cur k → (cur ≡ 0 → i < g.n) → 0 < left
searching_busy g i zero t e = loop_busy_start (rw (count_more g.n i (e refl)) at t.loop)
searching_busy g i (suc u) t e = loop_busy t.loop

-- ---- begin and end

module _ (g : Graph) {first : ℕ} (h : first < g.n) where
  all_starts : Covers (held g) (starts_from g.n first)
  all_starts = rw (many g) at (starts_cover (held g) first (λ z. omega (arith, many g)))

  -- before the start is tried
  pub search_begun : {work : List ℕ} → Begun g.starts.now g.n g.s work
      → SearchingIn g (starts_from g.n first) (first ∷ count_up 0 g.n) work (2 * g.n + 4 * g.m + 2) 0 0
  search_begun {work} b =
      let size = many g in
      let c = starts_many g.n first (omega arith) in
      let p = places_cut g.arrays.divided in
      let q = g.places in
      record {
        next_of = λ x. 0;
        slot_of = λ x. 0;
        tied = record {
          room = b.room;
          nexts = λ v h. let q = b.at_start v h in omega arith;
          fresh = λ v h z. refl;
          downs = λ v h d. absurd (d (b.unvisited v h));
        };
        loop = subst (λ (todo : List ℕ). Loop (held g) (search (held g) all (starts_from g.n first))
            (2 * g.n + 4 * g.m + 2) todo 0 0 (cells_of g.s (λ x. 0) (λ x. 0) work))
            (starts_more g.n first (omega arith))
            (loop_begin (in_range g.arrays) all_starts.inside (λ v h. b.unvisited v (omega arith)) (omega arith));
      }

  -- behind it all vertices are to try
  pub search_first : {work : List ℕ} {k : ℕ} (cur : ℕ)
      → SearchingIn g (starts_from g.n first) (count_up 0 g.n) work (2 * g.n + 4 * g.m + 2 - 1) cur k
      → SearchingIn g (starts_from g.n first) (count_up 0 (g.n - 0)) work (2 * g.n + 4 * g.m + 1) cur k
  search_first cur t =
      let e : g.n - 0 ≡ g.n = omega arith in
      let f : 2 * g.n + 4 * g.m + 2 - 1 ≡ 2 * g.n + 4 * g.m + 1 = omega arith in
      rw e (rw f at t)

  abbrev F : Forest
  F = search (held g) all (starts_from g.n first)

  spans : Spanning (held g) F
  spans = search_spans (in_range g.arrays) all_starts

  size : length F ≡ g.n
  size = forest_length spans ∙ many g

  module _ {work : List ℕ} {left : ℕ} (at : At) (t : From g first work left at) where
    -- not every vertex is entered, so something is left to try
    pub still_busy : at.hand.k < g.n → at.hand.cur ≡ 0 → at.i < g.n
    still_busy l e = elim (dec_lt at.i g.n) [ yes q ↦ q | no q ↦ over (omega arith) ]
      where
        over : g.n ≤ at.i → at.i < g.n
        over done =
            let q = loop_end (rw (e, count_none g.n at.i done) at t.loop) in
            absurd (omega (arith, size))

    module _ (full : g.n ≤ at.hand.k) where
      kept : Kept (held g) F (cells_of g.s t.next_of t.slot_of work)
      kept = loop_full t.loop (omega (arith, size))

      entered : (v : ℕ) → v < g.n → Entered v F
      entered v h = spans.whole v (omega (arith, many g))

      visits : (v : ℕ) → v < g.n → get_or work (2 * g.s + v) 0 ≡ suc (number F v)
      visits v h = kept.visit_cells_lem v (omega (arith, many g)) ∙ visit_entered (entered v h)

      pub search_ended : Searched (held g) F g.n g.s work
      search_ended = record {
        spans = spans;
        room = t.tied.room;
        visits = visits;
        parents = λ v h. kept.parent_cells v (entered v h);
        order = λ j h. kept.order_cells j (omega (arith, size));
        downs = λ v h. t.tied.downs v h (λ z. (let y = visits v h in omega arith))
            ∙ ap₂ (down_bit (held g)) (kept.parent_cells v (entered v h)) (kept.slot_cells v (entered v h));
      }
