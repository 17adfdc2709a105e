-- The least visit number over the places of one vertex, and the way back that is met among them.
--   low_step       one place more is looked at
--   LowTo          the places of c before place p are looked at, for every forest that the work slice shows
--   looked_begin, looked_inside, looked_more, looked_end   at the first place, after one more, and past the last
--   LowCells       what two cells have of them, and what they are written from (low_cells)
use mathlib.Core.Path.{◌≡◌, refl, sym, ap, ◌∙◌}
use mathlib.Core.List.{List}
use Rattle.std.specs.Prelude.{Option, None, Some, MatchOption}
use Rattle.std.specs.Option.{unwrap_or}
use Prim.Native.Nat.{ℕ, suc, ◌+◌, ◌-◌, ◌*◌, ◌≤◌, ◌<◌, min}
use native.Mathlib.Omega.{arith}
use native.Mathlib.Decide.{ℕ_discrete}
use lib.ListN.{length, get_or}
use Rattle.graph.specs.Graph.{Blocks, block, target, position, Place, WellFormed}
use Rattle.graph.specs.Search.{Forest}
use Rattle.graph.specs.Forest.{number, parent}
use Rattle.graph.specs.Laws.Places.Mentions.{first_position}
use Rattle.graph.specs.Laws.Places.Pairing.{source, both_ends}
use Rattle.graph.specs.Laws.Joined.Spanning.{Spanning}
use Rattle.graph.specs.Laws.Edges.Marks.{Back, back_parent, back_once, first_back}
use Rattle.graph.specs.Laws.Bridges.Sweep.{Least, least_begin, least_pass, least_take}
use Rattle.adjacency.specs.Laws.Rows.{starts_fit}
use Rattle.forest.specs.Steps.{Searched}
use Rattle.forest.specs.Lows.{BackBit, Unmet, Passed, unmet, met, LowStep, way_back, counts, LowAt, OwnLow}
use Rattle.forest.specs.Graphs.{held}
use Rattle.forest.specs.declared.graphs.Graph.{Graph}
use Rattle.forest.specs.declared.lows.Low.{Low}
use Rattle.forest.specs.Laws.Sections.{block_start}
use Rattle.forest.specs.Laws.Starts.{start_cut}
use Rattle.forest.proofs.Laws.Graphs.{many, row_end, row_place}

-- ---- one place

abbrev WayBack : Blocks → Forest → ℕ → ℕ → Option ℕ → Type 0
WayBack g F c j back = MatchOption back (Unmet g F c j) (BackBit g g F c j)

module _ {g : Blocks} (wf : WellFormed g) {F : Forest} (span : Spanning g F) {c j v : ℕ} (p : Place g c j v) where
  -- a place that counts is no way back
  not_back : (back : Option ℕ) → (parent F c ≡ suc v → back ≡ None → ⊥) → WayBack g F c j back → Back g g F c j → ⊥
  not_back None d m b = d (back_parent (both_ends wf) span.built b ∙ ap suc p.leads) refl
  not_back (Some bit) d r b = omega (arith, back_once (both_ends wf) span.built b r.is_back, r.before)

  passed_more : (back : Option ℕ) → (parent F c ≡ suc v → back ≡ None → ⊥) → WayBack g F c j back
      → WayBack g F c (suc j) back
  passed_more (Some bit) d r =
      let l = r.before in
      record { slot = r.slot; before = omega arith; is_back = r.is_back; is = r.is }
  passed_more None d m = λ i l e. go i l e (ℕ_discrete i j)
    where
      go : (i : ℕ) → i < suc j → parent F c ≡ suc (target g c i) → Dec (i ≡ j) → ⊥
      go i l e (yes q) = d (e ∙ ap suc (ap (target g c) q ∙ p.leads)) refl
      go i l e (no q) = m i (omega arith) e

  -- the first mention of the parent is the way back
  the_back : parent F c ≡ suc v → Unmet g F c j → Back g g F c j
  the_back e m =
      let first : position v (block g c) 0 ≡ j =
      (first_position v (block g c) j p.fits p.leads).1 (λ i l t. m i l (e ∙ ap suc (sym t))) in
      rw first at (first_back span (both_ends wf) (source p) e)

  pub low_step : {up at x : ℕ} {was is : Low} → up ≡ parent F c → x ≡ suc (number F v) → at ≡ block_start g c + j
      → LowStep c up at v x was is → LowAt g F c j was → LowAt g F c (suc j) is
  low_step {was = was} e f is_at (way_back u z a b) l =
      let w = the_back (omega arith) (rw z at l.passed) in
      record {
        least_number = l.least_number;
        is_low = a ∙ l.is_low;
        least = least_pass w l.least;
        passed = rw b (record { slot = j; before = omega arith; is_back = w; is = omega arith });
      }
  low_step {was = was} e f is_at (counts d a b) l =
      record {
        least_number = min l.least_number (number F v);
        is_low = let q = l.is_low in omega arith;
        least = least_take p (not_back was.back (λ u z. d (omega arith) z) l.passed) l.least;
        passed = rw b (passed_more was.back (λ u z. d (omega arith) z) l.passed);
      }

-- ---- all places of a vertex, in two arrays

pub record LowTo (g : Graph) (work : List ℕ) (c p : ℕ) (own : Low) : Type 0 where
  pub from : get_or g.starts.now c 0 ≤ p
  pub upto : p ≤ get_or g.starts.now (c + 1) 0
  pub at : (F : Forest) → Searched (held g) F g.n g.s work → LowAt (held g) F c (p - get_or g.starts.now c 0) own

module _ (g : Graph) {c : ℕ} (h : c < g.n) where
  pub looked_begin : (work : List ℕ) {p low : ℕ} → p ≡ get_or g.starts.now c 0 → low ≡ get_or work (2 * g.s + c) 0
      → LowTo g work c p (record { low = low; back = None })
  looked_begin work {p} {low} e f = record {
    from = omega arith;
    upto = let u = g.arrays.divided.rising c (omega (arith, g.sized)) in omega arith;
    at = λ F a. (
        let z : p - get_or g.starts.now c 0 ≡ 0 = omega arith in
        record {
          least_number = number F c;
          is_low = f ∙ a.visits c h;
          least = rw z least_begin;
          passed = λ i k. absurd (omega arith);
        }
        );
  }

  -- its places are in the row
  pub looked_inside : {end p : ℕ} → end ≡ get_or g.starts.now (c + 1) 0 → p < end → p < length g.nbrs.now
  looked_inside e k =
      let f = starts_fit g.arrays.divided (c + 1) (omega (arith, g.sized)) in
      omega arith

  module _ {p : ℕ} {own : Low} {work : List ℕ} (t : LowTo g work c p own) where
    pub looked_more : {up : ℕ} {is : Low} → up ≡ get_or work (g.s + c) 0 → p < get_or g.starts.now (c + 1) 0
        → LowStep c up p (get_or g.nbrs.now p 0) (get_or work (2 * g.s + get_or g.nbrs.now p 0) 0) own is
        → LowTo g work c (p + 1) is
    looked_more {up} {is} is_up k step =
        record { from = let f = t.from in omega arith; upto = omega arith; at = more }
      where
        place : Place (held g) c (p - get_or g.starts.now c 0) (get_or g.nbrs.now p 0)
        place = row_place g.arrays g.sized h t.from k refl

        more : (F : Forest) → Searched (held g) F g.n g.s work
            → LowAt (held g) F c (p + 1 - get_or g.starts.now c 0) is
        more F a =
            let size = many g in
            let f = t.from in
            let begin = start_cut g.arrays.divided c (omega (arith, g.sized)) in
            let inside = g.formed.in_range c _ _ place in
            let z : p + 1 - get_or g.starts.now c 0 ≡ suc (p - get_or g.starts.now c 0) = omega arith in
            rw z (low_step g.formed a.spans place (is_up ∙ a.parents c h)
            (a.visits (get_or g.nbrs.now p 0) (omega arith)) (omega arith) step (t.at F a))

    pub looked_end : get_or g.starts.now (c + 1) 0 ≤ p → OwnLow (held g) g.n g.s work c own
    looked_end k F a =
        let b = row_end g.arrays g.sized h in
        let u = t.upto in
        let e : p - get_or g.starts.now c 0 ≡ length (block (held g) c) = omega arith in
        rw e at (t.at F a)

-- ---- in two cells

pub record LowCells (g : Blocks) (F : Forest) (c j low back : ℕ) : Type 0 where
  pub least_number : ℕ
  pub is_low : low ≡ suc least_number
  pub least : Least g F c j least_number
  pub passed : Passed g g F c j back

pub low_cells : {g : Blocks} {F : Forest} {c j : ℕ} (own : Low) → LowAt g F c j own
    → LowCells g F c j own.low (unwrap_or own.back 0)
low_cells {g} {F} {c} {j} own l =
    record { least_number = l.least_number; is_low = l.is_low; least = l.least; passed = cell own.back l.passed }
  where
    cell : (back : Option ℕ) → WayBack g F c j back → Passed g g F c j (unwrap_or back 0)
    cell None m = unmet refl m
    cell (Some bit) r = met r
