-- The marks that a vertex owns: in E the place by which it was entered, and in P its way back.
--   entry_at, child_own     a mark of E that c owns is the place by which c was entered
--   back_at, parent_own     a mark of P that c owns is the way back from c
--   children_own, parents_own         the bit of the one that c owns, or 0
--   part_size, part_cell    a part of a list
--   children, parents       the parts of the work slice that list those bits
use mathlib.Core.Path.{◌≡◌, refl, ap, subst, ◌∙◌}
use mathlib.Core.List.{List, Memᴰ}
use Prim.Native.Nat.{ℕ, zero, suc, ◌+◌, ◌-◌, ◌*◌, ◌≤◌, ◌<◌}
use native.Mathlib.Omega.{arith}
use lib.ListN.{length, take, drop, get_or, length-drop}
use lib.Seq.{length-take-le, get_or-take, get_or-drop}
use Rattle.graph.specs.Graph.{Blocks, block, target, Place, WellFormed}
use Rattle.graph.specs.Search.{Forest, via}
use Rattle.graph.specs.Forest.{parent, child_mark, parent_mark}
use Rattle.graph.specs.Laws.Places.Pairing.{Balanced, place_at, both_ends}
use Rattle.graph.specs.Laws.Tree.Entries.{Built, entry_once}
use Rattle.graph.specs.Laws.Tree.Climbs.{slot, parent_child, child_entry}
use Rattle.graph.specs.Laws.Joined.Spanning.{Spanning, tree_place}
use Rattle.graph.specs.Laws.Edges.Marks.{Back, child_mark_lem, child_mark_entry, back_place}
use Rattle.graph.specs.Laws.Edges.Marks.{back_marked, marked_back, back_parent, back_once}
use Rattle.forest.specs.Steps.{down_bit, Searched}
use Rattle.forest.specs.Lows.{Passed, unmet, met, Lifting}
use Rattle.forest.proofs.Laws.Marked.{Same, Own}
use Rattle.forest.proofs.Laws.Listed.{Owns, nothing, one, Lists}

-- ---- E

module _ {g : Blocks} {F : Forest} (span : Spanning g F) {c : ℕ} where
  pub entry_at : {x i : ℕ} → i < length (block g x) → Own (child_mark F) (target g) c x i → Memᴰ (via x i c) F
  entry_at {x} {i} l o =
      subst (λ (y : ℕ). Memᴰ (via x i y) F) o.owned
      ((child_mark_entry span.built (place_at l)).0 o.is_marked)

  pub child_own : {u j : ℕ} → Memᴰ (via u j c) F → Own (child_mark F) (target g) c u j
  child_own m = record { is_marked = child_mark_lem m; owned = (tree_place span m).leads }

  pub children_own : c < length g → Owns g (child_mark F) (target g) c (down_bit g (parent F c) (slot F c))
  unfolding down_bit
  children_own h = go (parent F c) refl
    where
      only : {u j : ℕ} → Memᴰ (via u j c) F → (x i : ℕ) → i < length (block g x)
          → Own (child_mark F) (target g) c x i → Same x i u j
      only {u} {j} m x i l o =
          let e : via x i c ≡ via u j c = entry_once span.built (entry_at l o) m refl in
          record { vertex = cc; position = cc }

      go : (p : ℕ) → parent F c ≡ p → Owns g (child_mark F) (target g) c (down_bit g (parent F c) (slot F c))
      go zero e =
          nothing (ap (λ (p : ℕ). down_bit g p (slot F c)) e)
          (λ x i l o. let p = parent_child span.built (entry_at l o) in omega arith)
      go (suc u) e =
          let m = child_entry span.built (span.whole c h) e in
          one u (slot F c) (tree_place span m).fits (ap (λ (p : ℕ). down_bit g p (slot F c)) e) (child_own m) (only m)

-- ---- P, on a side h that lists the way back

module _ {g h : Blocks} (bal : Balanced g h) {F : Forest} (b : Built (Place g) F) {c : ℕ} where
  pub back_at : {x i : ℕ} → i < length (block h x) → Own (parent_mark h g F) (λ u j. u) c x i → Back g h F c i
  back_at {x} {i} l o = subst (λ (y : ℕ). Back g h F y i) o.owned (marked_back bal b (place_at l) o.is_marked)

  pub parent_own : {j : ℕ} → Back g h F c j → Own (parent_mark h g F) (λ u j. u) c c j
  parent_own r = record { is_marked = back_marked bal b r; owned = refl }

  pub parents_own : {bit : ℕ} → Passed g h F c (length (block h c)) bit → Owns h (parent_mark h g F) (λ u j. u) c bit
  parents_own (unmet z m) =
      nothing z (λ x i l o. let r = back_at l o in m i (back_place bal b r) (back_parent bal b r))
  parents_own (met r) =
      one c r.slot r.before r.is (parent_own r.is_back)
      (λ x i l o. record { vertex = o.owned; position = back_once bal b (back_at l o) r.is_back })

-- ---- the lists for all vertices, as they stand in the work slice

module _ (a b : ℕ) (work : List ℕ) {n : ℕ} (is : a + n ≡ b) (fits : b ≤ length work) where
  pub part_size : length (take (b - a) (drop a work)) ≡ n
  part_size = length-take-le (b - a) (drop a work) (simp length-drop (omega arith)) ∙ omega arith

  pub part_cell : (c : ℕ) → c < n → get_or (take (b - a) (drop a work)) c 0 ≡ get_or work (a + c) 0
  part_cell c h = get_or-take (b - a) (drop a work) c 0 (omega arith) ∙ get_or-drop a work c 0

-- for E
pub children : {g : Blocks} {F : Forest} {n s : ℕ} {work : List ℕ} → length g ≡ n → Searched g F n s work
    → Lists g (child_mark F) (target g) (take (4 * s + n - 4 * s) (drop (4 * s) work))
children {g} {n = n} {s = s} {work = work} many a =
    let span = a.spans in
    let fits : 4 * s + n ≤ length work = omega arith in
    let l = part_size (4 * s) (4 * s + n) work refl fits in
    record {
      each = λ c h. rw (part_cell (4 * s) (4 * s + n) work refl fits c (omega arith) ∙ a.downs c (omega arith))
          (children_own span (omega arith));
      all = λ x i h k. (
          let w = span.within (target g x i) (span.closed x i (target g x i) (place_at k)) in
          omega arith
          );
    }

-- for P
pub parents : {g : Blocks} {F : Forest} {n s i : ℕ} {work : List ℕ} → WellFormed g → length g ≡ n
    → Lifting g F n s work i → Lists g (parent_mark g g F) (λ u j. u) (take n work)
parents {n = n} {work = work} wf many f =
    let l = length-take-le n work (omega arith) in
    record {
      each = λ c h. rw (get_or-take n work c 0 (omega arith))
          (parents_own (both_ends wf) f.searched.spans.built (f.backs c (omega arith)));
      all = λ x i h k. omega arith;
    }
