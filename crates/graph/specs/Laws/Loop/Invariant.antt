-- Theorem 8, the invariant of an imperative loop over arrays, with its steps. Beside the arrays the program holds the
-- starts still to try, `cur` (0, or 1 + the vertex at hand), `k` (how many are entered) and `left`, which counts down.
--   Loop                               the invariant
--   loop_begin, loop_full              before the first step, and once every vertex is entered
--   loop_end                           which is so where nothing is left to try
--   loop_pass_start, loop_enter_start  no vertex is at hand: the next start is visited, or it is not
--   Visited                            the places of a block from one position up to another lead to visited vertices
--   loop_leave, loop_enter_at          a vertex is at hand: its neighbours ahead are visited, or one is not
--   loop_room                          there is room for a vertex that is not visited
--   loop_vertex, loop_visited          the vertex at hand is one, and it is visited
--   loop_busy_start, loop_busy         `left` is not used up while there is something to do
use Rattle.std.specs.Prelude.{ℕ, suc, ◌+◌, ◌-◌, ◌*◌, ◌≤◌, ◌<◌, ◌≡◌, refl, length}
use Rattle.std.proofs.Common.{sym, ◌∙◌, ap, subst, arith}
use mathlib.Core.List.{List, [], ◌∷◌, Memᴰ, flatten}
use Rattle.std.proofs.Math.Decide.{dec_lt}
use Rattle.graph.specs.Graph.{Blocks, block, Place}
use Rattle.graph.specs.Search.{Goal, root, via, aim, Forest, all, search}
use Rattle.graph.specs.Forest.{parent}
use Rattle.graph.specs.Laws.Places.Pairing.{InRange}
use Rattle.graph.specs.Laws.Tree.Entries.{Entered, now, old, dec_entered, none_entered}
use Rattle.graph.specs.Laws.Tree.Entries.{grows_full, Built, built_nil, built_root, built_via}
use Rattle.graph.specs.Laws.Tree.Climbs.{parent_root, parent_child, slot, slot_root, slot_child}
use Rattle.graph.specs.Laws.Run.Segments.{segment_grows}
use Rattle.graph.specs.Laws.Bridges.Stores.{Stored}
use Rattle.graph.specs.Laws.Loop.Machine.{Frames, bottom, frame, Going, going_begin, going_pass_start}
use Rattle.graph.specs.Laws.Loop.Machine.{going_enter_start, going_passes, going_enter, going_return, going_end}
use Rattle.graph.specs.Laws.Loop.Machine.{work, work_begin, work_pass_start, work_enter_start, work_passes}
use Rattle.graph.specs.Laws.Loop.Machine.{work_enter, work_return}
use Rattle.graph.specs.Laws.Loop.Arrays.{Cells, Kept, Enters, visit_entered, visit_new, room, kept_enter}
use Rattle.graph.specs.Laws.Loop.Stack.{Stack, stack_bottom, away_bottom, away_new, stack_old, stack_top}
use Rattle.graph.specs.Laws.Loop.Stack.{stack_none, Top, stack_some}

-- the arrays hold the forest so far, the frames are its stack, and from here the search ends in H
pub record Loop (g : Blocks) (H : Forest) (left : ℕ) (todo : List ℕ) (cur k : ℕ) (c : Cells) : Type 0 where
  pub so_far : Forest
  pub frames : Frames
  pub built : Built (Place g) so_far
  pub within : (v : ℕ) → Entered v so_far → v < length g
  pub kept : Kept g so_far c
  pub going : Going g so_far frames todo H
  pub stack : Stack so_far c.nexts frames cur
  pub count : k ≡ length so_far
  pub enough : work g so_far frames todo ≤ left

-- begin: the visit cells are 0, the others may hold anything
pub loop_begin : {g : Blocks} {starts : List ℕ} → InRange g → ((v : ℕ) → Memᴰ v starts → v < length g)
    → {c : Cells} → ((v : ℕ) → v < length g → c.visits v ≡ 0)
    → {left : ℕ} → 2 * length starts + 2 * length (flatten g) ≤ left → Loop g (search g all starts) left starts 0 0 c
loop_begin {g} {starts} r h z l = record {
  so_far = [];
  frames = bottom;
  built = built_nil;
  within = λ v i. absurd (none_entered i);
  kept = record {
    visit_cells_lem = λ v b. z v b ∙ sym (visit_new [] v none_entered);
    parent_cells = λ v i. absurd (none_entered i);
    slot_cells = λ v i. absurd (none_entered i);
    order_cells = λ k b. absurd (omega arith);
  };
  going = going_begin r h;
  stack = stack_bottom;
  count = refl;
  enough = let w = work_begin g starts in omega arith;
}

module _ {g : Blocks} {H : Forest} {left : ℕ} {todo : List ℕ} {cur k : ℕ} {c : Cells}
    (i : Loop g H left todo cur k c) where
  -- a visit cell tells who is entered
  new_vertex : {x : ℕ} → x < length g → c.visits x ≡ 0 → Entered x i.so_far → ⊥
  new_vertex {x} h z o =
      let a = i.kept.visit_cells_lem x h in
      let b = visit_entered o in
      omega arith

  old_vertex : {x : ℕ} → x < length g → (c.visits x ≡ 0 → ⊥) → Entered x i.so_far
  old_vertex {x} h n = elim (dec_entered x i.so_far) [
    | yes o ↦ o
    | no o ↦ absurd (n (i.kept.visit_cells_lem x h ∙ visit_new i.so_far x o))
  ]

  within_new : (a : Goal) → aim a < length g → (v : ℕ) → Entered v (a ∷ i.so_far) → v < length g
  within_new a h v (now e) = rw e h
  within_new a h v (old o) = i.within v o

  -- there is room for a vertex that is not entered
  pub loop_room : {x : ℕ} → x < length g → c.visits x ≡ 0 → k < length g
  loop_room h z =
      let a = room i.built i.within h (new_vertex h z) in
      let b = i.count in
      omega arith

  enter_cells : {c' : Cells} {at : ℕ → ℕ} {p j : ℕ} (a : Goal) → aim a < length g → c.visits (aim a) ≡ 0
      → parent (a ∷ i.so_far) (aim a) ≡ p → slot (a ∷ i.so_far) (aim a) ≡ j
      → Enters (length g) c c' at (aim a) k p j → Kept g (a ∷ i.so_far) c'
  enter_cells {c'} {at} {p} {j} a h z ep ej s =
      let b = loop_room h z in
      let d = i.count in
      kept_enter i.kept a (within_new a h) (omega arith) ep ej
      (subst (λ x. Enters (length g) c c' at (aim a) x p j) i.count s)

-- ---- no vertex is at hand: the next start

module _ {g : Blocks} {H : Forest} {left v : ℕ} {todo : List ℕ} {k : ℕ} {c : Cells}
    (i : Loop g H left (v ∷ todo) 0 k c) where
  no_frame : i.frames ≡ bottom
  no_frame = stack_none refl i.stack

  at_start : Going g i.so_far bottom (v ∷ todo) H
  at_start = subst (λ x. Going g i.so_far x (v ∷ todo) H) no_frame i.going

  enough_start : work g i.so_far bottom (v ∷ todo) ≤ left
  enough_start = subst (λ x. work g i.so_far x (v ∷ todo) ≤ left) no_frame i.enough

  pub loop_busy_start : 0 < left
  loop_busy_start =
      let a = enough_start in
      let b = work_pass_start g i.so_far v todo in
      omega arith

  -- it is visited: pass over
  pub loop_pass_start : v < length g → (c.visits v ≡ 0 → ⊥) → Loop g H (left - 1) todo 0 k c
  loop_pass_start h n = record {
    so_far = i.so_far;
    frames = bottom;
    built = i.built;
    within = i.within;
    kept = i.kept;
    going = going_pass_start (old_vertex i h n) at_start;
    stack = stack_bottom;
    count = i.count;
    enough =
        let a = enough_start in
        let b = work_pass_start g i.so_far v todo in
        omega arith;
  }

  -- it is not: enter it as a root
  pub loop_enter_start : {c' : Cells} → v < length g → c.visits v ≡ 0 → Enters (length g) c c' c.nexts v k 0 0
      → Loop g H (left - 1) todo (suc v) (suc k) c'
  loop_enter_start h z s =
      let n = new_vertex i h z in
      let b = built_root n i.built in
      let w = within_new i (root v) h in
      let e = parent_root b (Memᴰ.head refl) in
      record {
        so_far = root v ∷ i.so_far;
        frames = frame v 0 bottom;
        built = b;
        within = w;
        kept = enter_cells i (root v) h z e (slot_root b (Memᴰ.head refl)) s;
        going = going_enter_start n at_start;
        stack = stack_top w s.nexts_set (now refl) away_bottom e stack_bottom;
        count = ap suc i.count;
        enough =
            let a = enough_start in
            let d = work_enter_start g i.so_far v todo h n in
            omega arith;
      }

-- as many vertices are entered as H has: the arrays are H's, whatever is left to try
pub loop_full : {g : Blocks} {H : Forest} {left : ℕ} {todo : List ℕ} {cur k : ℕ} {c : Cells}
    → Loop g H left todo cur k c → length H ≤ k → Kept g H c
loop_full {g} {c = c} i h =
    let n = i.count in
    subst (λ x. Kept g x c) (grows_full (segment_grows i.going.segment) (omega arith)) i.kept

-- nothing is left to try
pub loop_end : {g : Blocks} {H : Forest} {left k : ℕ} {c : Cells} → Loop g H left [] 0 k c → k ≡ length H
loop_end {g} {H} i =
    let e = stack_none refl i.stack in
    i.count ∙ ap length (going_end (subst (λ x. Going g i.so_far x [] H) e i.going))

-- ---- vertex u is at hand

-- the places of u from position i up to j lead to visited vertices
abbrev pub Visited : Blocks → Cells → ℕ → ℕ → ℕ → Type 0
Visited g c u i j = (x v : ℕ) → i ≤ x → x < j → Place g u x v → c.visits v ≡ 0 → ⊥

module _ {g : Blocks} {H : Forest} {left : ℕ} {todo : List ℕ} {u k : ℕ} {c : Cells}
    (i : Loop g H left todo (suc u) k c) where
  top : Top i.so_far c.nexts i.frames u
  top = stack_some refl i.stack

  at_hand : Going g i.so_far (frame u (c.nexts u) top.under) todo H
  at_hand = subst (λ x. Going g i.so_far x todo H) top.is_frame i.going

  enough_hand : work g i.so_far (frame u (c.nexts u) top.under) todo ≤ left
  enough_hand = subst (λ x. work g i.so_far x todo ≤ left) top.is_frame i.enough

  pub loop_vertex : u < length g
  loop_vertex = i.within u top.has

  pub loop_visited : c.visits u ≡ 0 → ⊥
  loop_visited z = new_vertex i loop_vertex z top.has

  pub loop_busy : 0 < left
  loop_busy =
      let a = enough_hand in
      let b = work_return g i.so_far u (c.nexts u) top.under todo in
      omega arith

  module _ (r : InRange g) where
    passed : {j : ℕ} → c.nexts u ≤ j → j ≤ length (block g u) → Visited g c u (c.nexts u) j
        → Going g i.so_far (frame u j top.under) todo H
    passed {j} l h n =
        let e : c.nexts u + (j - c.nexts u) ≡ j = omega arith in
        let old : (x v : ℕ) → c.nexts u ≤ x → x < c.nexts u + (j - c.nexts u) → Place g u x v → Entered v i.so_far
        = λ x v a b p. old_vertex i (r u x v p) (n x v a (omega arith) p) in
        subst (λ z. Going g i.so_far (frame u z top.under) todo H) e
        (going_passes (c.nexts u) (j - c.nexts u) (omega arith) old at_hand)

    -- from the next position on the block has visited vertices only: the parent comes to hand
    pub loop_leave : Visited g c u (c.nexts u) (length (block g u)) → Loop g H (left - 1) todo (c.parents u) k c
    loop_leave n = record {
      so_far = i.so_far;
      frames = top.under;
      built = i.built;
      within = i.within;
      kept = i.kept;
      going = at_end (dec_lt (c.nexts u) (length (block g u)));
      stack = subst (λ z. Stack i.so_far c.nexts top.under z)
          (sym (i.kept.parent_cells u top.has)) top.rest;
      count = i.count;
      enough =
          let a = enough_hand in
          let b = work_return g i.so_far u (c.nexts u) top.under todo in
          omega arith;
    }
      where
        at_end : Dec (c.nexts u < length (block g u)) → Going g i.so_far top.under todo H
        at_end (yes l) = going_return {j = length (block g u)} (omega arith) (passed (omega arith) (omega arith) n)
        at_end (no l) = going_return (omega arith) at_hand

    -- the one at position j is the first that is not visited: it is entered as a child
    pub loop_enter_at : {c' : Cells} {at : ℕ → ℕ} {j v : ℕ} → c.nexts u ≤ j → Visited g c u (c.nexts u) j
        → Place g u j v → c.visits v ≡ 0 → Stored (length g) c.nexts at u (suc j)
        → Enters (length g) c c' at v k (suc u) j → Loop g H (left - 1) todo (suc v) (suc k) c'
    loop_enter_at {j = j} {v = v} f m p z s t =
        let l = r u j v p in
        let h = p.fits in
        let a = via u j v in
        let n = new_vertex i l z in
        let b : Built (Place g) (a ∷ i.so_far) = built_via n top.has p i.built in
        let w = within_new i a l in
        let e = parent_child b (Memᴰ.head refl) in
        let below = stack_top i.within s top.has top.away refl top.rest in
        record {
          so_far = a ∷ i.so_far;
          frames = frame v 0 (frame u (suc j) top.under);
          built = b;
          within = w;
          kept = enter_cells i a l z e (slot_child b (Memᴰ.head refl)) t;
          going = going_enter p n (passed f (omega arith) m);
          stack = stack_top w t.nexts_set (now refl) (away_new below n) e (stack_old a n below);
          count = ap suc i.count;
          enough =
              let x = enough_hand in
              let y = work_passes g i.so_far u j top.under todo (c.nexts u) f in
              let d = work_enter g i.so_far u j top.under todo v h l n in
              omega arith;
        }
