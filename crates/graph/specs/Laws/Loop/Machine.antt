-- Theorem 8, the search as a program runs it: a stack of frames, each a vertex and the position in its block to try
-- next, and the starts still to try.
--   Frames, goals   the stack, and what it and the starts leave to try
--   Going           from here the search ends in H; the laws going_.. are its steps
--   going_passes    several neighbours in a row that are entered
--   work            what bounds the steps to come; it falls at each step, by the laws work_..
--   work_passes     it does not grow where positions are passed over
use Rattle.std.specs.Prelude.{ℕ, zero, suc, ◌+◌, ◌-◌, ◌*◌, ◌≤◌, ◌<◌, ◌≡◌, length, drop}
use Rattle.std.proofs.Math.Path.{subst}
use mathlib.Core.List.{List, [], ◌∷◌, ◌++◌, Memᴰ, map, flatten}
use native.Mathlib.Omega.{arith}
use Rattle.std.proofs.Common.{drop_of_length-le, drop-cons}
use Rattle.graph.specs.Graph.{Blocks, block, target, Place}
use Rattle.graph.specs.Search.{Goal, root, via, aim, Forest, all, arcs, search}
use Rattle.graph.specs.Laws.Places.Pairing.{InRange, place_at}
use Rattle.graph.specs.Laws.Tree.Entries.{Entered}
use Rattle.graph.specs.Laws.Tree.Numbers.{left_enter}
use Rattle.graph.specs.Laws.Run.Arcs.{arcs_of, arcs_length_all}
use Rattle.graph.specs.Laws.Run.Segments.{Segment, done, segment_pass, segment_enter, segment_unique}
use Rattle.graph.specs.Laws.Run.Segments.{search_segment, coming, coming_most}

pub data Frames : Type 0 where
  bottom : Frames
  frame : ℕ → ℕ → Frames → Frames

-- the goals still to try
unfoldable pub goals : Blocks → Frames → List ℕ → List Goal
goals g bottom todo = map root todo
goals g (frame u j fr) todo = arcs all u j (drop j (block g u)) ++ goals g fr todo

pub record Going (g : Blocks) (F : Forest) (fr : Frames) (todo : List ℕ) (H : Forest) : Type 0 where
  pub segment : Segment g all F (goals g fr todo) H

rest_more : {g : Blocks} {u j v : ℕ} → Place g u j v
    → arcs all u j (drop j (block g u)) ≡ via u j v ∷ arcs all u (suc j) (drop (suc j) (block g u))
unfolding arcs
rest_more {g} {u} {j} p = rw (← p.leads, drop-cons (block g u) j 0 p.fits)

rest_end : (g : Blocks) (u j : ℕ) → length (block g u) ≤ j → arcs all u j (drop j (block g u)) ≡ []
unfolding arcs
rest_end g u j h = rw (drop_of_length-le (block g u) h)

-- ---- the steps

pub going_begin : {g : Blocks} {starts : List ℕ} → InRange g → ((v : ℕ) → Memᴰ v starts → v < length g)
    → Going g [] bottom starts (search g all starts)
unfolding goals
going_begin {g} {starts} r h = record { segment = search_segment g all r starts h }

module _ {g : Blocks} {F H : Forest} where
  -- a start that is entered, or new
  pub going_pass_start : {v : ℕ} {todo : List ℕ} → Entered v F → Going g F bottom (v ∷ todo) H
      → Going g F bottom todo H
  unfolding goals
  going_pass_start k s = record { segment = segment_pass k s.segment }

  pub going_enter_start : {v : ℕ} {todo : List ℕ} → (Entered v F → ⊥) → Going g F bottom (v ∷ todo) H
      → Going g (root v ∷ F) (frame v 0 bottom) todo H
  unfolding goals
  going_enter_start k s = record { segment = segment_enter k s.segment }

  -- no frame and no start is left
  pub going_end : Going g F bottom [] H → F ≡ H
  unfolding goals
  going_end s = segment_unique done s.segment

  module _ {u : ℕ} {fr : Frames} {todo : List ℕ} where
    next_goal : {j v : ℕ} → Place g u j v → Going g F (frame u j fr) todo H
        → Segment g all F (via u j v ∷ goals g (frame u (suc j) fr) todo) H
    unfolding goals
    next_goal p s = subst (λ x. Segment g all F (x ++ goals g fr todo) H) (rest_more p) s.segment

    -- a neighbour that is entered, or new
    pub going_pass : {j v : ℕ} → Place g u j v → Entered v F → Going g F (frame u j fr) todo H
        → Going g F (frame u (suc j) fr) todo H
    going_pass p k s = record { segment = segment_pass k (next_goal p s) }

    pub going_enter : {j v : ℕ} → Place g u j v → (Entered v F → ⊥) → Going g F (frame u j fr) todo H
        → Going g (via u j v ∷ F) (frame v 0 (frame u (suc j) fr)) todo H
    going_enter {j} {v} p k s = record { segment = go (segment_enter k (next_goal p s)) }
      where
        go : Segment g all (via u j v ∷ F) (arcs_of g all v ++ goals g (frame u (suc j) fr) todo) H
            → Segment g all (via u j v ∷ F) (goals g (frame v 0 (frame u (suc j) fr)) todo) H
        go t = unfold goals in t

    -- d neighbours in a row are entered
    pub going_passes : (j d : ℕ) → j + d ≤ length (block g u)
        → ((x v : ℕ) → j ≤ x → x < j + d → Place g u x v → Entered v F)
        → Going g F (frame u j fr) todo H → Going g F (frame u (j + d) fr) todo H
    going_passes j zero h e s = let z : j + 0 ≡ j = omega arith in rw z s
    going_passes j (suc d) h e s =
        let z : j + suc d ≡ suc j + d = omega arith in
        let k = e j (target g u j) (omega arith) (omega arith) (place_at (omega arith)) in
        let t = going_pass (place_at (omega arith)) k s in
        rw z (going_passes (suc j) d (omega arith) (λ x v l m p. e x v (omega arith) (omega arith) p) t)

    -- the block is at its end
    pub going_return : {j : ℕ} → length (block g u) ≤ j → Going g F (frame u j fr) todo H → Going g F fr todo H
    unfolding goals
    going_return {j} h s =
        record { segment = subst (λ x. Segment g all F (x ++ goals g fr todo) H) (rest_end g u j h) s.segment }

-- ---- the work that is left

-- the places still to try on the stack, and the frames
pending : Blocks → Frames → ℕ
pending g bottom = 0
pending g (frame u j fr) = (length (block g u) - j) + pending g fr

depth : Frames → ℕ
depth bottom = 0
depth (frame u j fr) = suc (depth fr)

pub work : Blocks → Forest → Frames → List ℕ → ℕ
work g F fr todo = 2 * pending g fr + 2 * coming g all F + depth fr + 2 * length todo

-- twice the starts and the places bound the steps
pub work_begin : (g : Blocks) (starts : List ℕ) → work g [] bottom starts ≤ 2 * length starts + 2 * length (flatten g)
unfolding work pending depth
work_begin g starts = let a = coming_most g all in omega arith

coming_enter : (g : Blocks) (a : Goal) (F : Forest) → aim a < length g → (Entered (aim a) F → ⊥)
    → length (block g (aim a)) + coming g all (a ∷ F) ≡ coming g all F
unfolding coming
coming_enter g a F h n =
    let e = left_enter (λ u. length (arcs_of g all u)) a F (length g) h n in
    let f = arcs_length_all (aim a) 0 (block g (aim a)) in
    omega arith

module _ (g : Blocks) (F : Forest) where
  pub work_pass_start : (v : ℕ) (todo : List ℕ) → work g F bottom todo < work g F bottom (v ∷ todo)
  unfolding work pending depth
  work_pass_start v todo = omega arith

  pub work_enter_start : (v : ℕ) (todo : List ℕ) → v < length g → (Entered v F → ⊥)
      → work g (root v ∷ F) (frame v 0 bottom) todo < work g F bottom (v ∷ todo)
  unfolding work pending depth
  work_enter_start v todo h n = let a = coming_enter g (root v) F h n in omega arith

  module _ (u j : ℕ) (fr : Frames) (todo : List ℕ) where
    pub work_return : work g F fr todo < work g F (frame u j fr) todo
    unfolding work pending depth
    work_return = omega arith

    pub work_passes : (i : ℕ) → i ≤ j → work g F (frame u j fr) todo ≤ work g F (frame u i fr) todo
    unfolding work pending depth
    work_passes i h = omega arith

    pub work_enter : (v : ℕ) → j < length (block g u) → v < length g → (Entered v F → ⊥)
        → work g (via u j v ∷ F) (frame v 0 (frame u (suc j) fr)) todo < work g F (frame u j fr) todo
    unfolding work pending depth
    work_enter v h k n = let a = coming_enter g (via u j v) F k n in omega arith
