-- What the queries answer on a view (document 01, "Operations and their answers"), once nothing of order Q is broken.
-- Vertices count from 0 here, and answers are document 01's numbers, but for the parent of a root, which is none.
use Rattle.std.specs.Prelude.{Bool, true, false, ◌||◌, List, map, ◌⊎◌, ℕ, zero, suc, ◌-◌, eqb, ltb, length, get_or}
use Rattle.std.proofs.Common.{inl, inr}
use Rattle.std.proofs.Math.Option.{Option, none, some}
use Rattle.bits.specs.Bits.{count, select}
use Rattle.graph.specs.Graph.{Blocks, target}
use Rattle.graph.specs.Search.{count_up}
use Rattle.graph.specs.Walk.{walk}
use Rattle.record.specs.Answers.{Answer, refused, answered}
use Rattle.queries.specs.View.{View}

-- ---- one step up

pub data Step : Type 0 where
  stuck : Step  -- 12: more than one mark in the block of P, or the marked field is n or more
  top : Step  -- no mark: a root
  rise : ℕ → ℕ → Step  -- the marked position, and the parent that stands there

-- by the number of marks, and the position of the first
unfoldable pub step_by : Blocks → ℕ → ℕ → ℕ → Step
step_by g u zero j = top
step_by g u (suc zero) j = elim (ltb (target g u j) (length g)) [ true ↦ rise j (target g u j) | false ↦ stuck ]
step_by g u (suc (suc k)) j = stuck

unfoldable pub step_up : Blocks → (ℕ → List Bool) → ℕ → Step
step_up g marks u = step_by g u (count (marks u)) (select (marks u) 1 - 1)

-- ---- Parent

-- the parent, none for a root
abbrev pub parent_by : Step → Answer (Option ℕ)
parent_by stuck = refused 12
parent_by top = answered none
parent_by (rise j p) = answered (some (suc p))

unfoldable pub parent_of : View → ℕ → Answer (Option ℕ)
parent_of w u = parent_by (step_up w.graph w.marks_p u)

-- ---- Head: at a root, or where the marked place is also marked in B, stop; otherwise go to the parent

abbrev pub head_by : View → ℕ → Step → Answer ℕ ⊎ ℕ
head_by w u stuck = inl (refused 12)
head_by w u top = inl (answered (suc u))
head_by w u (rise j p) = elim (get_or (w.marks_b u) j false) [ true ↦ inl (answered (suc u)) | false ↦ inr p ]

abbrev pub head_next : View → ℕ → Answer ℕ ⊎ ℕ
head_next w u = head_by w u (step_up w.graph w.marks_p u)

-- 12 when a step up would be due after n − 1 steps
unfoldable pub head_of : View → ℕ → Answer ℕ
head_of w u = walk (head_next w) (refused 12) (length w.graph - 1) u

-- ---- Ancestor: at each vertex x is compared first

abbrev pub ancestor_by : Step → Answer Bool ⊎ ℕ
ancestor_by stuck = inl (refused 12)
ancestor_by top = inl (answered false)
ancestor_by (rise j p) = inr p

abbrev pub ancestor_next : View → ℕ → ℕ → Answer Bool ⊎ ℕ
ancestor_next w x u =
    elim (eqb x u) [ true ↦ inl (answered true) | false ↦ ancestor_by (step_up w.graph w.marks_p u) ]

unfoldable pub ancestor_of : View → ℕ → ℕ → Answer Bool
ancestor_of w x u = walk (ancestor_next w x) (refused 12) (length w.graph - 1) u

-- ---- Children and Child

-- E's ones in the block
unfoldable pub child_count : View → ℕ → ℕ
child_count w u = count (w.marks_e u)

-- a vertex of the graph, with its number from 1; 12 where the field is n or more
abbrev pub vertex_or : View → ℕ → Answer ℕ
vertex_or w v = elim (ltb v (length w.graph)) [ true ↦ answered (suc v) | false ↦ refused 12 ]

-- the neighbour at the j-th one of E in the block
unfoldable pub child_of : View → ℕ → ℕ → Answer ℕ
child_of w u j = vertex_or w (target w.graph u (select (w.marks_e u) j - 1))

-- 13: j is 0 or above the count
abbrev pub past_count : View → ℕ → ℕ → Bool
past_count w u j = eqb j 0 || ltb (child_count w u) j

-- ---- Visit and Visited

unfoldable pub visit_of : View → ℕ → Answer ℕ
visit_of w u = vertex_or w (w.stored u)

-- the place of the first terminal whose stored number is k
abbrev pub found : ℕ → Answer ℕ
found zero = refused 12
found (suc u) = answered (suc u)

unfoldable pub visited_of : View → ℕ → Answer ℕ
visited_of w k = found (select (map (λ u. eqb (w.stored u) k) (count_up 0 (length w.graph))) 1)
