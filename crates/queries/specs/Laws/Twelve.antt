-- What is asked of a view is refused with 12 alone.
--   Twelve           a refusal is 12
--   value            a value is no refusal
--   parent_twelve, head_twelve, ancestor_twelve, vertex_twelve, visit_twelve, visited_twelve    each question
use Rattle.std.specs.Prelude.{◌≡◌, Bool, true, false, map, ◌⊎◌, ℕ, zero, suc, ◌-◌, eqb, ltb, length, get_or}
use Rattle.std.proofs.Common.{inl, inr, arith}
use Rattle.std.proofs.Math.Option.{none, some}
use Rattle.bits.specs.Bits.{select}
use Rattle.graph.specs.Search.{count_up}
use Rattle.graph.specs.Walk.{walk}
use Rattle.graph.specs.Laws.Heads.Walks.{Steps, stops, leads, walk_has}
use Rattle.record.specs.Answers.{Answer, refused, answered}
use Rattle.queries.specs.View.{View}
use Rattle.queries.specs.Queries.{Step, stuck, top, rise, step_up, parent_by, parent_of, head_by, head_next, head_of}
use Rattle.queries.specs.Queries.{ancestor_by, ancestor_next, ancestor_of, vertex_or, visit_of, found, visited_of}

-- a refusal is 12
abbrev pub Twelve : {A : Type 0} → Answer A → Type 0
Twelve a = (k : ℕ) → a ≡ refused k → k ≡ 12

bad : {A : Type 0} → Twelve {A = A} (refused 12)
bad k e = cc

pub value : {A : Type 0} (a : A) → Twelve (answered a)
value a k e = absurd (let z : ◌≡◌ {A = ℕ} 0 1 = cc in omega arith)

pub parent_twelve : (w : View) (u : ℕ) → Twelve (parent_of w u)
unfolding parent_of
parent_twelve w u = go (step_up w.graph w.marks_p u)
  where
    go : (s : Step) → Twelve (parent_by s)
    go stuck = bad
    go top = value none
    go (rise j p) = value (some (suc p))

pub vertex_twelve : (w : View) (v : ℕ) → Twelve (vertex_or w v)
vertex_twelve w v = go (ltb v (length w.graph))
  where
    go : (b : Bool) → Twelve {A = ℕ} (elim b [ true ↦ answered (suc v) | false ↦ refused 12 ])
    go true = value (suc v)
    go false = bad

pub visit_twelve : (w : View) (u : ℕ) → Twelve (visit_of w u)
unfolding visit_of
visit_twelve w u = vertex_twelve w (w.stored u)

pub visited_twelve : (w : View) (k : ℕ) → Twelve (visited_of w k)
unfolding visited_of
visited_twelve w k = go (select (map (λ u. eqb (w.stored u) k) (count_up 0 (length w.graph))) 1)
  where
    go : (u : ℕ) → Twelve (found u)
    go zero = bad
    go (suc u) = value (suc u)

-- a step of a climb stops with such an answer, or leads on
abbrev Turns : {A : Type 0} → Answer A ⊎ ℕ → Type 0
Turns = Steps Twelve (λ u. Unit {0})

walk_twelve : {A : Type 0} (next : ℕ → Answer A ⊎ ℕ) → ((v : ℕ) → Turns (next v)) → (k v : ℕ)
    → Twelve (walk next (refused 12) k v)
walk_twelve next each k v = walk_has next (refused 12) bad (λ u q. each u) k v tt

pub head_twelve : (w : View) (u : ℕ) → Twelve (head_of w u)
unfolding head_of
head_twelve w u = walk_twelve (head_next w) (λ v. step v (step_up w.graph w.marks_p v)) (length w.graph - 1) u
  where
    mark : (v p : ℕ) (b : Bool) → Turns {A = ℕ} (elim b [ true ↦ inl (answered (suc v)) | false ↦ inr p ])
    mark v p true = stops (value (suc v))
    mark v p false = leads tt

    step : (v : ℕ) (s : Step) → Turns (head_by w v s)
    step v stuck = stops bad
    step v top = stops (value (suc v))
    step v (rise j p) = mark v p (get_or (w.marks_b v) j false)

pub ancestor_twelve : (w : View) (x u : ℕ) → Twelve (ancestor_of w x u)
unfolding ancestor_of
ancestor_twelve w x u =
    walk_twelve (ancestor_next w x) (λ v. met (eqb x v) (step_up w.graph w.marks_p v)) (length w.graph - 1) u
  where
    step : (s : Step) → Turns (ancestor_by s)
    step stuck = stops bad
    step top = stops (value false)
    step (rise j p) = leads tt

    met : (b : Bool) (s : Step) → Turns {A = Bool} (elim b [ true ↦ inl (answered true) | false ↦ ancestor_by s ])
    met true s = stops (value true)
    met false s = step s
