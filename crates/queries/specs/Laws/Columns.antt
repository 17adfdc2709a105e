-- The lists of a table, cell by cell.
--   column_is, column_told   a list of answers, by what is answered
--   cell_told                one cell of it
--   or_unless                0 for none, and back
--   table_cells              each cell of a table is what its query answers
use Rattle.std.specs.Prelude.{◌≡◌, refl, List, map, length, get_or}
use Rattle.std.proofs.Common.{sym, ◌∙◌, ext_get_or}
use Rattle.std.proofs.Math.Path.{ap}
use Prim.Native.Nat.{ℕ, zero, suc, ◌+◌, ◌-◌, ◌<◌}
use native.Mathlib.Omega.{arith}
use Rattle.graph.specs.Search.{count_up}
use Rattle.graph.specs.Forest.{parent as parent_in}
use Rattle.graph.specs.Laws.Places.CountUp.{length_each, each_is, each_same}
use Rattle.record.specs.Record.{terminals}
use Rattle.record.specs.Answers.{Answer, answered, said}
use Rattle.queries.specs.Steps.{Ranged}
use Rattle.queries.specs.Answers.{or_zero, unless_zero}
use Rattle.queries.specs.Operations.{parent, head, children, visit}
use Rattle.queries.specs.Written.{Written, forest_from, Terminal}
use Rattle.queries.specs.Table.{answers_of, table_on, Tabled}
use Rattle.queries.specs.Laws.Answered.{visit_answer, parent_answer, children_answer, head_answer}

module _ {A : Type 0} (number : A → ℕ) (ask : ℕ → Answer A) (n : ℕ) where
  -- where every terminal is answered, by a value of its vertex
  module _ (f : ℕ → A) (answer : (v : ℕ) → Ranged n v → ask v ≡ answered (f (v - 1))) where
    answer_at : (i : ℕ) → i < n → said number (ask (suc i)) ≡ number (f i)
    unfolding said
    answer_at i h =
        let z : suc i - 1 ≡ i = omega arith in
        let a = answer (suc i) (record { some = omega arith; upto = omega arith }) in
        ap (said number) (a ∙ ap (λ (x : ℕ). answered (f x)) z)

    pub column_is : answers_of number ask n ≡ map (λ v. number (f v)) (count_up 0 n)
    unfolding answers_of
    column_is =
        each_same (λ v. said number (ask (suc v))) (λ v. number (f v)) 0 n (λ k h. answer_at (0 + k) (omega arith))

    pub column_told : {l : List ℕ} → length l ≡ n → ((i : ℕ) → i < n → get_or l i 0 ≡ number (f i))
        → l ≡ answers_of number ask n
    column_told {l} e h =
        let each : ℕ → ℕ = λ v. number (f v) in
        ext_get_or 0 l (map each (count_up 0 n)) (e ∙ sym (length_each each 0 n))
        (λ i k. h i (omega arith) ∙ sym (each_is each 0 n i (omega arith)))
        ∙ sym column_is

  -- the cell of a terminal that is answered
  pub cell_told : {v : ℕ} {a : A} → Ranged n v → ask v ≡ answered a
      → get_or (answers_of number ask n) (v - 1) 0 ≡ number a
  unfolding answers_of said
  cell_told {v} r e =
      let s = r.some in
      let u = r.upto in
      let z : suc (v - 1) ≡ v = omega arith in
      each_is (λ v. said number (ask (suc v))) 0 n (v - 1) (omega arith)
      ∙ ap (λ (k : ℕ). said number (ask k)) z
      ∙ ap (said number) e

-- a parent's number, and 0 for none, and back
pub or_unless : (k : ℕ) → or_zero (unless_zero k) ≡ k
or_unless zero = refl
or_unless (suc k) = refl

-- each cell of a table is what its query answers, on an index that Build writes
module _ {bytes index : List ℕ} (w : Written bytes index) where
  -- the cell of a terminal, by what its query answers
  cell : {A : Type 0} (number : A → ℕ) (ask : ℕ → Answer A) {v : ℕ} {a : A} → Terminal bytes v → ask v ≡ answered a
      → number a ≡ get_or (answers_of number ask (terminals bytes)) (v - 1) 0
  cell number ask t e = sym (cell_told number ask (terminals bytes) t e)

  pub table_cells : Tabled bytes index (table_on bytes index)
  unfolding table_on
  table_cells = record {
    visits_are = λ t. visit_answer w t ∙ ap answered (cell (λ i. i) (visit bytes index) t (visit_answer w t));
    parents_are =
        λ {v} t. parent_answer w t
        ∙ ap (λ (k : ℕ). answered (unless_zero k))
        (sym (or_unless (parent_in (forest_from bytes w.start) (v - 1)))
        ∙ cell or_zero (parent bytes index) t (parent_answer w t));
    counts_are =
        λ t. children_answer w t ∙ ap answered (cell (λ k. k) (children bytes index) t (children_answer w t));
    heads_are = λ t. head_answer w t ∙ ap answered (cell (λ v. v) (head bytes index) t (head_answer w t));
  }
