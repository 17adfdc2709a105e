-- Table: what Visit, Parent, Children and Head answer for every terminal, on the index that Build writes.
--   Columns      four lists, in which cell v - 1 is terminal v's
--   answers_of    a query's answers for the terminals 1 to n, as numbers
--   parents_on    what Parent answers on an index, 0 for a root
--   heads_on      what Head answers
--   table_on      the four lists of a record and an index
--   table_of      those of the index that Build writes with a start
--   table_rules   Check's rules, 9, 10 for the four lists that are lent, and 14
--   table        what the operation answers
--   tabled       what the four lists hold afterwards
--   TableDone    both, of a call
--   Tabled       each cell is what its query answers
use Rattle.std.specs.Prelude.{◌≡◌, Bool, ◌||◌, List, [], ◌∷◌, ◌++◌, map, ℕ, suc, ◌-◌, ◌*◌, ltb, length, get_or}
use Rattle.graph.specs.Search.{count_up}
use Rattle.record.specs.Record.{terminals, blocks}
use Rattle.record.specs.Rules.{Rule, check_rules}
use Rattle.record.specs.Answers.{Answer, answered, said, tried, buffer_after}
use Rattle.record.specs.Operations.{other_length}
use Rattle.forest.specs.Index.{index_of}
use Rattle.forest.specs.Operations.{no_start}
use Rattle.queries.specs.Answers.{or_zero, unless_zero}
use Rattle.queries.specs.Operations.{parent, head, children, visit}
use Rattle.queries.specs.Written.{Terminal}

pub record Columns : Type 0 where
  pub visits : List ℕ
  pub parents : List ℕ
  pub counts : List ℕ
  pub heads : List ℕ

abbrev pub columns : List ℕ → List ℕ → List ℕ → List ℕ → Columns
columns v p c h = record { visits = v; parents = p; counts = c; heads = h }

-- ---- the answers

-- each as a number; 0 would stand for a refusal, and `table_told` says that there is none
unfoldable pub answers_of : {A : Type 0} → (A → ℕ) → (ℕ → Answer A) → ℕ → List ℕ
answers_of number ask n = map (λ v. said number (ask (suc v))) (count_up 0 n)

abbrev pub parents_on : List ℕ → List ℕ → List ℕ
parents_on bytes index = answers_of or_zero (parent bytes index) (terminals bytes)

abbrev pub heads_on : List ℕ → List ℕ → List ℕ
heads_on bytes index = answers_of (λ v. v) (head bytes index) (terminals bytes)

unfoldable pub table_on : List ℕ → List ℕ → Columns
table_on bytes index =
    columns
    (answers_of (λ i. i) (visit bytes index) (terminals bytes))
    (parents_on bytes index)
    (answers_of (λ k. k) (children bytes index) (terminals bytes))
    (heads_on bytes index)

abbrev pub table_of : List ℕ → ℕ → Columns
table_of bytes start = table_on bytes (index_of (blocks bytes) (start - 1))

-- ---- the operation

-- one of the lists is not n long
unfoldable pub misfits : ℕ → Columns → Bool
misfits n lent =
    other_length lent.visits n
    || (other_length lent.parents n || (other_length lent.counts n || other_length lent.heads n))

unfoldable pub table_rules : List ℕ → ℕ → List ℕ → Columns → List Rule
table_rules bytes start work lent =
    check_rules bytes
    ++ ((9, ltb (length work) (8 * terminals bytes))
    ∷ (10, misfits (terminals bytes) lent)
    ∷ (14, no_start (terminals bytes) start)
    ∷ [])

unfoldable pub table : List ℕ → ℕ → List ℕ → Columns → Answer (Unit {0})
table bytes start work lent = tried (table_rules bytes start work lent) tt

unfoldable pub tabled : List ℕ → ℕ → List ℕ → Columns → Columns
tabled bytes start work lent = buffer_after (table_rules bytes start work lent) (table_of bytes start) lent

-- a call answers r, and the lists before it become those after it
pub record TableDone (bytes : List ℕ) (start : ℕ) (work : List ℕ) (before after : Columns) (r : Answer (Unit {0}))
    : Type 0 where
  pub answers : r ≡ table bytes start work before
  pub leaves : after ≡ tabled bytes start work before

-- ---- cell by cell

pub record Tabled (bytes index : List ℕ) (t : Columns) : Type 0 where
  pub visits_are : {v : ℕ} → Terminal bytes v → visit bytes index v ≡ answered (get_or t.visits (v - 1) 0)
  pub parents_are : {v : ℕ} → Terminal bytes v
      → parent bytes index v ≡ answered (unless_zero (get_or t.parents (v - 1) 0))
  pub counts_are : {v : ℕ} → Terminal bytes v → children bytes index v ≡ answered (get_or t.counts (v - 1) 0)
  pub heads_are : {v : ℕ} → Terminal bytes v → head bytes index v ≡ answered (get_or t.heads (v - 1) 0)
