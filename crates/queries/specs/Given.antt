-- A refusal that no operation gives.
use Rattle.std.specs.Prelude.{◌≡◌, List, ℕ}
use Rattle.record.specs.Answers.{refused}
use Rattle.record.specs.Operations.{check, degree, unpack}
use Rattle.record.specs.Filing.{file}
use Rattle.forest.specs.Operations.{build, loop_figure}
use Rattle.queries.specs.Operations.{parent, head, ancestor, children, child, visit, visited}
use Rattle.queries.specs.Lookup.{Lists, lookup}
use Rattle.queries.specs.Table.{Columns, table}

-- no operation refuses with k, whatever else it is lent beside these bytes: the record, or for File the result buffer.
-- (Neighbours refuses without a number, and `accept` has Check's rules.)
pub record NeverGiven (k : ℕ) (bytes : List ℕ) : Type 0 where
  pub by_check : check bytes ≡ refused k → ⊥
  pub by_degree : (v : ℕ) → degree bytes v ≡ refused k → ⊥
  pub by_unpack : (list : List ℕ) → unpack bytes list ≡ refused k → ⊥
  pub by_file : (degrees neighbours : List ℕ) → file degrees neighbours bytes ≡ refused k → ⊥
  pub by_build : (start : ℕ) (work index : List ℕ) → build bytes start work index ≡ refused k → ⊥
  pub by_loop_figure : loop_figure bytes ≡ refused k → ⊥
  pub by_parent : (index : List ℕ) (v : ℕ) → parent bytes index v ≡ refused k → ⊥
  pub by_head : (index : List ℕ) (v : ℕ) → head bytes index v ≡ refused k → ⊥
  pub by_ancestor : (index : List ℕ) (u v : ℕ) → ancestor bytes index u v ≡ refused k → ⊥
  pub by_children : (index : List ℕ) (v : ℕ) → children bytes index v ≡ refused k → ⊥
  pub by_child : (index : List ℕ) (v j : ℕ) → child bytes index v j ≡ refused k → ⊥
  pub by_visit : (index : List ℕ) (v : ℕ) → visit bytes index v ≡ refused k → ⊥
  pub by_visited : (index : List ℕ) (i : ℕ) → visited bytes index i ≡ refused k → ⊥
  pub by_lookup : (index list : List ℕ) (lent : Lists) → lookup bytes index list lent ≡ refused k → ⊥
  pub by_table : (start : ℕ) (work : List ℕ) (lent : Columns) → table bytes start work lent ≡ refused k → ⊥
