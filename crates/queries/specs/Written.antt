-- What demands 2 and 3 speak of: a record with an index that Build writes for it, with any start, and its terminals.
use Rattle.std.specs.Prelude.{◌≡◌, ◌↔◌, Bool, true, false, List, ℕ, suc, ◌-◌, ◌<◌}
use Rattle.graph.specs.Search.{Forest, forest}
use Rattle.graph.specs.Joined.{DoublyJoined}
use Rattle.graph.specs.Forest.{head as head_in}
use Rattle.record.specs.Record.{terminals, blocks}
use Rattle.record.specs.Answers.{Answer, answered}
use Rattle.record.specs.Operations.{Accepted}
use Rattle.forest.specs.Index.{index_of}
use Rattle.forest.specs.Operations.{no_start}
use Rattle.queries.specs.Steps.{Ranged}
use Rattle.queries.specs.Operations.{parent, head, ancestor, children, child, visit, visited}
use Rattle.queries.specs.Lookup.{Lists, lookup, looked_up}

-- the record is accepted, Build takes the start, and the index is the one that it writes
pub record Written (bytes index : List ℕ) : Type 0 where
  pub accepted : Accepted bytes
  pub start : ℕ
  pub taken : no_start (terminals bytes) start ≡ false
  pub is : index ≡ index_of (blocks bytes) (start - 1)

-- the forest of the search that begins at this terminal
abbrev pub forest_from : List ℕ → ℕ → Forest
forest_from bytes start = forest (blocks bytes) (start - 1)

-- v is a terminal of the record; i is a visit number
abbrev pub Terminal : List ℕ → ℕ → Type 0
Terminal bytes v = Ranged (terminals bytes) v

abbrev pub VisitNumber : List ℕ → ℕ → Type 0
VisitNumber bytes i = Ranged (terminals bytes) i

-- just one of the numbers below k passes
pub record Once (test : ℕ → Bool) (k : ℕ) : Type 0 where
  pub at : ℕ
  pub inside : at < k
  pub passes : test at ≡ true
  pub only : (i : ℕ) → i < k → test i ≡ true → i ≡ at

-- Head's answers for u and v: the heads in the forest of the start, and equal exactly when wires join the two and,
-- whichever one wire is taken out, the others still do
pub record HeadsTell (bytes : List ℕ) (start u v : ℕ) (x y : Answer ℕ) : Type 0 where
  pub first_head : x ≡ answered (suc (head_in (blocks bytes) (forest_from bytes start) (u - 1)))
  pub second_head : y ≡ answered (suc (head_in (blocks bytes) (forest_from bytes start) (v - 1)))
  pub equal_exactly : (x ≡ y) ↔ DoublyJoined (blocks bytes) (u - 1) (v - 1)

-- every query has the same answer on two indexes
pub record SameAnswers (bytes a b : List ℕ) : Type 0 where
  pub same_parent : (v : ℕ) → parent bytes a v ≡ parent bytes b v
  pub same_head : (v : ℕ) → head bytes a v ≡ head bytes b v
  pub same_ancestor : (u v : ℕ) → ancestor bytes a u v ≡ ancestor bytes b u v
  pub same_children : (v : ℕ) → children bytes a v ≡ children bytes b v
  pub same_child : (v j : ℕ) → child bytes a v j ≡ child bytes b v j
  pub same_visit : (v : ℕ) → visit bytes a v ≡ visit bytes b v
  pub same_visited : (i : ℕ) → visited bytes a i ≡ visited bytes b i
  pub same_lookup : (list : List ℕ) (lent : Lists) → lookup bytes a list lent ≡ lookup bytes b list lent
  pub same_lists : (list : List ℕ) (lent : Lists) → looked_up bytes a list lent ≡ looked_up bytes b list lent
