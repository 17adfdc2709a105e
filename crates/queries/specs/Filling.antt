-- What contracts inside the crate say of a table's lists while they are filled.
--   Ready                 Build wrote the index, and n and m are the record's
--   Cells                 cell `at i` is `value i`, for the first k of n
--   Reached               each vertex whose stored number is below k has its value
--   parent_at, head_at      what Parent and Head answer for a vertex, as numbers
--   ParentsTo, HeadsTo    the lists of those, up to stored number k
use Rattle.std.specs.Prelude.{◌≡◌, List, ℕ, ◌<◌, length, get_or}
use Rattle.record.specs.Record.{terminals, wires}
use Rattle.record.specs.Answers.{said}
use Rattle.queries.specs.View.{number_of, view_by}
use Rattle.queries.specs.Queries.{parent_of, head_of}
use Rattle.queries.specs.Answers.{or_zero}
use Rattle.queries.specs.Written.{Written}

pub record Ready (bytes index : List ℕ) (n m : ℕ) : Type 0 where
  pub written : Written bytes index
  pub is_n : n ≡ terminals bytes
  pub is_m : m ≡ wires bytes

pub record Cells (at value : ℕ → ℕ) (n k : ℕ) (l : List ℕ) : Type 0 where
  pub size : length l ≡ n
  pub cells : (i : ℕ) → i < k → get_or l (at i) 0 ≡ value i

pub record Reached (stored value : ℕ → ℕ) (n k : ℕ) (l : List ℕ) : Type 0 where
  pub size : length l ≡ n
  pub cells : (v : ℕ) → v < n → stored v < k → get_or l v 0 ≡ value v

abbrev pub parent_at : List ℕ → List ℕ → ℕ → ℕ → ℕ → ℕ
parent_at bytes index n m v = said or_zero (parent_of (view_by n m bytes index) v)

abbrev pub head_at : List ℕ → List ℕ → ℕ → ℕ → ℕ → ℕ
head_at bytes index n m v = said (λ u. u) (head_of (view_by n m bytes index) v)

abbrev pub ParentsTo : List ℕ → List ℕ → ℕ → ℕ → ℕ → List ℕ → Type 0
ParentsTo bytes index n m k l = Reached (number_of n m index) (parent_at bytes index n m) n k l

abbrev pub HeadsTo : List ℕ → List ℕ → ℕ → ℕ → ℕ → List ℕ → Type 0
HeadsTo bytes index n m k l = Reached (number_of n m index) (head_at bytes index n m) n k l
