-- What contracts inside this crate say: of a record and an index that passed order Q, of stored numbers, and of one
-- step of a climb.
use Rattle.std.specs.Prelude.{◌≡◌, Bool, List, ◌⊎◌, ℕ, suc, ◌+◌, ◌≤◌, ◌<◌, length, get_or, Result, Ok, Err}
use Rattle.std.proofs.Common.{inl, inr}
use Rattle.std.proofs.Math.Option.{Option, none, some}
use Rattle.std.specs.Prelude as code
use Rattle.std.specs.declared.ops.ControlFlow.{ControlFlow}
use Rattle.record.specs.Record.{unary}
use Rattle.record.specs.Starts.{starts_of}
use Rattle.record.specs.Answers.{Answer, refused, answered, number, answer}
use Rattle.record.specs.declared.Refusal.{Refusal}
use Rattle.record.specs.Steps.{Sound}
use Rattle.forest.specs.Index.{index_length}
use Rattle.queries.specs.View.{number_of}
use Rattle.queries.specs.Queries as Queries
use Rattle.queries.specs.declared.climbs.Rise.{Rise}

-- the index has the length that n and m give
pub record Framed (index : List ℕ) (n m : ℕ) : Type 0 where
  pub n_fits : n ≤ 4096
  pub m_fits : m ≤ 16384
  pub sized : length index ≡ index_length n m

-- the record passed order R, and n and m are its header's
pub record Beside (bytes index : List ℕ) (n m : ℕ) : Type 0 where
  pub sound : Sound bytes n m
  pub framed : Framed index n m

-- a number that counts from 1 is not above n
pub record Ranged (n k : ℕ) : Type 0 where
  pub some : 0 < k
  pub upto : k ≤ n

-- the fields of the block of vertex u are those from a on and before b
pub record FieldsOf (bytes : List ℕ) (u a b : ℕ) : Type 0 where
  pub from : a ≡ get_or (starts_of (unary bytes)) u 0
  pub to : b ≡ get_or (starts_of (unary bytes)) (u + 1) 0

-- a, b, c and d are the numbers stored for u and the three vertices after it
pub record StoredFour (index : List ℕ) (n m u a b c d : ℕ) : Type 0 where
  pub first : a ≡ number_of n m index u
  pub second : b ≡ number_of n m index (u + 1)
  pub third : c ≡ number_of n m index (u + 2)
  pub fourth : d ≡ number_of n m index (u + 3)

-- before u, numbers are others than k
abbrev pub OthersBefore : (ℕ → ℕ) → ℕ → ℕ → Type 0
OthersBefore numbers k u = (v : ℕ) → v < u → numbers v ≡ k → ⊥

-- none of the numbers stored before that of u is k
pub record Passed (index : List ℕ) (n m k u : ℕ) : Type 0 where
  pub upto : u ≤ n
  pub others : OthersBefore (number_of n m index) k u

-- what a step up tells: the position and the parent, none past a root, or 12
abbrev pub risen : Queries.Step → Answer (Option (ℕ × ℕ))
risen Queries.stuck = refused 12
risen Queries.top = answered none
risen (Queries.rise j p) = answered (some (j, p))

-- and what the code says of it
abbrev pub rise_or_none : code.Option Rise → Option (ℕ × ℕ)
rise_or_none code.None = none
rise_or_none (code.Some r) = some (r.at, r.to)

abbrev pub step_of : Result (code.Option Rise) Refusal → Answer (Option (ℕ × ℕ))
step_of = answer rise_or_none

-- one step of Head from u
abbrev pub move_of : ℕ → Result (code.Option ℕ) Refusal → Answer ℕ ⊎ ℕ
move_of u (Err r) = inl (refused (number r))
move_of u (Ok code.None) = inl (answered (suc u))
move_of u (Ok (code.Some p)) = inr p

-- one step of Ancestor
abbrev pub turn_of : Result (ControlFlow Bool ℕ) Refusal → Answer Bool ⊎ ℕ
turn_of (Err r) = inl (refused (number r))
turn_of (Ok (ControlFlow.Break b)) = inl (answered b)
turn_of (Ok (ControlFlow.Continue p)) = inr p
