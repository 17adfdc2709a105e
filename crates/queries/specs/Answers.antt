-- What the queries' answers say, in document 01's numbers.
use Rattle.std.specs.Prelude.{Bool, ℕ, zero, suc, Result}
use Rattle.std.proofs.Math.Option.{Option, none, some}
use Rattle.std.specs.Prelude as code
use Rattle.record.specs.Answers.{Answer, answer}
use Rattle.record.specs.declared.Refusal.{Refusal}
use Rattle.record.specs.declared.Vertex.{Vertex}
use Rattle.forest.specs.declared.Dfi.{Dfi}

-- the number of a terminal that there may be
abbrev pub terminal_or_none : code.Option Vertex → Option ℕ
terminal_or_none code.None = none
terminal_or_none (code.Some v) = some v.0

-- a parent, or none for a root, so that no parent's number stands for it
abbrev pub above : Result (code.Option Vertex) Refusal → Answer (Option ℕ)
above = answer terminal_or_none

-- document 01's number of it: 0 for a root; and the other way round
abbrev pub or_zero : Option ℕ → ℕ
or_zero none = 0
or_zero (some v) = v

abbrev pub unless_zero : ℕ → Option ℕ
unless_zero zero = none
unless_zero (suc v) = some (suc v)

-- a terminal
abbrev pub terminal : Result Vertex Refusal → Answer ℕ
terminal = answer (λ (v : Vertex). v.0)

-- yes or no
abbrev pub related : Result Bool Refusal → Answer Bool
related = answer (λ (b : Bool). b)

-- a visit number
abbrev pub numbered : Result Dfi Refusal → Answer ℕ
numbered = answer (λ (d : Dfi). d.0)
