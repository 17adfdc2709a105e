-- An answer settles the code's value, for the answers of this crate.
--
--   above_settles, terminal_settles, related_settles, numbered_settles    what the queries answer
--   step_settles, move_settles, turn_settles                              one step of a climb
--   looked_settles                                                        one terminal of a list
--   read_settles                                                          the record and the index that the rules let pass
use Rattle.std.specs.Prelude.{◌≡◌, refl, Bool, ◌⊎◌, List, ℕ, Result, Ok, Err}
use Rattle.std.specs.Prelude as code
use Rattle.std.specs.declared.ops.ControlFlow.{ControlFlow}
use Rattle.std.proofs.Common.{ap, inl, inr}
use Rattle.std.proofs.Math.Option.{Option, none, some}
use Rattle.record.specs.Answers.{Answer, refused, answered}
use Rattle.record.specs.declared.Refusal.{Refusal}
use Rattle.record.specs.declared.Vertex.{Vertex}
use Rattle.record.specs.Laws.Settled.{named, named_number, settled, result_of, answer_settles}
use Rattle.forest.specs.declared.Dfi.{Dfi}
use Rattle.queries.specs.Answers.{terminal_or_none, above, terminal, related, numbered}
use Rattle.queries.specs.Steps.{rise_or_none, step_of, move_of, turn_of}
use Rattle.queries.specs.Looking.{looked_of}
use Rattle.queries.specs.Seen.{read}
use Rattle.queries.specs.declared.indexed.Indexed.{Indexed}
use Rattle.queries.specs.declared.climbs.Rise.{Rise}
use Rattle.queries.specs.declared.lookups.Seen.{Seen}

-- ---- what the queries answer

vertex_back : ℕ → Vertex
vertex_back v = record { 0 = v }

parent_back : Option ℕ → code.Option Vertex
parent_back none = code.None
parent_back (some v) = code.Some (vertex_back v)

dfi_back : ℕ → Dfi
dfi_back i = record { 0 = i }

pub above_of : Answer (Option ℕ) → Result (code.Option Vertex) Refusal
above_of = result_of parent_back

pub above_settles : (r : Result (code.Option Vertex) Refusal) {a : Answer (Option ℕ)} → above r ≡ a → r ≡ above_of a
unfolding above_of parent_back vertex_back
above_settles = answer_settles terminal_or_none parent_back again
  where
    again : (o : code.Option Vertex) → parent_back (terminal_or_none o) ≡ o
    again code.None = refl
    again (code.Some v) = refl

pub terminal_of : Answer ℕ → Result Vertex Refusal
terminal_of = result_of vertex_back

pub terminal_settles : (r : Result Vertex Refusal) {a : Answer ℕ} → terminal r ≡ a → r ≡ terminal_of a
unfolding terminal_of vertex_back
terminal_settles = answer_settles (λ (v : Vertex). v.0) vertex_back (λ v. refl)

pub related_of : Answer Bool → Result Bool Refusal
related_of = result_of (λ (b : Bool). b)

pub related_settles : (r : Result Bool Refusal) {a : Answer Bool} → related r ≡ a → r ≡ related_of a
unfolding related_of
related_settles = answer_settles (λ (b : Bool). b) (λ (b : Bool). b) (λ b. refl)

pub numbered_of : Answer ℕ → Result Dfi Refusal
numbered_of = result_of dfi_back

pub numbered_settles : (r : Result Dfi Refusal) {a : Answer ℕ} → numbered r ≡ a → r ≡ numbered_of a
unfolding numbered_of dfi_back
numbered_settles = answer_settles (λ (d : Dfi). d.0) dfi_back (λ d. refl)

-- ---- one step of a climb

rise_back : Option (ℕ × ℕ) → code.Option Rise
rise_back none = code.None
rise_back (some p) = code.Some (record { at = p.0; to = p.1 })

pub step_back : Answer (Option (ℕ × ℕ)) → Result (code.Option Rise) Refusal
step_back = result_of rise_back

pub step_settles : (r : Result (code.Option Rise) Refusal) {a : Answer (Option (ℕ × ℕ))} → step_of r ≡ a
    → r ≡ step_back a
unfolding step_back rise_back
step_settles = answer_settles rise_or_none rise_back again
  where
    again : (o : code.Option Rise) → rise_back (rise_or_none o) ≡ o
    again code.None = refl
    again (code.Some r) = refl

pub move_back : Answer ℕ ⊎ ℕ → Result (code.Option ℕ) Refusal
move_back (inl (refused k)) = Err (named k)
move_back (inl (answered v)) = Ok code.None
move_back (inr p) = Ok (code.Some p)

pub move_settles : (u : ℕ) (r : Result (code.Option ℕ) Refusal) {s : Answer ℕ ⊎ ℕ} → move_of u r ≡ s → r ≡ move_back s
unfolding move_back
move_settles u = settled (move_of u) move_back back
  where
    back : (r : Result (code.Option ℕ) Refusal) → move_back (move_of u r) ≡ r
    back (Err r) = ap Err (named_number r)
    back (Ok code.None) = refl
    back (Ok (code.Some p)) = refl

pub turn_back : Answer Bool ⊎ ℕ → Result (ControlFlow Bool ℕ) Refusal
turn_back (inl (refused k)) = Err (named k)
turn_back (inl (answered b)) = Ok (ControlFlow.Break b)
turn_back (inr p) = Ok (ControlFlow.Continue p)

pub turn_settles : (r : Result (ControlFlow Bool ℕ) Refusal) {s : Answer Bool ⊎ ℕ} → turn_of r ≡ s → r ≡ turn_back s
unfolding turn_back
turn_settles = settled turn_of turn_back back
  where
    back : (r : Result (ControlFlow Bool ℕ) Refusal) → turn_back (turn_of r) ≡ r
    back (Err r) = ap Err (named_number r)
    back (Ok (ControlFlow.Break b)) = refl
    back (Ok (ControlFlow.Continue p)) = refl

-- ---- one terminal of a list

seen_back : ℕ × ℕ → Seen
seen_back p = record { head = vertex_back p.0; visit = dfi_back p.1 }

pub looked_back : Answer (ℕ × ℕ) → Result Seen Refusal
looked_back = result_of seen_back

pub looked_settles : (r : Result Seen Refusal) {a : Answer (ℕ × ℕ)} → looked_of r ≡ a → r ≡ looked_back a
unfolding looked_back seen_back vertex_back dfi_back
looked_settles = answer_settles (λ (s : Seen). (s.head.0, s.visit.0)) seen_back (λ s. refl)

-- ---- the record and the index that the rules let pass

pub read_pair : Result Indexed Refusal → Result (List ℕ × List ℕ) Refusal
read_pair (Ok i) = Ok (i.layout.bytes.now, i.index.now)
read_pair (Err r) = Err r

pub pair_of : Answer (List ℕ × List ℕ) → Result (List ℕ × List ℕ) Refusal
pair_of = result_of (λ (p : List ℕ × List ℕ). p)

pub read_settles : (r : Result Indexed Refusal) {a : Answer (List ℕ × List ℕ)} → read r ≡ a → read_pair r ≡ pair_of a
unfolding read_pair pair_of
read_settles (Ok i) e =
    answer_settles (λ (p : List ℕ × List ℕ). p) (λ p. p) (λ p. refl) (Ok (i.layout.bytes.now, i.index.now)) e
read_settles (Err r) e = answer_settles (λ (p : List ℕ × List ℕ). p) (λ p. p) (λ p. refl) (Err r) e
