-- What a question sees of a record and its index, and what the rules before it hand on.
use Rattle.std.specs.Prelude.{List, ℕ, Result}
use Rattle.record.specs.Answers.{Answer, answer}
use Rattle.record.specs.declared.Refusal.{Refusal}
use Rattle.queries.specs.View.{View, view_by}
use Rattle.queries.specs.declared.indexed.Indexed.{Indexed}

abbrev pub seen : Indexed → View
seen i = view_by i.layout.n i.layout.m i.layout.bytes.now i.index.now

-- the bytes of the record and of its index
abbrev pub read : Result Indexed Refusal → Answer (List ℕ × List ℕ)
read = answer (λ (i : Indexed). (i.layout.bytes.now, i.index.now))
