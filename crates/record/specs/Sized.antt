-- The sizes of a record that passed the rules that were tried, in the documents' words.
use Rattle.std.specs.Prelude.{List, ℕ, Result}
use Rattle.record.specs.Record.{terminals, wires}
use Rattle.record.specs.Answers.{Answer, answer}
use Rattle.record.specs.declared.Refusal.{Refusal}
use Rattle.record.specs.declared.layout.Layout.{Layout}
use Rattle.record.specs.declared.layout.LaidOut.{LaidOut}

-- the numbers of terminals and of wires
pub record Sizes : Type 0 where
  pub n : ℕ
  pub m : ℕ

-- the header's
abbrev pub sizes_of : List ℕ → Sizes
sizes_of bytes = record { n = terminals bytes; m = wires bytes }

-- those of a record that order R lets pass
abbrev pub sizes : Layout → Sizes
sizes l = record { n = l.n; m = l.m }

-- what order R answers, or Check
abbrev pub shape : Result Layout Refusal → Answer Sizes
shape r = answer sizes r

-- what order R and rule 5 answer
abbrev pub laid_shape : Result LaidOut Refusal → Answer Sizes
laid_shape r = answer (λ l. sizes l.layout) r
