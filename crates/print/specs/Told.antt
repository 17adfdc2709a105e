-- The text of an answer: that of its value, or the number of the refusal.
use Rattle.std.specs.Prelude.{ℕ, List, ◌++◌, Option, Some, Result, Ok, Err, codes, decimal}

abbrev pub told : {T : Type 0} → (T → Option (List ℕ)) → Result T ℕ → Option (List ℕ)
told text (Ok value) = text value
told text (Err k) = Some (codes "refused " ++ decimal k)

-- the answer with the text of its value for the value
abbrev pub worded : {T : Type 0} → (T → List ℕ) → Result T ℕ → Result (List ℕ) ℕ
worded text (Ok value) = Ok (text value)
worded text (Err k) = Err k
