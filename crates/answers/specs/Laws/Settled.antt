-- What an answer says settles the code's value, where there is a way back from what is said to the value.
use Rattle.std.specs.Prelude.{◌≡◌}
use Rattle.std.proofs.Common.{sym, ap, ◌∙◌}

pub settled : {A B : Type 0} (said : A → B) (back : B → A) → ((a : A) → back (said a) ≡ a) → (a : A) {b : B}
    → said a ≡ b → a ≡ back b
settled said back h a e = sym (h a) ∙ ap back e
