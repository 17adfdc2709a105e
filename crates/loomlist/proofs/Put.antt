-- What some writes put behind a text.
use Rattle.std.specs.Prelude.{◌≡◌, ℕ, List, [], ◌∷◌, ◌++◌}
use Rattle.std.proofs.Common.{sym, ap, ◌∙◌, append_assoc, append-nil}
use Rattle.std.specs.List.{FoldsTo, concat}
use Rattle.std.specs.Fmt.{WritesInCalls}
use Rattle.arrayvec.specs.ArrayString.{ArrayString}

abbrev Took : ArrayString → List ℕ → ArrayString → Type 0
Took s bytes t = t.bytes ≡ s.bytes ++ bytes

folded : (s t : ArrayString) (parts : List (List ℕ)) → FoldsTo Took s parts t → t.bytes ≡ s.bytes ++ concat parts
folded s t [] e = ap (λ (x : ArrayString). x.bytes) (sym e) ∙ sym (append-nil s.bytes)
folded s t (x ∷ xs) (j, p, q) =
    folded j t xs q ∙ ap (λ (l : List ℕ). l ++ concat xs) p ∙ append_assoc s.bytes x (concat xs)

pub put_behind : {s t : ArrayString} {bytes : List ℕ} → WritesInCalls Took s bytes t → t.bytes ≡ s.bytes ++ bytes
put_behind {s} {t} w = folded s t w.parts w.calls ∙ ap (λ (l : List ℕ). s.bytes ++ l) w.whole
