-- Demand 3, from what the calls of Build and Head answer.
use mathlib.Core.Path.{◌≡◌, sym, ap, subst, ◌∙◌}
use mathlib.Core.List.{List}
use Prim.Native.Nat.{ℕ}
use Rattle.record.specs.Answers.{Answer, answered}
use Rattle.forest.specs.Operations.{build, built}
use Rattle.queries.specs.Operations.{head}
use Rattle.queries.specs.Written.{Terminal, HeadsTell}
use Rattle.queries.specs.Demands.{build_writes, heads_tell}

pub paired : (bytes : List ℕ) (start : ℕ) (work buffer : List ℕ) {index : List ℕ} {u v : ℕ} {x y : Answer ℕ}
    → index ≡ built bytes start work buffer → x ≡ head bytes index u → y ≡ head bytes index v
    → build bytes start work buffer ≡ answered tt → Terminal bytes u → Terminal bytes v
    → HeadsTell bytes start u v x y
paired bytes start work buffer {u = u} {v = v} {x = x} {y = y} is ex ey e t r =
    let after : List ℕ = built bytes start work buffer in
    let (w, same) = build_writes bytes start work buffer e in
    let h = subst (λ (s : ℕ). HeadsTell bytes s u v (head bytes after u) (head bytes after v)) same
    (heads_tell w t r) in
    let fx : x ≡ head bytes after u = ex ∙ ap (λ (i : List ℕ). head bytes i u) is in
    let fy : y ≡ head bytes after v = ey ∙ ap (λ (i : List ℕ). head bytes i v) is in
    record {
      first_head = fx ∙ h.first_head;
      second_head = fy ∙ h.second_head;
      equal_exactly = (λ q. h.equal_exactly.0 (sym fx ∙ q ∙ fy), λ d. fx ∙ h.equal_exactly.1 d ∙ sym fy);
    }
