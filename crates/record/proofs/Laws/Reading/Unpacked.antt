-- Fields that are read into a list.
use mathlib.Core.Path.{◌≡◌, sym, ap, ◌∙◌}
use mathlib.Core.Bool.{Bool}
use mathlib.Core.List.{List}
use Prim.Native.Nat.{ℕ, ◌+◌, ◌*◌, ◌≤◌, ◌<◌}
use native.Mathlib.Omega.{arith}
use lib.ListN.{set}
use Rattle.bits.specs.Bits.{field}
use Rattle.bits.specs.Steps.{FourAt}
use Rattle.record.specs.Record.{fields_from}
use Rattle.record.specs.Steps.{Reading}
use Rattle.record.specs.Laws.Fields.{length_fields_from, fields_from_at}
use Rattle.adjacency.specs.Laws.InOrder.{InOrder, order_more, order_end}

module _ (s : List Bool) (start k : ℕ) where
  in_reading : {list : List ℕ} {i : ℕ} → InOrder (fields_from s start k) list i → Reading s start k list i
  in_reading o =
      let l = length_fields_from s start k in
      record { upto = omega arith; size = omega arith; same = o.same }

module _ {s : List Bool} {start k : ℕ} {list : List ℕ} {i : ℕ} (r : Reading s start k list i) where
  in_order : InOrder (fields_from s start k) list i
  in_order =
      let l = length_fields_from s start k in
      record { upto = omega arith; size = omega arith; same = r.same }

  pub reads_more : {next : List ℕ} (x : ℕ) → i < k → x ≡ field 12 s (start + 12 * i) → next ≡ set list i x
      → Reading s start k next (i + 1)
  reads_more x h e n =
      let l = length_fields_from s start k in
      in_reading s start k (order_more in_order x n (e ∙ sym (fields_from_at s start k i h)) (omega arith))

  pub reads_end : k ≤ i → list ≡ fields_from s start k
  reads_end h = let l = length_fields_from s start k in order_end in_order (omega arith)

-- four fields more
pub reads_four : {s : List Bool} {start k i a b c d : ℕ} {l l₁ l₂ l₃ l₄ : List ℕ} → Reading s start k l i → i + 4 ≤ k
    → FourAt s (start + 12 * i) a b c d → l₁ ≡ set l i a → l₂ ≡ set l₁ (i + 1) b → l₃ ≡ set l₂ (i + 2) c
    → l₄ ≡ set l₃ (i + 3) d
    → Reading s start k l₄ (i + 4)
reads_four {s} {i = i} {a = a} {b = b} {c = c} {d = d} r h f e₁ e₂ e₃ e₄ =
    let n₂ : i + 1 + 1 ≡ i + 2 = omega arith in
    let n₃ : i + 2 + 1 ≡ i + 3 = omega arith in
    let n₄ : i + 3 + 1 ≡ i + 4 = omega arith in
    let r₁ = reads_more r a (omega arith) f.first e₁ in
    let r₂ = rw n₂ at (reads_more r₁ b (omega arith) (f.second ∙ ap (field 12 s) (omega arith)) e₂) in
    let r₃ = rw n₃ at (reads_more r₂ c (omega arith) (f.third ∙ ap (field 12 s) (omega arith)) e₃) in
    rw n₄ at (reads_more r₃ d (omega arith) (f.fourth ∙ ap (field 12 s) (omega arith)) e₄)
