-- What Unpack answers, and the list that it leaves; and the same told by Check in a room.
use mathlib.Core.Path.{◌≡◌, sym, ap, ap₂, ◌∙◌}
use mathlib.Core.Bool.{not}
use mathlib.Core.List.{List, [], ◌∷◌, map}
use Prim.Native.Nat.{ℕ, suc, ◌*◌}
use native.Mathlib.Omega.{arith}
use borrow.Author.Tests.{eq-eqb, ne_eqb}
use lib.ListN.{length, get_or}
use Rattle.record.specs.Record.{wires, fields}
use Rattle.record.specs.Rules.{first_broken, layout_rules, check_rules}
use Rattle.record.specs.Answers.{Answer, refused, answered, tried}
use Rattle.record.specs.Sized.{sizes_of}
use Rattle.record.specs.Operations.{other_length, check, unpack_rules, unpack, unpacked}
use Rattle.record.specs.Steps.{Laid, ArraysOf, Short, Handed}
use Rattle.record.specs.Sized.{Sizes}
use Rattle.record.specs.Laws.First.{first_broken_lem, first_kept, append_kept, append_broken, check_numbered}
use Rattle.record.specs.Laws.Told.{told, untold, told_back, untold_back, told_append, told_same, buffer_kept}
use Rattle.record.specs.Laws.Told.{buffer_written}
use Rattle.record.specs.Laws.Layout.{field_small}
use Rattle.record.specs.Laws.Unpacked.{nbrs_of}

module _ (bytes list : List ℕ) where
  left_alone : {k : ℕ} → first_broken (unpack_rules bytes list) ≡ suc k → list ≡ unpacked bytes list
  unfolding unpacked
  left_alone e = buffer_kept (unpack_rules bytes list) (map suc (fields bytes)) list e

  written : first_broken (unpack_rules bytes list) ≡ 0 → map suc (fields bytes) ≡ unpacked bytes list
  unfolding unpacked
  written e = buffer_written (unpack_rules bytes list) (map suc (fields bytes)) list e

  pub unpack_refused : {A : Type 0} (a : A) {k : ℕ} → refused k ≡ tried (check_rules bytes) a
      → (refused k ≡ unpack bytes list) × (list ≡ unpacked bytes list)
  unfolding unpack unpack_rules
  unpack_refused a e =
      let (i, f, g) = told_back (first_broken (check_rules bytes)) a e in
      let h = append_broken (check_rules bytes) ((10, other_length list (2 * wires bytes)) ∷ []) i f in
      (rw g (told tt h), left_alone h)

  module _ (kept : first_broken (check_rules bytes) ≡ 0) {m : ℕ} (is_m : m ≡ wires bytes) where
    list_told : first_broken (unpack_rules bytes list) ≡ first_broken ((10, other_length list (2 * wires bytes)) ∷ [])
    unfolding unpack_rules
    list_told = append_kept (check_numbered bytes) ((10, other_length list (2 * wires bytes)) ∷ []) kept

    pub unpack_misfit : (length list ≡ 2 * m → ⊥) → (refused 10 ≡ unpack bytes list) × (list ≡ unpacked bytes list)
    unfolding unpack other_length
    unpack_misfit h =
        let d = ne_eqb (length list) (2 * wires bytes) (λ z. h (omega arith)) in
        let f = list_told ∙ first_broken_lem 10 [] (ap not d) in
        (told tt f, left_alone f)

    pub unpack_done : length list ≡ 2 * m
        → (answered tt ≡ unpack bytes list) × (map suc (fields bytes) ≡ unpacked bytes list)
    unfolding unpack other_length first_broken
    unpack_done h =
        let d = eq-eqb (length list) (2 * wires bytes) (omega arith) in
        let f : first_broken (unpack_rules bytes list) ≡ 0 = list_told ∙ first_kept 10 [] (ap not d) in
        (untold tt f, written f)

-- ---- Check in a room

-- a field and one more fits a cell
pub short_of : {bytes starts nbrs : List ℕ} {n m : ℕ} → ArraysOf bytes starts nbrs n m → Short nbrs
short_of {bytes} r i h =
    let s = field_small bytes i in
    let e = ap (λ (l : List ℕ). get_or l i 0) r.are_fields in
    omega arith

accepted : (bytes : List ℕ) → answered tt ≡ check bytes → first_broken (check_rules bytes) ≡ 0
unfolding check
accepted bytes e = (untold_back (first_broken (check_rules bytes)) tt e).0

module _ {bytes list : List ℕ} where
  pub handed_refused : {k : ℕ} → refused k ≡ check bytes → Handed bytes list list (refused k)
  unfolding check
  handed_refused e = record { told = e; left = (unpack_refused bytes list tt e).1 }

  module _ {starts nbrs : List ℕ} {n m : ℕ} (r : ArraysOf bytes starts nbrs n m) (e : answered tt ≡ check bytes) where
    pub handed_misfit : (length list ≡ length nbrs → ⊥) → Handed bytes list list (answered tt)
    handed_misfit d =
        let l = nbrs_of r in
        record {
          told = e;
          left = (unpack_misfit bytes list (accepted bytes e) r.sound.is_m
              (λ z. d (omega arith))).1;
        }

    pub handed_done : length list ≡ length nbrs → {after : List ℕ} → after ≡ map suc nbrs
        → Handed bytes list after (answered tt)
    handed_done s a =
        let l = nbrs_of r in
        let w = (unpack_done bytes list (accepted bytes e) r.sound.is_m (omega arith)).1 in
        record { told = e; left = a ∙ ap (map suc) r.are_fields ∙ w }

-- ---- Check, with the sizes

module _ (bytes list : List ℕ) where
  pub accept_unread : {k : ℕ} → refused k ≡ tried (layout_rules bytes) (sizes_of bytes)
      → (refused k ≡ tried (check_rules bytes) (sizes_of bytes)) × (list ≡ unpacked bytes list)
  unfolding check_rules
  accept_unread e =
      let t = told_append (layout_rules bytes) _ (sizes_of bytes) (sizes_of bytes) e in
      (t, (unpack_refused bytes list (sizes_of bytes) t).1)

module _ {bytes list after : List ℕ} {a : Answer (Unit {0})} (h : Handed bytes list after a) where
  pub accept_refused : {k : ℕ} → a ≡ refused k
      → (refused k ≡ tried (check_rules bytes) (sizes_of bytes)) × (after ≡ unpacked bytes list)
  unfolding check
  accept_refused e = (told_same (check_rules bytes) tt (sizes_of bytes) (sym e ∙ h.told), h.left)

  pub accept_passed : {n m : ℕ} → Laid bytes n m → a ≡ answered tt
      → (answered (record { n = n; m = m }) ≡ tried (check_rules bytes) (sizes_of bytes))
      × (after ≡ unpacked bytes list)
  unfolding check
  accept_passed l e =
      let sized : ℕ → ℕ → Answer Sizes = λ x y. answered (record { n = x; m = y }) in
      let f = (untold_back (first_broken (check_rules bytes)) tt (sym e ∙ h.told)).0 in
      (ap₂ sized l.sound.is_n l.sound.is_m ∙ untold (sizes_of bytes) f, h.left)
