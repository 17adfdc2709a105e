-- The marks of one block, k bits from bit `from` of a section on, by the bits of the index.
--   marks_room   E holds them
--   ones_told    how many ones E has there
--   one_told     where E's j-th one stands
--   marks_after  P holds them too
--   lone_told    P's only one
use mathlib.Core.Path.{◌≡◌, sym, ap, subst, ◌∙◌}
use mathlib.Core.Bool.{Bool}
use mathlib.Core.List.{List}
use Prim.Native.Nat.{ℕ, ◌+◌, ◌*◌, ◌≤◌}
use native.Mathlib.Omega.{arith}
use borrow.Author.Tests.{le-leb}
use lib.ListN.{length, take, drop}
use Rattle.bits.specs.Bits.{bits, string, count, rank, select}
use Rattle.bits.specs.Spans.{LoneOf}
use Rattle.bits.specs.declared.spans.Lone.{Lone}
use Rattle.bits.specs.Laws.Rank.{rank_inside}
use Rattle.forest.specs.Index.{mark_bytes}
use Rattle.queries.specs.View.{section_of}
use Rattle.queries.specs.Steps.{Framed}
use Rattle.queries.specs.Laws.Framed.{marks_fit, section_part}

module _ {index : List ℕ} {n m : ℕ} (f : Framed index n m) (from k : ℕ) (h : from + k ≤ n + 2 * m) where
  -- ---- E, which begins with the index

  pub marks_room : (from + k ≤ 8 * length index) × (from + k ≤ 1048576)
  marks_room =
      let (a, b) = marks_fit f in
      let x = f.n_fits in
      let y = f.m_fits in
      (omega arith, omega arith)

  first : take k (drop from (section_of n m index 0)) ≡ take k (drop from (bits index))
  first =
      let e : 8 * (0 * mark_bytes n m) + from ≡ from = omega arith in
      section_part index n m f.sized 0 (omega arith) k from h ∙ ap (λ (x : ℕ). take k (drop x (bits index))) e

  pub ones_told : {r : ℕ} → r ≡ rank (string index from k) k → r ≡ count (take k (drop from (section_of n m index 0)))
  ones_told e =
      let held = le-leb (from + k) (8 * length index) marks_room.0 in
      e ∙ rank_inside index from k k held (omega arith) ∙ ap count (sym first)

  pub one_told : (j : ℕ) {r : ℕ} → r ≡ select (take k (drop from (bits index))) j
      → r ≡ select (take k (drop from (section_of n m index 0))) j
  one_told j e = e ∙ ap (λ (t : List Bool). select t j) (sym first)

  -- ---- P, which begins after b bytes

  module _ {b : ℕ} (e : b ≡ mark_bytes n m) where
    pub marks_after : b ≤ 4608 → (8 * b + from + k ≤ 8 * length index) × (8 * b + from + k ≤ 1048576)
    marks_after l =
        let (x, y) = marks_fit f in
        let z = f.n_fits in
        let w = f.m_fits in
        (omega arith, omega arith)

    second : take k (drop from (section_of n m index 1)) ≡ take k (drop (8 * b + from) (bits index))
    second =
        let q : 8 * (1 * mark_bytes n m) + from ≡ 8 * b + from = omega arith in
        section_part index n m f.sized 1 (omega arith) k from h ∙ ap (λ (x : ℕ). take k (drop x (bits index))) q

    pub lone_told : (r : Lone) → LoneOf (take k (drop (8 * b + from) (bits index))) r
        → LoneOf (take k (drop from (section_of n m index 1))) r
    lone_told r l = subst (λ (t : List Bool). LoneOf t r) (sym second) l
