-- The bits of a section of marks: without a mark, and with the marks of one more owner.
--   sized_bytes, sized_bits   the bytes of a section, by the vertices and the places themselves
--   length_marks  a section has so many bytes
--   bit_fits     the bit of a place is one of the section's
--   no_marks     a section without marks is zeros
--   bits_also    the bit of a place is set
--   same_bits    bytes are the section where their bits are
--   Same, Own    one place; a place has a mark that c owns
--   owns_none, owns_one, owns_two   c owns no mark, one, or two
--   upto_none, upto_all   no owner, and all
use mathlib.Core.Path.{◌≡◌, refl, sym, ap, ◌∙◌}
use mathlib.Core.Logic.{◌⊎◌, inl, inr, ◌↔◌}
use mathlib.Core.Bool.{Bool, true, false, ◌&&◌, ◌||◌}
use mathlib.Core.List.{List, flatten}
use Prim.Native.Nat.{ℕ, suc, ◌+◌, ◌-◌, ◌*◌, ◌/◌, ◌≤◌, ◌<◌}
use native.Mathlib.Decide.{ℕ_discrete}
use native.Mathlib.Omega.{arith}
use borrow.Author.Tests.{eq-eqb, eqb-true, ltb-true, lt-ltb}
use lib.Dec.{eqb, ltb}
use lib.ListN.{length, set, replicate, replicate-append-replicate}
use lib.Seq.{set-append_left}
use Rattle.bits.specs.Bits.{bits, pack}
use Rattle.bits.specs.Laws.Bytes.{AreBytes}
use Rattle.bits.specs.Laws.Packing.{length_pack, bits_pack, pack_bytes, bits_injective}
use Rattle.graph.specs.Graph.{Blocks, block}
use Rattle.graph.specs.Search.{PlaceTest}
use Rattle.graph.specs.Laws.Places.Basics.{same_outcome, or_cases, or_left, or_right, and_parts, and_both, clash}
use Rattle.graph.specs.Laws.Places.Pairing.{place_at, source}
use Rattle.forest.specs.Index.{section, mark_bytes}
use Rattle.forest.specs.Marks.{up_to, marked}
use Rattle.forest.proofs.Laws.Graphs.{Sized}
use Rattle.forest.specs.Laws.Sections.{place_bit, start_more, start_most, length_section, section_same}
use Rattle.forest.specs.Laws.Marking.{none, section_none, also, section_also}

-- ---- bits

pub bit_fits : (g : Blocks) (u j : ℕ) → j < length (block g u) → place_bit g u j < length g + length (flatten g)
bit_fits g u j h =
    let i = source (place_at {g = g} {u = u} h) in
    omega (arith, start_more g u i, start_most g (suc u))

-- the zero bits after k others in the last byte
abbrev fill : ℕ → List Bool
fill k = replicate (8 * ((k + 7) / 8) - k) false

module _ {g : Blocks} {n m k : ℕ} (z : Sized g n m k) where
  pub sized_bytes : k ≡ (length g + length (flatten g) + 7) / 8
  unfolding mark_bytes
  sized_bytes = rw (z.vertices, z.places) z.bytes

  -- there is room for all bits
  pub sized_bits : length g + length (flatten g) ≤ 8 * k
  sized_bits = let e = sized_bytes in omega arith

  pub length_marks : (test : PlaceTest) → length (marked g test) ≡ k
  length_marks test =
      length_pack (section test g) ∙ ap (λ (x : ℕ). (x + 7) / 8) (length_section test g) ∙ sym sized_bytes

pub no_marks : {g : Blocks} {n m k : ℕ} → Sized g n m k → replicate (8 * k) false ≡ bits (marked g none)
no_marks {g} {k = k} z =
    let e = sized_bytes z in
    let l : ℕ = length g + length (flatten g) in
    let r : 8 * k ≡ l + (8 * ((l + 7) / 8) - l) = omega arith in
    let zeros = replicate-append-replicate l (8 * ((l + 7) / 8) - l) false in
    cc (bits_pack (section none g), section_none g, length_section none g)

pub bits_also : (g : Blocks) (test : PlaceTest) (u j : ℕ) → j < length (block g u)
    → set (bits (marked g test)) (place_bit g u j) true ≡ bits (marked g (also test u j))
bits_also g test u j h =
    let e = length_section test g in
    let l = e ∙ sym (length_section (also test u j) g) in
    let f : place_bit g u j < length (section test g) = omega (arith, bit_fits g u j h) in
    let one = section_also test g u j (source (place_at {g = g} {u = u} h)) h in
    let whole = set-append_left (section test g) (fill (length (section test g))) (place_bit g u j) true f in
    cc (bits_pack (section test g), bits_pack (section (also test u j) g))

pub same_bits : (g : Blocks) (test : PlaceTest) {bytes : List ℕ} → AreBytes bytes → bits bytes ≡ bits (marked g test)
    → bytes ≡ marked g test
same_bits g test {bytes} are e = bits_injective bytes (marked g test) are (pack_bytes (section test g)) e

-- two tests that pass at the same places
same_marks : (g : Blocks) (a b : PlaceTest)
    → ((x i : ℕ) → x < length g → i < length (block g x) → (a x i ≡ true) ↔ (b x i ≡ true)) → marked g a ≡ marked g b
same_marks g a b h = ap pack (section_same a b g (λ x i k l. same_outcome (a x i) (b x i) (h x i k l)))

-- ---- the marks of one more owner

-- one place
pub record Same (x i u j : ℕ) : Type 0 where
  pub vertex : x ≡ u
  pub position : i ≡ j

also_true : (test : PlaceTest) (u j x i : ℕ) → (also test u j x i ≡ true) ↔ (Same x i u j ⊎ (test x i ≡ true))
unfolding also
also_true test u j x i = (there, back)
  where
    there : ((eqb x u && eqb i j) || test x i) ≡ true → Same x i u j ⊎ (test x i ≡ true)
    there e = elim (or_cases (eqb x u && eqb i j) (test x i) e) [
      | inl a ↦ inl (
          let (p, q) = and_parts (eqb x u) (eqb i j) a in
          record { vertex = eqb-true x u p; position = eqb-true i j q }
          )
      | inr b ↦ inr b
    ]

    back : Same x i u j ⊎ (test x i ≡ true) → ((eqb x u && eqb i j) || test x i) ≡ true
    back (inl s) = or_left (test x i) (and_both (eq-eqb x u s.vertex) (eq-eqb i j s.position))
    back (inr e) = or_right (eqb x u && eqb i j) e

-- the place (x, i) has a mark that c owns
pub record Own (mark : PlaceTest) (owner : ℕ → ℕ → ℕ) (c x i : ℕ) : Type 0 where
  pub is_marked : mark x i ≡ true
  pub owned : owner x i ≡ c

upto_true : (mark : PlaceTest) (owner : ℕ → ℕ → ℕ) (k x i : ℕ)
    → (up_to mark owner k x i ≡ true) ↔ ((mark x i ≡ true) × (owner x i < k))
unfolding up_to
upto_true mark owner k x i = (
  λ e. (let (a, b) = and_parts (mark x i) (ltb (owner x i) k) e in (a, ltb-true (owner x i) k b)),
  λ h. and_both h.0 (lt-ltb (owner x i) k h.1),
)

-- c owns it, or an owner before c
abbrev Upto : PlaceTest → (ℕ → ℕ → ℕ) → ℕ → ℕ → ℕ → Type 0
Upto mark owner c x i = Own mark owner c x i ⊎ (up_to mark owner c x i ≡ true)

module _ (g : Blocks) (mark : PlaceTest) (owner : ℕ → ℕ → ℕ) (c : ℕ) where
  -- a test that passes at those places too
  upto_more : (test : PlaceTest)
      → ((x i : ℕ) → x < length g → i < length (block g x) → (test x i ≡ true) ↔ Upto mark owner c x i)
      → marked g test ≡ marked g (up_to mark owner (c + 1))
  upto_more test h = same_marks g test (up_to mark owner (c + 1)) (λ x i a b. (
    λ e. there x i ((h x i a b).0 e),
    λ e. (h x i a b).1 (back x i e (ℕ_discrete (owner x i) c)),
  ))
    where
      there : (x i : ℕ) → Upto mark owner c x i → up_to mark owner (c + 1) x i ≡ true
      there x i (inl o) = let q = o.owned in (upto_true mark owner (c + 1) x i).1 (o.is_marked, omega arith)
      there x i (inr e) =
          let (a, b) = (upto_true mark owner c x i).0 e in
          (upto_true mark owner (c + 1) x i).1 (a, omega arith)

      back : (x i : ℕ) → up_to mark owner (c + 1) x i ≡ true → Dec (owner x i ≡ c) → Upto mark owner c x i
      back x i e (yes q) = inl (record { is_marked = ((upto_true mark owner (c + 1) x i).0 e).0; owned = q })
      back x i e (no d) =
          let (a, b) = (upto_true mark owner (c + 1) x i).0 e in
          inr ((upto_true mark owner c x i).1 (a, omega arith))

  pub owns_none : ((x i : ℕ) → i < length (block g x) → Own mark owner c x i → ⊥)
      → marked g (up_to mark owner c) ≡ marked g (up_to mark owner (c + 1))
  owns_none h =
      upto_more (up_to mark owner c) (λ x i a b. (λ e. inr e, λ s. elim s [ inl o ↦ absurd (h x i b o) | inr e ↦ e ]))

  pub owns_one : {u j : ℕ} → Own mark owner c u j
      → ((x i : ℕ) → i < length (block g x) → Own mark owner c x i → Same x i u j)
      → marked g (also (up_to mark owner c) u j) ≡ marked g (up_to mark owner (c + 1))
  owns_one {u} {j} o h = upto_more (also (up_to mark owner c) u j) (λ x i a b. (there x i, λ s. back x i b s))
    where
      there : (x i : ℕ) → also (up_to mark owner c) u j x i ≡ true → Upto mark owner c x i
      there x i e = elim ((also_true (up_to mark owner c) u j x i).0 e) [
        | inl s ↦ inl (rw (s.vertex, s.position) o)
        | inr q ↦ inr q
      ]

      back : (x i : ℕ) → i < length (block g x) → Upto mark owner c x i → also (up_to mark owner c) u j x i ≡ true
      back x i b s = (also_true (up_to mark owner c) u j x i).1 (elim s [ inl q ↦ inl (h x i b q) | inr e ↦ inr e ])

  pub owns_two : {u j w k : ℕ} → Own mark owner c u j → Own mark owner c w k
      → ((x i : ℕ) → i < length (block g x) → Own mark owner c x i → Same x i u j ⊎ Same x i w k)
      → marked g (also (also (up_to mark owner c) u j) w k) ≡ marked g (up_to mark owner (c + 1))
  owns_two {u} {j} {w} {k} o p h = upto_more (also first w k) (λ x i a b. (there x i, λ s. back x i b s))
    where
      first : PlaceTest
      first = also (up_to mark owner c) u j

      there : (x i : ℕ) → also first w k x i ≡ true → Upto mark owner c x i
      there x i e = elim ((also_true first w k x i).0 e) [
        | inl s ↦ inl (rw (s.vertex, s.position) p)
        | inr q ↦ elim ((also_true (up_to mark owner c) u j x i).0 q) [
          | inl s ↦ inl (rw (s.vertex, s.position) o)
          | inr t ↦ inr t
        ]
      ]

      back : (x i : ℕ) → i < length (block g x) → Upto mark owner c x i → also first w k x i ≡ true
      back x i b (inr e) = (also_true first w k x i).1 (inr ((also_true (up_to mark owner c) u j x i).1 (inr e)))
      back x i b (inl q) = (also_true first w k x i).1 (elim (h x i b q) [
        | inl s ↦ inr ((also_true (up_to mark owner c) u j x i).1 (inl s))
        | inr s ↦ inl s
      ])

-- ---- no owner, and all

module _ (g : Blocks) (mark : PlaceTest) (owner : ℕ → ℕ → ℕ) where
  pub upto_none : marked g none ≡ marked g (up_to mark owner 0)
  upto_none = same_marks g none (up_to mark owner 0) (λ x i a b. (
    λ e. absurd (clash e refl),
    λ e. (let (p, q) = (upto_true mark owner 0 x i).0 e in absurd (omega arith)),
  ))

  pub upto_all : {k : ℕ} → ((x i : ℕ) → x < length g → i < length (block g x) → owner x i < k)
      → marked g (up_to mark owner k) ≡ marked g mark
  upto_all {k} h = same_marks g (up_to mark owner k) mark (λ x i a b. (
    λ e. ((upto_true mark owner k x i).0 e).0,
    λ e. (upto_true mark owner k x i).1 (e, h x i a b),
  ))
