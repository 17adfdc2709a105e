-- A section without marks, and a section with one more mark.
use Rattle.std.specs.Prelude.{◌≡◌, refl, Bool, true, false, ◌&&◌, ◌||◌, ℕ, zero, suc, ◌+◌}
use Rattle.std.specs.Prelude.{◌<◌, eqb, length, take, set, replicate}
use Rattle.std.proofs.Common.{sym, ap, ap₂, ◌∙◌, arith, eq-eqb, ne_eqb, length-append}
use mathlib.Core.List.{List, [], ◌∷◌, ◌++◌, map, flatten}
use Rattle.std.proofs.lemmas.List.{replicate-append-replicate, set-append_left}
use Rattle.graph.specs.Graph.{Blocks, block}
use Rattle.graph.specs.Search.{PlaceTest, count_up}
use Rattle.graph.specs.Laws.Places.CountUp.{length_each, each_same}
use Rattle.record.specs.Record.{lay_out}
use Rattle.forest.specs.Index.{marks_from, section}
use Rattle.forest.specs.Laws.Sections.{place_bit, laid_from, marks_of, marks_same}

-- ---- no mark

-- no place
abbrev pub none : PlaceTest
none u j = false

each_none : (i n : ℕ) → map (none 0) (count_up i n) ≡ replicate n false
unfolding count_up
each_none i zero = refl
each_none i (suc n) = ap (λ (l : List Bool). false ∷ l) (each_none (suc i) n)

laid_none : (t : ℕ) (g : Blocks) → laid_from none t g ≡ replicate (length g + length (flatten g)) false
unfolding lay_out marks_from flatten
laid_none t [] = refl
laid_none t (b ∷ g) =
    let e : suc (length b + (length g + length (flatten g))) ≡ length (b ∷ g) + length (flatten (b ∷ g)) =
    omega (arith, length-append b (flatten g)) in
    ap₂ (λ (x y : List Bool). false ∷ (x ++ y)) (each_none 0 (length b)) (laid_none (suc t) g)
    ∙ ap (λ (x : List Bool). false ∷ x) (replicate-append-replicate (length b) (length g + length (flatten g)) false)
    ∙ ap (λ (k : ℕ). replicate k false) e

pub section_none : (g : Blocks) → section none g ≡ replicate (length g + length (flatten g)) false
unfolding section
section_none g = laid_none 0 g

-- ---- one mark more

-- the place (u, j) too
unfoldable pub also : PlaceTest → ℕ → ℕ → PlaceTest
also test u j x i = (eqb x u && eqb i j) || test x i

also_other : (test : PlaceTest) (u j x i : ℕ) → (x ≡ u → ⊥) → also test u j x i ≡ test x i
unfolding also
also_other test u j x i h = rw (ne_eqb x u h)

set_past : (xs ys : List Bool) (i : ℕ) (a : Bool) {k : ℕ} → length xs ≡ k → set (xs ++ ys) (k + i) a ≡ xs ++ set ys i a
set_past [] ys i a {k} e = let z : k + i ≡ i = omega arith in rw z
set_past (x ∷ xs) ys i a {k} e =
    let z : k + i ≡ suc (length xs + i) = omega arith in
    rw z (ap (λ (l : List Bool). x ∷ l) (set_past xs ys i a refl))

each_set : (f : ℕ → Bool) (i n k : ℕ) → k < n
    → set (map f (count_up i n)) k true ≡ map (λ x. eqb x (i + k) || f x) (count_up i n)
unfolding count_up
each_set f i zero k h = absurd (omega arith)
each_set f i (suc n) zero h =
    let e : i ≡ i + 0 = omega arith in
    ap₂ (λ (x : Bool) (l : List Bool). x ∷ l) (rw (eq-eqb i (i + 0) e))
    (each_same f (λ x. eqb x (i + 0) || f x) (suc i) n (λ k l. rw (ne_eqb (suc i + k) (i + 0) (λ q. omega arith))))
each_set f i (suc n) (suc k) h =
    let e : suc i + k ≡ i + suc k = omega arith in
    ap₂ (λ (x : Bool) (l : List Bool). x ∷ l) (rw (ne_eqb i (i + suc k) (λ q. omega arith)))
    (rw e at (each_set f (suc i) n k (omega arith)))

-- within its block
marks_also : (test : PlaceTest) (t : ℕ) (b : List ℕ) (j : ℕ) → j < length b
    → set (marks_of test t b) j true ≡ marks_of (also test (t + 0) j) t b
unfolding also
marks_also test t b j h =
    let e : t ≡ t + 0 = omega arith in
    let z : 0 + j ≡ j = omega arith in
    each_set (test t) 0 (length b) j h
    ∙ each_same (λ x. eqb x (0 + j) || test t x) (also test (t + 0) j t) 0 (length b)
    (λ k l. rw (z, eq-eqb t (t + 0) e))

laid_also : (test : PlaceTest) (t : ℕ) (g : Blocks) (u j : ℕ) → u < length g → j < length (block g u)
    → set (laid_from test t g) (place_bit g u j) true ≡ laid_from (also test (t + u) j) t g
unfolding lay_out marks_from flatten
laid_also test t [] u j h k = absurd (omega arith)
laid_also test t (b ∷ g) zero j h k =
    let e : 1 + j ≡ suc j = omega arith in
    let inside : j < length (marks_of test t b) = rw (length_each (test t) 0 (length b)) k in
    let rest = marks_same test (also test (t + 0) j) (suc t) g
    (λ x i l m. sym (also_other test (t + 0) j (suc t + x) i (λ q. omega arith))) in
    rw e (ap (λ (x : List Bool). false ∷ x)
    (set-append_left (marks_of test t b) (laid_from test (suc t) g) j true inside
    ∙ ap₂ (λ (x y : List Bool). x ++ y) (marks_also test t b j k) (ap (lay_out false) rest)))
laid_also test t (b ∷ g) (suc u) j h k =
    let e : length (b ++ flatten (take u g)) + suc u + 1 + j ≡ suc (length b + place_bit g u j) =
    omega (arith, length-append b (flatten (take u g))) in
    let y : suc t + u ≡ t + suc u = omega arith in
    let first = each_same (test t) (also test (t + suc u) j t) 0 (length b)
    (λ i l. sym (also_other test (t + suc u) j t (0 + i) (λ q. omega arith))) in
    let rest = rw y at (laid_also test (suc t) g u j (omega arith) k) in
    rw e (ap (λ (x : List Bool). false ∷ x) (set_past (marks_of test t b) _ _ true (length_each (test t) 0 (length b))
    ∙ ap₂ (λ (x y : List Bool). x ++ y) first rest))

pub section_also : (test : PlaceTest) (g : Blocks) (u j : ℕ) → u < length g → j < length (block g u)
    → set (section test g) (place_bit g u j) true ≡ section (also test u j) g
unfolding section
section_also test g u j h k =
    let z : 0 + u ≡ u = omega arith in
    rw z at (laid_also test 0 g u j h k)
