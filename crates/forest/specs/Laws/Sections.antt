-- The bits of a section: how many they are, and where those of a vertex and of its block stand; and the stored numbers.
use Rattle.std.specs.Prelude.{◌≡◌, refl, Bool, false, ℕ, zero, suc, ◌+◌, ◌≤◌, ◌<◌, length, take, get_or}
use Rattle.std.proofs.Common.{ap, ap₂, ◌∙◌, arith, length-append, get_or-append-add}
use mathlib.Core.List.{List, [], ◌∷◌, ◌++◌, map, flatten}
use Rattle.std.proofs.Math.ListN.{get_or-append}
use Rattle.graph.specs.Graph.{Blocks, block}
use Rattle.graph.specs.Search.{Forest, PlaceTest, count_up}
use Rattle.graph.specs.Forest.{number}
use Rattle.graph.specs.Laws.Places.CountUp.{length_each, each_is, each_same}
use Rattle.record.specs.Record.{lay_out}
use Rattle.forest.specs.Index.{marks_from, section, numbers}

-- ---- sections

-- the places in the blocks before u's
abbrev pub block_start : Blocks → ℕ → ℕ
block_start g u = length (flatten (take u g))

-- the bit of the place (u, j)
abbrev pub place_bit : Blocks → ℕ → ℕ → ℕ
place_bit g u j = block_start g u + u + 1 + j

-- one block further
pub start_more : (g : Blocks) (u : ℕ) → u < length g → block_start g (suc u) ≡ block_start g u + length (block g u)
unfolding flatten
start_more [] u h = absurd (omega arith)
start_more (b ∷ g) zero h = let e : length (b ++ []) ≡ length b + 0 = length-append b [] in omega arith
start_more (b ∷ g) (suc u) h =
    let r = start_more g u (omega arith) in
    omega (arith, length-append b (flatten (take (suc u) g)), length-append b (flatten (take u g)))

pub start_most : (g : Blocks) (u : ℕ) → block_start g u ≤ length (flatten g)
unfolding flatten
start_most g zero = omega arith
start_most [] (suc u) = omega arith
start_most (b ∷ g) (suc u) =
    let r = start_most g u in
    omega (arith, length-append b (flatten (take u g)), length-append b (flatten g))

-- the marks laid out, where the first block is vertex u's
abbrev pub laid_from : PlaceTest → ℕ → Blocks → List Bool
laid_from test u g = lay_out false (marks_from test u g)

-- the marks of one block
abbrev pub marks_of : PlaceTest → ℕ → List ℕ → List Bool
marks_of test u b = map (test u) (count_up 0 (length b))

length_laid : (test : PlaceTest) (u : ℕ) (g : Blocks) → length (laid_from test u g) ≡ length g + length (flatten g)
unfolding lay_out marks_from flatten
length_laid test u [] = refl
length_laid test u (b ∷ g) =
    let each = length_each (test u) 0 (length b) in
    let rest = length_laid test (suc u) g in
    omega (arith, length-append (marks_of test u b) (laid_from test (suc u) g), length-append b (flatten g))

pub length_section : (test : PlaceTest) (g : Blocks) → length (section test g) ≡ length g + length (flatten g)
unfolding section
length_section test g = length_laid test 0 g

pub marks_same : (a b : PlaceTest) (u : ℕ) (g : Blocks)
    → ((x j : ℕ) → x < length g → j < length (block g x) → a (u + x) j ≡ b (u + x) j)
    → marks_from a u g ≡ marks_from b u g
unfolding marks_from
marks_same a b u [] e = refl
marks_same a b u (l ∷ g) e =
    ap₂ (λ (x : List Bool) (xs : List (List Bool)). x ∷ xs) (each_same (a u) (b u) 0 (length l) first)
    (marks_same a b (suc u) g rest)
  where
    first : (j : ℕ) → j < length l → a u (0 + j) ≡ b u (0 + j)
    first j k =
        let z : u + 0 ≡ u = omega arith in
        let y : 0 + j ≡ j = omega arith in
        rw y (rw z at (e 0 j (omega arith) k))

    rest : (x j : ℕ) → x < length g → j < length (block g x) → a (suc u + x) j ≡ b (suc u + x) j
    rest x j k l = let c : u + suc x ≡ suc u + x = omega arith in rw c at (e (suc x) j (omega arith) l)

-- tests that agree at every place
pub section_same : (a b : PlaceTest) (g : Blocks)
    → ((u j : ℕ) → u < length g → j < length (block g u) → a u j ≡ b u j) → section a g ≡ section b g
unfolding section
section_same a b g e =
    ap (lay_out false) (marks_same a b 0 g (λ u j k l. let z : 0 + u ≡ u = omega arith in rw z (e u j k l)))

-- past the first vertex's bits
laid_on : (test : PlaceTest) (u : ℕ) (b : List ℕ) (g : Blocks) (k : ℕ)
    → get_or (laid_from test u (b ∷ g)) (suc (length b + k)) false ≡ get_or (laid_from test (suc u) g) k false
unfolding lay_out marks_from
laid_on test u b g k =
    rw (length_each (test u) 0 (length b)) at
    (get_or-append-add (marks_of test u b) (laid_from test (suc u) g) k false)

own_from : (test : PlaceTest) (t : ℕ) (g : Blocks) (u : ℕ) → u < length g
    → get_or (laid_from test t g) (block_start g u + u) false ≡ false
unfolding lay_out marks_from flatten
own_from test t [] u h = absurd (omega arith)
own_from test t (b ∷ g) zero h = refl
own_from test t (b ∷ g) (suc u) h =
    let e : length (b ++ flatten (take u g)) + suc u ≡ suc (length b + (block_start g u + u)) =
    omega (arith, length-append b (flatten (take u g))) in
    rw e (laid_on test t b g (block_start g u + u) ∙ own_from test (suc t) g u (omega arith))

mark_from : (test : PlaceTest) (t : ℕ) (g : Blocks) (u j : ℕ) → u < length g → j < length (block g u)
    → get_or (laid_from test t g) (block_start g u + u + 1 + j) false ≡ test (t + u) j
unfolding lay_out marks_from flatten
mark_from test t [] u j h k = absurd (omega arith)
mark_from test t (b ∷ g) zero j h k =
    let e : 1 + j ≡ suc j = omega arith in
    let l : j < length (marks_of test t b) = rw (length_each (test t) 0 (length b)) k in
    let y : t + 0 ≡ t = omega arith in
    rw (e, y) (get_or-append (marks_of test t b) (laid_from test (suc t) g) false j l
    ∙ each_is (test t) false (length b) j k)
mark_from test t (b ∷ g) (suc u) j h k =
    let e : length (b ++ flatten (take u g)) + suc u + 1 + j ≡ suc (length b + (block_start g u + u + 1 + j)) =
    omega (arith, length-append b (flatten (take u g))) in
    let y : suc t + u ≡ t + suc u = omega arith in
    rw (e, ← y) (laid_on test t b g (block_start g u + u + 1 + j) ∙ mark_from test (suc t) g u j (omega arith) k)

-- the bit of a vertex itself
pub own_bit : (test : PlaceTest) (g : Blocks) (u : ℕ) → u < length g
    → get_or (section test g) (block_start g u + u) false ≡ false
unfolding section
own_bit test g u h = own_from test 0 g u h

-- the bit of a place
pub mark_bit : (test : PlaceTest) (g : Blocks) (u j : ℕ) → u < length g → j < length (block g u)
    → get_or (section test g) (place_bit g u j) false ≡ test u j
unfolding section
mark_bit test g u j h k = let z : 0 + u ≡ u = omega arith in rw z at (mark_from test 0 g u j h k)

-- ---- the numbers

pub length_numbers : (g : Blocks) (F : Forest) → length (numbers g F) ≡ length g
unfolding numbers
length_numbers g F = length_each (number F) 0 (length g)

pub number_at : (g : Blocks) (F : Forest) (v : ℕ) → v < length g → get_or (numbers g F) v 0 ≡ number F v
unfolding numbers
number_at g F v h = each_is (number F) 0 (length g) v h
