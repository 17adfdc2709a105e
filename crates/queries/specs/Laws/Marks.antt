-- Lists of marks: none, one, or as many as a test passes; and a block's part of a section.
use Rattle.std.specs.Prelude.{◌≡◌, refl, Bool, true, false, List, [], ◌∷◌, map, ℕ, zero, suc, ◌+◌, ◌-◌, ◌≤◌, ◌<◌}
use Rattle.std.specs.Prelude.{length, take, drop, get_or}
use Rattle.std.proofs.Common.{sym, ap, ◌∙◌, arith, length-drop, ext_get_or, get_or-take, get_or-drop, length-take-le}
use Rattle.std.proofs.Math.Decide.{dec_lt}
use Rattle.bits.specs.Bits.{count, rank, ones_at, select}
use Rattle.bits.specs.Laws.Select.{select_zero, select_none, select_bounds, select_one, rank_select, select_rank}
use Rattle.graph.specs.Graph.{Blocks, block}
use Rattle.graph.specs.Search.{PlaceTest, count_up}
use Rattle.graph.specs.Laws.Places.Basics.{clash}
use Rattle.graph.specs.Laws.Places.CountUp.{length_each, each_is}
use Rattle.graph.specs.Laws.Edges.Children.{marked}
use Rattle.forest.specs.Index.{section}
use Rattle.forest.specs.Laws.Sections.{place_bit, start_more, start_most, length_section, mark_bit}

-- a mark stands inside the list
pub set_inside : (t : List Bool) (i : ℕ) → get_or t i false ≡ true → i < length t
set_inside [] i e = absurd (clash e refl)
set_inside (b ∷ t) zero e = omega arith
set_inside (b ∷ t) (suc i) e = let r = set_inside t i e in omega arith

-- a one is the one that some k selects
pub one_of : (s : List Bool) (p : ℕ) → get_or s p false ≡ true → (u : ℕ) × (u < count s) × (select s (suc u) ≡ p + 1)
one_of s p e = go (rank s (p + 1)) (select_rank s p e)
  where
    go : (k : ℕ) → select s k ≡ p + 1 → (u : ℕ) × (u < count s) × (select s (suc u) ≡ p + 1)
    go zero f = let z = select_zero s in absurd (omega arith)
    go (suc u) f = (u, few (dec_lt u (count s)), f)
      where
        few : Dec (u < count s) → u < count s
        few (yes l) = l
        few (no l) = let z = select_none s (suc u) (omega arith) in absurd (omega arith)

-- ---- none

pub none_set : (t : List Bool) → ((i : ℕ) → i < length t → get_or t i false ≡ true → ⊥) → count t ≡ 0
none_set t h = go (dec_lt 0 (count t))
  where
    go : Dec (0 < count t) → count t ≡ 0
    go (yes l) =
        let (a, b) = select_bounds t 1 (omega arith) (omega arith) in
        absurd (h (select t 1 - 1) (omega arith) (select_one t 1 (omega arith) (omega arith)))
    go (no l) = omega arith

-- ---- one

module _ (t : List Bool) (i : ℕ) (h : get_or t i false ≡ true) (only : (j : ℕ) → get_or t j false ≡ true → j ≡ i) where
  some : 1 ≤ count t
  some = go (dec_lt 0 (count t))
    where
      go : Dec (0 < count t) → 1 ≤ count t
      go (yes l) = omega arith
      go (no l) =
          let e = select_rank t i h in
          let z = none_or (rank t (i + 1)) e in
          absurd z
        where
          none_or : (k : ℕ) → select t k ≡ i + 1 → ⊥
          none_or zero f = omega (arith, select_none t 1 (omega arith), select_zero t)
          none_or (suc k) f = let y = select_none t (suc k) (omega arith) in omega arith

  pub first_set : select t 1 ≡ i + 1
  first_set =
      let s = some in
      let (a, b) = select_bounds t 1 (omega arith) s in
      let e = only (select t 1 - 1) (select_one t 1 (omega arith) s) in
      omega arith

  pub one_set : count t ≡ 1
  one_set = go (dec_lt 1 (count t))
    where
      go : Dec (1 < count t) → count t ≡ 1
      go (yes l) =
          let (a, b) = select_bounds t 2 (omega arith) (omega arith) in
          let e = only (select t 2 - 1) (select_one t 2 (omega arith) (omega arith)) in
          let f = first_set in
          let q : select t 1 ≡ select t 2 = omega arith in
          let x = rank_select t 1 (omega arith) in
          let y = rank_select t 2 (omega arith) in
          let z = ap (rank t) q in
          absurd (omega arith)
      go (no l) = let s = some in omega arith

-- ---- the k-th one stands at the k-th neighbour that passes

ones_least : (p : ℕ) (t : List Bool) (k : ℕ) → k < count t → p ≤ get_or (ones_at p t) k 0
unfolding count ones_at
ones_least p [] k h = absurd (omega arith)
ones_least p (true ∷ t) zero h = omega arith
ones_least p (true ∷ t) (suc k) h = let r = ones_least (suc p) t k (omega arith) in omega arith
ones_least p (false ∷ t) k h = let r = ones_least (suc p) t k h in omega arith

later : (v : ℕ) (l : List ℕ) {x p : ℕ} → suc p ≤ x → get_or (v ∷ l) (x - p) 0 ≡ get_or l (x - suc p) 0
later v l {x} {p} h = let e : x - p ≡ suc (x - suc p) = omega arith in rw e

ones_each : (f : ℕ → Bool) (i p : ℕ) (l : List ℕ) (k : ℕ) → k < count (map f (count_up i (length l)))
    → get_or l (get_or (ones_at p (map f (count_up i (length l)))) k 0 - p) 0 ≡ get_or (marked f i l) k 0
unfolding count_up count ones_at marked
ones_each f i p [] k h = absurd (omega arith)
ones_each f i p (v ∷ l) k h = go (f i) refl k h (λ q j a. ones_each f (suc i) q l j a)
  where
    go : (b : Bool) → f i ≡ b → (k : ℕ) → k < count (f i ∷ map f (count_up (suc i) (length l)))
        → ((q j : ℕ) → j < count (map f (count_up (suc i) (length l)))
        → get_or l (get_or (ones_at q (map f (count_up (suc i) (length l)))) j 0 - q) 0
        ≡ get_or (marked f (suc i) l) j 0)
        → get_or (v ∷ l) (get_or (ones_at p (f i ∷ map f (count_up (suc i) (length l)))) k 0 - p) 0
        ≡ get_or (marked f i (v ∷ l)) k 0
    go true e zero h rec = let z : p - p ≡ 0 = omega arith in rw (e, marked, ones_at, z)
    go true e (suc k) h rec =
        let c : k < count (map f (count_up (suc i) (length l))) = less e h in
        let m = ones_least (suc p) (map f (count_up (suc i) (length l))) k c in
        rw (e, marked, ones_at) (later v l m ∙ rec (suc p) k c)
      where
        less : {k : ℕ} → f i ≡ true → suc k < count (f i ∷ map f (count_up (suc i) (length l)))
            → k < count (map f (count_up (suc i) (length l)))
        less e h = let x = rw e at h in omega arith
    go false e k h rec =
        let c : k < count (map f (count_up (suc i) (length l))) = rw e at h in
        let m = ones_least (suc p) (map f (count_up (suc i) (length l))) k c in
        rw (e, marked, ones_at) (later v l m ∙ rec (suc p) k c)

pub select_each : (f : ℕ → Bool) (l : List ℕ) (k : ℕ) → k < count (map f (count_up 0 (length l)))
    → get_or l (select (map f (count_up 0 (length l))) (suc k) - 1) 0 ≡ get_or (marked f 0 l) k 0
unfolding select
select_each f l k h = ones_each f 0 1 l k h

-- ---- the block's part of a section

pub block_part : (test : PlaceTest) (g : Blocks) (u : ℕ) → u < length g
    → take (length (block g u)) (drop (place_bit g u 0) (section test g))
    ≡ map (test u) (count_up 0 (length (block g u)))
block_part test g u h =
    let k : ℕ = length (block g u) in
    let a = start_more g u h in
    let b = start_most g (suc u) in
    let s = length_section test g in
    let d = length-drop (place_bit g u 0) (section test g) in
    let l : length (take k (drop (place_bit g u 0) (section test g))) ≡ k =
    length-take-le k (drop (place_bit g u 0) (section test g)) (omega arith) in
    let m : length (map (test u) (count_up 0 k)) ≡ k = length_each (test u) 0 k in
    ext_get_or false (take k (drop (place_bit g u 0) (section test g))) (map (test u) (count_up 0 k)) (l ∙ sym m) (λ i c. (
    let j : i < k = omega arith in
    let z : place_bit g u 0 + i ≡ place_bit g u i = omega arith in
    get_or-take k (drop (place_bit g u 0) (section test g)) i false j
    ∙ get_or-drop (place_bit g u 0) (section test g) i false
    ∙ ap (λ (x : ℕ). get_or (section test g) x false) z
    ∙ mark_bit test g u i h j
    ∙ sym (each_is (test u) false k i j)
    ))
