-- Select: in a joined string, in a prefix, and as the inverse of rank.
use Rattle.std.specs.Prelude.{◌≡◌, refl, Bool, true, false, List, [], ◌∷◌, ◌++◌, ℕ, zero, suc, ◌+◌, ◌-◌, ◌*◌, ◌≤◌, ◌<◌}
use Rattle.std.specs.Prelude.{leb, length, take, drop, get_or}
use Rattle.std.proofs.Common.{sym, ap, ap₂, ◌∙◌, add-suc, one-add, arith, le-leb, length-take, take-append-drop}
use Rattle.std.proofs.Common.{get_or-append-add, length-take-le, take_all}
use Rattle.std.proofs.Math.Decide.{dec_le}
use Rattle.std.proofs.lemmas.Bool.{lt-leb}
use Rattle.std.proofs.Math.ListN.{get_or-append, get_or-eq_default}
use Rattle.bits.specs.Bits.{bits, string, count, rank, ones_at, select, bit}
use Rattle.bits.specs.Steps.{within}
use Rattle.bits.specs.Laws.Rank.{count_cons, count_append, held, not_held, length_string, rank_le}

-- ---- the places of the ones

length_ones_at : (p : ℕ) (s : List Bool) → length (ones_at p s) ≡ count s
unfolding ones_at count
length_ones_at p [] = refl
length_ones_at p (true ∷ s) = ap suc (length_ones_at (suc p) s)
length_ones_at p (false ∷ s) = length_ones_at (suc p) s

ones_at_append : (p : ℕ) (s t : List Bool) → ones_at p (s ++ t) ≡ ones_at p s ++ ones_at (length s + p) t
unfolding ones_at
ones_at_append p [] t = ap (λ (n : ℕ). ones_at n t) (omega arith)
ones_at_append p (true ∷ s) t =
    let e : length s + suc p ≡ suc (length s) + p = omega arith in
    rw (← e) (ap (λ (l : List ℕ). p ∷ l) (ones_at_append (suc p) s t))
ones_at_append p (false ∷ s) t =
    let e : length s + suc p ≡ suc (length s) + p = omega arith in
    rw (← e) (ones_at_append (suc p) s t)

-- numbered from m places further on
ones_at_further : (m p : ℕ) (s : List Bool) (j : ℕ) → j < count s
    → get_or (ones_at (m + p) s) j 0 ≡ m + get_or (ones_at p s) j 0
unfolding ones_at count
ones_at_further m p [] j h = absurd (omega arith)
ones_at_further m p (true ∷ s) zero h = refl
ones_at_further m p (true ∷ s) (suc j) h = rw (← add-suc m p) (ones_at_further m (suc p) s j (omega arith))
ones_at_further m p (false ∷ s) j h = rw (← add-suc m p) (ones_at_further m (suc p) s j h)

-- each is one of the string's places
ones_at_bounds : (p : ℕ) (s : List Bool) (j : ℕ) → j < count s
    → (p ≤ get_or (ones_at p s) j 0) × (get_or (ones_at p s) j 0 < p + length s)
unfolding ones_at count
ones_at_bounds p [] j h = absurd (omega arith)
ones_at_bounds p (true ∷ s) zero h = omega arith
ones_at_bounds p (true ∷ s) (suc j) h = let b = ones_at_bounds (suc p) s j (omega arith) in omega arith
ones_at_bounds p (false ∷ s) j h = let b = ones_at_bounds (suc p) s j h in omega arith

-- each is the place of a one
ones_at_one : (p : ℕ) (s : List Bool) (j : ℕ) → j < count s → get_or s (get_or (ones_at p s) j 0 - p) false ≡ true
unfolding ones_at count
ones_at_one p [] j h = absurd (omega arith)
ones_at_one p (true ∷ s) zero h = let e : p - p ≡ 0 = omega arith in ap (λ (n : ℕ). get_or (true ∷ s) n false) e
ones_at_one p (true ∷ s) (suc j) h =
    let b = ones_at_bounds (suc p) s j (omega arith) in
    let e : get_or (ones_at (suc p) s) j 0 - p ≡ suc (get_or (ones_at (suc p) s) j 0 - suc p) = omega arith in
    ap (λ (n : ℕ). get_or (true ∷ s) n false) e ∙ ones_at_one (suc p) s j (omega arith)
ones_at_one p (false ∷ s) j h =
    let b = ones_at_bounds (suc p) s j h in
    let e : get_or (ones_at (suc p) s) j 0 - p ≡ suc (get_or (ones_at (suc p) s) j 0 - suc p) = omega arith in
    ap (λ (n : ℕ). get_or (false ∷ s) n false) e ∙ ones_at_one (suc p) s j h

-- ---- select

pub select_zero : (s : List Bool) → select s 0 ≡ 0
unfolding select
select_zero s = refl

-- fewer ones
pub select_none : (s : List Bool) (k : ℕ) → count s < k → select s k ≡ 0
unfolding select
select_none s zero h = refl
select_none s (suc k) h = get_or-eq_default (ones_at 1 s) 0 (omega (arith, length_ones_at 1 s))

pub select_bounds : (s : List Bool) (k : ℕ) → 1 ≤ k → k ≤ count s → (1 ≤ select s k) × (select s k ≤ length s)
unfolding select
select_bounds s zero h l = absurd (omega arith)
select_bounds s (suc k) h l = let b = ones_at_bounds 1 s k l in omega arith

-- there stands a one
pub select_one : (s : List Bool) (k : ℕ) → 1 ≤ k → k ≤ count s → get_or s (select s k - 1) false ≡ true
unfolding select
select_one s zero h l = absurd (omega arith)
select_one s (suc k) h l = ones_at_one 1 s k l

pub select_le : (s : List Bool) (k : ℕ) → select s k ≤ length s
select_le s k = go (dec_le 1 k) (dec_le k (count s))
  where
    go : Dec (1 ≤ k) → Dec (k ≤ count s) → select s k ≤ length s
    go (yes h) (yes l) = (select_bounds s k h l).1
    go (yes h) (no l) = omega (arith, select_none s k (omega arith))
    go (no h) d = let e : k ≡ 0 = omega arith in omega (arith, ap (select s) e, select_zero s)

-- the k-th one is in the first of two strings
pub select_left : (s t : List Bool) (k : ℕ) → k ≤ count s → select (s ++ t) k ≡ select s k
unfolding select
select_left s t zero h = refl
select_left s t (suc k) h =
    ap (λ (l : List ℕ). get_or l k 0) (ones_at_append 1 s t)
    ∙ get_or-append (ones_at 1 s) (ones_at (length s + 1) t) 0 k (rw (length_ones_at 1 s) h)

-- it is in the second
pub select_right : (s t : List Bool) (k : ℕ) → count s < k → k ≤ count s + count t
    → select (s ++ t) k ≡ length s + select t (k - count s)
unfolding select
select_right s t zero h l = absurd (omega arith)
select_right s t (suc k) h l =
    let i : ℕ = k - count s in
    let e : k ≡ length (ones_at 1 s) + i = omega (arith, length_ones_at 1 s) in
    let f : suc k - count s ≡ suc i = omega arith in
    rw f
    (ap₂ (λ (x : List ℕ) (n : ℕ). get_or x n 0) (ones_at_append 1 s t) e
    ∙ get_or-append-add (ones_at 1 s) (ones_at (length s + 1) t) i 0
    ∙ ones_at_further (length s) 1 t i (omega arith))

-- past the first string: the place in the second, if there is one
pub select_right_found : (s t : List Bool) (k : ℕ) → count s < k → 1 ≤ select t (k - count s)
    → select (s ++ t) k ≡ length s + select t (k - count s)
select_right_found s t k h p = go (dec_le k (count s + count t))
  where
    go : Dec (k ≤ count s + count t) → select (s ++ t) k ≡ length s + select t (k - count s)
    go (yes l) = select_right s t k h l
    go (no l) = absurd (omega (arith, select_none t (k - count s) (omega arith)))

pub select_right_none : (s t : List Bool) (k : ℕ) → count s < k → select t (k - count s) ≡ 0 → select (s ++ t) k ≡ 0
select_right_none s t k h e = go (dec_le k (count s + count t))
  where
    go : Dec (k ≤ count s + count t) → select (s ++ t) k ≡ 0
    go (yes l) = let b = select_bounds t (k - count s) (omega arith) (omega arith) in absurd (omega arith)
    go (no l) = select_none (s ++ t) k (omega (arith, count_append s t))

-- ---- a limit

pub within_in : (limit p : ℕ) → p ≤ limit → within limit p ≡ p
unfolding within
within_in limit p h = rw (le-leb p limit h, within)

pub within_out : (limit p : ℕ) → limit < p → within limit p ≡ 0
unfolding within
within_out limit p h = rw (lt-leb p limit h, within)

-- a prefix has the places up to its end
pub select_take : (s : List Bool) (n k : ℕ) → select (take n s) k ≡ within n (select s k)
select_take s n k = go (dec_le k (count (take n s))) (dec_le k (count s))
  where
    whole : take n s ++ drop n s ≡ s
    whole = take-append-drop n s

    go : Dec (k ≤ count (take n s)) → Dec (k ≤ count s) → select (take n s) k ≡ within n (select s k)
    go (yes h) d =
        let e : select s k ≡ select (take n s) k =
        ap (λ (t : List Bool). select t k) (sym whole) ∙ select_left (take n s) (drop n s) k h in
        let l : select s k ≤ n = omega (arith, e, select_le (take n s) k, length-take n s) in
        sym e ∙ sym (within_in n (select s k) l)
    go (no h) (yes d) =
        let c : count s ≡ count (take n s) + count (drop n s) =
        ap count (sym whole) ∙ count_append (take n s) (drop n s) in
        let e : select s k ≡ length (take n s) + select (drop n s) (k - count (take n s)) =
        ap (λ (t : List Bool). select t k) (sym whole)
        ∙ select_right (take n s) (drop n s) k (omega arith) (omega arith) in
        let b = select_bounds (drop n s) (k - count (take n s)) (omega arith) (omega arith) in
        let f : length s ≤ n → ⊥ = λ (g : length s ≤ n). omega (arith, ap count (take_all n s g)) in
        let l : n < select s k = omega (arith, length-take-le n s (omega arith)) in
        select_none (take n s) k (omega arith) ∙ sym (within_out n (select s k) l)
    go (no h) (no d) =
        rw (select_none (take n s) k (omega arith), select_none s k (omega arith)) (sym (within_in n 0 (omega arith)))

-- ---- rank and select are inverse to each other

-- past the first bit
select_cons : (b : Bool) (s : List Bool) (k : ℕ) → 1 ≤ k → k ≤ count s → select (b ∷ s) (bit b + k) ≡ suc (select s k)
unfolding count
select_cons b s k h l =
    let c : count (b ∷ []) ≡ bit b + 0 = count_cons b [] in
    let e : bit b + k - count (b ∷ []) ≡ k = omega arith in
    select_right (b ∷ []) s (bit b + k) (omega arith) (omega arith) ∙ rw e (one-add (select s k))

rank_cons : (b : Bool) (s : List Bool) (p : ℕ) → rank (b ∷ s) (suc p) ≡ bit b + rank s p
unfolding rank
rank_cons b s p = count_cons b (take p s)

-- past the first bit
rank_select_cons : (b : Bool) (s : List Bool) (k : ℕ) → 1 ≤ k → k ≤ count s → rank s (select s k) ≡ k
    → rank (b ∷ s) (select (b ∷ s) (bit b + k)) ≡ bit b + k
rank_select_cons b s k h l e = rw (select_cons b s k h l, rank_cons b s (select s k), e)

-- up to the k-th one there are k ones
pub rank_select : (s : List Bool) (k : ℕ) → k ≤ count s → rank s (select s k) ≡ k
unfolding select ones_at rank count
rank_select s zero h = refl
rank_select [] (suc k) h = absurd (omega arith)
rank_select (true ∷ s) (suc zero) h = refl
rank_select (true ∷ s) (suc (suc k)) h =
    let e : bit true + suc k ≡ suc (suc k) = omega arith in
    rw e at (rank_select_cons true s (suc k) (omega arith) (omega arith) (rank_select s (suc k) (omega arith)))
rank_select (false ∷ s) (suc k) h =
    let e : bit false + suc k ≡ suc k = omega arith in
    rw e at (rank_select_cons false s (suc k) (omega arith) h (rank_select s (suc k) h))

later : (b : Bool) (s : List Bool) (i : ℕ) → select s (rank s (i + 1)) ≡ i + 1
    → select (b ∷ s) (rank (b ∷ s) (suc i + 1)) ≡ suc i + 1
later b s i e =
    let r : ℕ = rank s (i + 1) in
    let z : r ≡ 0 → ⊥ = λ (z : r ≡ 0). omega (arith, ap (select s) z, select_zero s) in
    let n : suc i + 1 ≡ suc (i + 1) = omega arith in
    rw (n, rank_cons b s (i + 1), select_cons b s r (omega arith) (rank_le s (i + 1)), e)

-- a one is the one of its own rank
pub select_rank : (s : List Bool) (i : ℕ) → get_or s i false ≡ true → select s (rank s (i + 1)) ≡ i + 1
unfolding select ones_at rank count
select_rank [] i e = absurd (let z : ◌≡◌ {A = ℕ} 0 1 = cc in omega arith)
select_rank (true ∷ s) zero e = refl
select_rank (false ∷ s) zero e = absurd (let z : ◌≡◌ {A = ℕ} 0 1 = cc in omega arith)
select_rank (b ∷ s) (suc i) e = later b s i (select_rank s i e)

-- ---- of a string by its bytes: where they hold it, where they don't, and of no places

module _ (bytes : List ℕ) (start places k : ℕ) where
  pub select_held : leb (start + places) (8 * length bytes) ≡ true
      → select (string bytes start places) k ≡ select (take places (drop start (bits bytes))) k
  select_held h = ap (λ (s : List Bool). select s k) (held bytes start places h)

  pub select_not_held : leb (start + places) (8 * length bytes) ≡ false → select (string bytes start places) k ≡ 0
  select_not_held h =
      let l = select_le (string bytes start places) k in
      omega (arith, ap length (not_held bytes start places h))

pub select_empty : (bytes : List ℕ) (start k : ℕ) → select (string bytes start 0) k ≡ 0
select_empty bytes start k = omega (arith, select_le (string bytes start 0) k, length_string bytes start 0)
