-- The ones between two bits, the k-th one from a bit on, and the spans that these give.
--   between_count   the ones between two bits are those of the bits from the one to the other
--   between_told    the same, by the two bits
--   between_past    no ones stand in no bits
--   between_none    nor from a bit on and before it
--   between_add     the ones up to a bit, and those from it on
--   between_field   the ones of a field
--   between_zero    a field 0 has none
--   between_some    a field that is not 0 has some
--   one_past        just past the k-th one there are k
--   one_of_part     the k-th one of a part of a string
--   one_later       counted on from an earlier bit
--   select_of_one   select, by a bit that is the k-th one
--   top_first       the highest one of a field's number is the field's first
--   next_first      the first one of a part is the next
--   next_later      as is the first one after zeros
--   next_end        where there is none, the end is
--   spanned         what lies between a one and the next
--   lone_none       a string without a one
--   lone_one        a string with one
--   lone_more       a string with more
use Rattle.std.specs.Prelude.{◌≡◌, refl, true, ℕ, zero, suc, ◌+◌, ◌-◌, ◌^◌, ◌≤◌, ◌<◌, length, take}
use Rattle.std.proofs.Math.Path.{sym, ap}
use Rattle.std.proofs.Common.{◌∙◌, add-one, lt-ltb, le-ltb, length-drop, pow_mono, drop-cons, drop-drop, take-take}
use Rattle.std.proofs.Common.{length-take-le, get_or-take, get_or-drop}
use Rattle.std.proofs.Math.Bool.{Bool, false}
use mathlib.Core.List.{List, [], ◌∷◌}
use Rattle.std.proofs.Math.Decide.{dec_le}
use native.Mathlib.Omega.{arith}
use Rattle.std.specs.Int.Count.{ones}
use Rattle.std.proofs.Math.ListN.{drop, get_or}
use Rattle.bits.specs.Bits.{count, rank, select, bit, value, field}
use Rattle.bits.specs.Spans.{next_one, SpanOf, LoneOf, ones_between, OneAt, NextAt}
use Rattle.bits.specs.declared.spans.Lone.TheVariants as Lone
use Rattle.bits.specs.Laws.Digits.{value_lt}
use Rattle.bits.specs.Laws.Rank.{count_cons, count_take_add, ones_field}
use Rattle.bits.specs.Laws.Select.{select_bounds, select_one, rank_select, select_rank}

-- ---- the ones between two bits

module _ (s : List Bool) where
  pub between_count : (a n : ℕ) → ones_between s a (a + n) ≡ count (take n (drop a s))
  unfolding ones_between
  between_count a n =
      let e : a + n - a ≡ n = omega arith in
      ap (λ (m : ℕ). count (take m (drop a s))) e

  pub between_told : (a b : ℕ) {c : ℕ} → c ≡ count (take (b - a) (drop a s)) → ones_between s a b ≡ c
  unfolding ones_between
  between_told a b e = sym e

  pub between_past : (a b : ℕ) → b ≤ a → ones_between s a b ≡ 0
  unfolding ones_between count
  between_past a b h =
      let e : b - a ≡ 0 = omega arith in
      ap (λ (m : ℕ). count (take m (drop a s))) e

  pub between_none : (a : ℕ) → ones_between s a a ≡ 0
  between_none a = between_past a a (omega arith)

  pub between_add : (a b c : ℕ) → a ≤ b → b ≤ c → ones_between s a c ≡ ones_between s a b + ones_between s b c
  unfolding ones_between
  between_add a b c h k =
      let e : c - a ≡ b - a + (c - b) = omega arith in
      let f : a + (b - a) ≡ b = omega arith in
      ap (λ (m : ℕ). count (take m (drop a s))) e ∙ count_take_add (drop a s) (b - a) (c - b)
      ∙ ap (λ (t : List Bool). count (take (b - a) (drop a s)) + count (take (c - b) t))
      (drop-drop (b - a) a s ∙ ap (λ (m : ℕ). drop m s) f)

  between_one : (i : ℕ) → i < length s → ones_between s i (i + 1) ≡ bit (get_or s i false)
  unfolding count
  between_one i h =
      let b : Bool = get_or s i false in
      let c = count_cons b [] in
      between_count i 1 ∙ ap (λ (t : List Bool). count (take 1 t)) (drop-cons s i false h) ∙ omega arith

  pub between_field : (a w : ℕ) → ones_between s a (a + w) ≡ ones (field w s a)
  between_field a w = between_count a w ∙ sym (ones_field w s a)

  pub between_zero : (a w : ℕ) → field w s a ≡ 0 → ones_between s a (a + w) ≡ 0
  unfolding ones
  between_zero a w e = between_field a w ∙ ap ones e

value_none : (t : List Bool) → count t ≡ 0 → value t ≡ 0
unfolding count value
value_none [] e = refl
value_none (true ∷ t) e = absurd (omega arith)
value_none (false ∷ t) e = let v = value_none t e in omega arith

pub between_some : (s : List Bool) (a w : ℕ) → (field w s a ≡ 0 → ⊥) → 1 ≤ ones_between s a (a + w)
unfolding field
between_some s a w h = go (dec_le 1 (ones_between s a (a + w)))
  where
    go : Dec (1 ≤ ones_between s a (a + w)) → 1 ≤ ones_between s a (a + w)
    go (yes l) = l
    go (no l) =
        let c : count (take w (drop a s)) ≡ 0 = sym (between_count s a w) ∙ omega arith in
        absurd (h (value_none (take w (drop a s)) c))

-- ---- the k-th one from a bit on

pub one_past : {s : List Bool} {a q k : ℕ} → OneAt s a q k → q < length s → ones_between s a (q + 1) ≡ k
one_past {s} {a} {q} o h =
    let r = o.rank in
    let f = o.after in
    let e = between_add s a q (q + 1) f (omega arith) in
    let b : ones_between s q (q + 1) ≡ 1 = between_one s q h ∙ ap bit o.one in
    omega arith

pub one_later : {s : List Bool} {b q j : ℕ} (a k : ℕ) → OneAt s b q j → a ≤ b → ones_between s a b + j ≡ k
    → OneAt s a q k
one_later {s} {b} {q} a k o h e =
    let r = o.rank in
    let f = o.after in
    let g = between_add s a b q h f in
    record { after = omega arith; one = o.one; rank = omega arith }

module _ (s : List Bool) (a n : ℕ) (h : a + n ≤ length s) where
  abbrev part : List Bool
  part = take n (drop a s)

  length_part : length part ≡ n
  length_part = length-take-le n (drop a s) (simp length-drop (omega arith))

  part_bit : (i : ℕ) → i < n → get_or part i false ≡ get_or s (a + i) false
  part_bit i k = get_or-take n (drop a s) i false k ∙ get_or-drop a s i false

  part_rank : (p : ℕ) → p ≤ n → rank part p ≡ ones_between s a (a + p)
  unfolding rank
  part_rank p k = ap count (take-take p n (drop a s) k) ∙ sym (between_count s a p)

  pub one_of_part : (k : ℕ) → 1 ≤ k → k ≤ count (take n (drop a s))
      → OneAt s a (a + (select (take n (drop a s)) k - 1)) k
  one_of_part k some few =
      let p : ℕ = select part k in
      let b = select_bounds part k some few in
      let l = length_part in
      let i : ℕ = p - 1 in
      let e : a + p ≡ a + i + 1 = omega arith in
      let one : get_or s (a + i) false ≡ true = sym (part_bit i (omega arith)) ∙ select_one part k some few in
      let r : ones_between s a (a + p) ≡ k = sym (part_rank p (omega arith)) ∙ rank_select part k few in
      let x = ap (ones_between s a) e in
      let y = between_add s a (a + i) (a + i + 1) (omega arith) (omega arith) in
      let z : ones_between s (a + i) (a + i + 1) ≡ 1 = between_one s (a + i) (omega arith) ∙ ap bit one in
      record { after = omega arith; one = one; rank = omega arith }

  pub select_of_one : {q k : ℕ} → OneAt s a q k → q < a + n → select (take n (drop a s)) k ≡ q + 1 - a
  select_of_one {q} {k} o l =
      let f = o.after in
      let i : ℕ = q - a in
      let d : a + i ≡ q = omega arith in
      let e : a + (i + 1) ≡ q + 1 = omega arith in
      let g : q + 1 - a ≡ i + 1 = omega arith in
      let one : get_or part i false ≡ true =
      part_bit i (omega arith) ∙ ap (λ (m : ℕ). get_or s m false) d ∙ o.one in
      let r : rank part (i + 1) ≡ k =
      part_rank (i + 1) (omega arith) ∙ ap (ones_between s a) e ∙ one_past o (omega arith) in
      ap (select part) (sym r) ∙ select_rank part i one ∙ sym g

-- ---- the highest one of a number

top_place : (t : List Bool) (a h : ℕ) → a + 1 + h ≡ length t → 2 ^ h ≤ value t → value t < 2 ^ (h + 1)
    → (count (take a t) ≡ 0) × (get_or t a false ≡ true)
unfolding value count
top_place [] a h e l u = absurd (omega arith)
top_place (true ∷ t) zero h e l u = (refl, refl)
top_place (true ∷ t) (suc a) h e l u =
    let m : 2 ^ (h + 1) ≤ 2 ^ length t = pow_mono (omega arith) in
    absurd (omega arith)
top_place (false ∷ t) zero h e l u =
    let n : length t ≡ h = omega arith in
    let v : value t < 2 ^ h = rw n at (value_lt t) in
    absurd (omega arith)
top_place (false ∷ t) (suc a) h e l u = top_place t a h (omega arith) (omega arith) (omega arith)

top_inside : (t : List Bool) (h : ℕ) → 2 ^ h ≤ value t → h < length t
top_inside t h l = go (dec_le (length t) h)
  where
    go : Dec (length t ≤ h) → h < length t
    go (yes n) =
        let m : 2 ^ length t ≤ 2 ^ h = pow_mono n in
        let v = value_lt t in
        absurd (omega arith)
    go (no n) = omega arith

pub top_first : (s : List Bool) (a w h : ℕ) {x : ℕ} → a + w ≤ length s → x ≡ field w s a → 2 ^ h ≤ x → x < 2 ^ (h + 1)
    → (h < w) × OneAt s a (a + w - 1 - h) 1
unfolding field
top_first s a w h b e l u =
    let t : List Bool = take w (drop a s) in
    let n : length t ≡ w = length_part s a w b in
    let k : h < length t = top_inside t h (rw e at l) in
    let i : ℕ = w - 1 - h in
    let d : a + w - 1 - h ≡ a + i = omega arith in
    let p = top_place t i h (omega arith) (rw e at l) (rw e at u) in
    let c : ones_between s a (a + i) ≡ 0 =
    between_count s a i ∙ sym (ap count (take-take i w (drop a s) (omega arith))) ∙ p.0 in
    let o : OneAt s a (a + i) 1 =
    record { after = omega arith; one = sym (part_bit s a w b i (omega arith)) ∙ p.1; rank = omega arith } in
    (omega arith, rw d o)

-- ---- the next one

pub next_first : {s : List Bool} {a q : ℕ} (b : ℕ) → OneAt s a q 1 → q < b → NextAt s a b q
next_first b o h =
    let r = o.rank in
    record { after = o.after; upto = omega arith; none = omega arith; one = λ k. o.one }

pub next_later : {s : List Bool} {c b q : ℕ} (a : ℕ) → a ≤ c → ones_between s a c ≡ 0 → NextAt s c b q → NextAt s a b q
next_later {s} {c} {b} {q} a h z n =
    let f = n.after in
    let y = n.none in
    let e = between_add s a c q h f in
    record { after = omega arith; upto = n.upto; none = omega arith; one = n.one }

pub next_end : {s : List Bool} (a b : ℕ) → a ≤ b → ones_between s a b ≡ 0 → NextAt s a b b
next_end a b h z = record { after = h; upto = omega arith; none = z; one = λ k. absurd (omega arith) }

next_one_some : (s : List Bool) (k : ℕ) → k < count s → next_one s k ≡ select s (k + 1) - 1
unfolding next_one
next_one_some s k h = rw (lt-ltb k (count s) h, next_one, add-one k)

next_one_none : (s : List Bool) (k : ℕ) → count s ≤ k → next_one s k ≡ length s
unfolding next_one
next_one_none s k h = rw (le-ltb k (count s) h, next_one)

module _ (s : List Bool) (a n : ℕ) (h : a + n ≤ length s) where
  all_ones : count (take n (drop a s)) ≡ ones_between s a (a + n)
  all_ones = sym (between_count s a n)

  -- where k ones stand before bit q, and there a one or the end
  next_of_part : (q k : ℕ) → a ≤ q → q ≤ a + n → ones_between s a q ≡ k → (q < a + n → get_or s q false ≡ true)
      → next_one (take n (drop a s)) k ≡ q - a
  next_of_part q k f u e one = go (dec_le (q + 1) (a + n))
    where
      go : Dec (q + 1 ≤ a + n) → next_one (take n (drop a s)) k ≡ q - a
      go (yes l) =
          let c = all_ones in
          let o : OneAt s a q (k + 1) = record { after = f; one = one (omega arith); rank = omega arith } in
          let p = one_past o (omega arith) in
          let d = between_add s a (q + 1) (a + n) (omega arith) l in
          let r = select_of_one s a n h o (omega arith) in
          next_one_some (take n (drop a s)) k (omega arith) ∙ omega arith
      go (no l) =
          let c = all_ones in
          let d : a + n ≡ q = omega arith in
          let x = ap (ones_between s a) d in
          let y = length_part s a n h in
          next_one_none (take n (drop a s)) k (omega arith) ∙ omega arith

  pub spanned : {k q m : ℕ} → OneAt s a q k → q < a + n → NextAt s (q + 1) (a + n) m
      → SpanOf (take n (drop a s)) k (q + 1 - a) (m - a)
  spanned {k} {q} {m} o l x =
      let f = o.after in
      let g = x.after in
      let z = x.none in
      let p = one_past o (omega arith) in
      let e = between_add s a (q + 1) m (omega arith) g in
      record {
        begins = sym (select_of_one s a n h o l);
        ends = sym (next_of_part m k (omega arith) x.upto (omega arith) x.one);
      }

  -- ---- the only one

  pub lone_none : ones_between s a (a + n) ≡ 0 → LoneOf (take n (drop a s)) Lone.None
  lone_none e = all_ones ∙ e

  pub lone_one : {q : ℕ} → OneAt s a q 1 → q < a + n → ones_between s a (a + n) ≡ 1
      → LoneOf (take n (drop a s)) (Lone.At (q - a))
  lone_one {q} o l e =
      let f = o.after in
      let r = select_of_one s a n h o l in
      (all_ones ∙ e, omega arith)

  pub lone_more : 1 < ones_between s a (a + n) → LoneOf (take n (drop a s)) Lone.More
  lone_more k = let c = all_ones in omega arith
