-- A string passed over part by part, each read as a number.
--   part_aligned   a part that begins a byte
--   part_ones      the ones of a part
--   part_less      less is left after it
--   found_inside   the k-th one of a string inside more bits
--   word_one       the place in a part's word is a bit of the string
--   sought_start   before the first part
--   sought_more    past bits with fewer ones than are left to go
--   skip_ones      the ones of a whole word
--   nth_more       past a part with fewer ones than are left to go
--   nth_found      the place of the one in a part
--   nth_none       there are fewer ones
--   cleared_start  before the first part, where no one is passed
--   cleared_more   past a part that is 0
--   cleared_end    past the last part
--   Topped         the first part that has a one, read
--   topped_one     where that one stands
--   topped_next    it is the next one
--   lone_second    there is another in its part
--   lone_further   there is another later
--   lone_only      there is no other
use mathlib.Core.Path.{◌≡◌, refl, sym, ap, ◌∙◌}
use mathlib.Core.Bool.{Bool}
use mathlib.Core.List.{List, ◌++◌}
use Prim.Native.Nat.{ℕ, ◌+◌, ◌-◌, ◌*◌, ◌/◌, ◌%◌, ◌^◌, ◌≤◌, ◌<◌}
use native.Mathlib.Nat.{zero-mod, div-eq_of_lt}
use native.Mathlib.Omega.{arith}
use lib.Count.{ones}
use lib.ListN.{length, take, drop, length-drop}
use lib.Pow.{pow-add, low}
use lib.Seq.{length-take-le}
use Rattle.bits.specs.Bits.{to_bits, count, select, value, field}
use Rattle.bits.specs.Spans.{LoneOf, ones_between, OneAt, NextAt, PartOf, Cleared, Sought}
use Rattle.bits.specs.declared.spans.Lone.TheVariants as Lone
use Rattle.bits.specs.Laws.Fields.{field_back}
use Rattle.bits.specs.Laws.Digits.{length_to_bits, value_to_bits, value_lt, to_bits_value, to_bits_append}
use Rattle.bits.specs.Laws.Rank.{ones_value, ones_field}
use Rattle.bits.specs.Laws.Select.{select_none, select_bounds, select_right}
use Rattle.bits.specs.Laws.Spans.{between_count, between_none, between_add, between_field}
use Rattle.bits.specs.Laws.Spans.{between_zero, between_some}
use Rattle.bits.specs.Laws.Spans.{one_past, one_of_part, one_later, select_of_one, top_first, next_first}
use Rattle.bits.specs.Laws.Spans.{lone_one, lone_more}

-- ---- a part

-- which begins a byte
pub part_aligned : {s : List Bool} {at b width w : ℕ} → at % 8 ≡ 0 → PartOf s (8 * (at / 8)) b width w
    → PartOf s at b width w
part_aligned {at = at} e p =
    let d : 8 * (at / 8) ≡ at = omega arith in
    rw d at p

module _ {s : List Bool} {at b width w : ℕ} (p : PartOf s at b width w) where
  pub part_ones : ones_between s at (at + width) ≡ ones w
  part_ones = between_field s at width ∙ ap ones (sym p.same)

  pub part_less : at < b → b - (at + width) < b - at
  part_less goes = omega arith

-- the k-th one of a string inside n bits, with zeros before it
pub found_inside : (n : ℕ) (s : List Bool) (off k : ℕ) → off + length s ≡ n → 1 ≤ k → k ≤ count s
    → select (to_bits n (value s)) k ≡ off + select s k
unfolding ones
found_inside n s off k e h l =
    let z : to_bits off (value s / 2 ^ length s) ≡ to_bits off 0 = ap (to_bits off) (div-eq_of_lt (value_lt s)) in
    let c : count (to_bits off 0) ≡ 0 =
    sym (ones_value (to_bits off 0)) ∙ ap ones (value_to_bits off 0 ∙ zero-mod (2 ^ off)) in
    let d : k - count (to_bits off 0) ≡ k = omega arith in
    let w : to_bits n (value s) ≡ to_bits off 0 ++ s =
    rw (← e, to_bits_append off (length s) (value s), z, to_bits_value (length s) s refl) in
    let r : select (to_bits off 0 ++ s) k ≡ length (to_bits off 0) + select s (k - count (to_bits off 0)) =
    select_right (to_bits off 0) s k (omega arith) (omega arith) in
    ap (λ (t : List Bool). select t k) w ∙ r ∙ rw (d, length_to_bits off 0)

pub word_one : (m : ℕ) (s : List Bool) (from width j p : ℕ) {x : ℕ} → from + width ≤ length s → x ≡ field width s from
    → width ≤ m → 1 ≤ j → j ≤ ones x → p ≡ select (to_bits m x) j
    → (m < width + p) × (p ≤ m) × OneAt s from (from + width + p - (m + 1)) j
unfolding field
word_one m s from width j p inside ex narrow some few ep =
    let t : List Bool = take width (drop from s) in
    let n : length t ≡ width = length-take-le width (drop from s) (simp length-drop (omega arith)) in
    let o = ap ones ex ∙ ones_field width s from in
    let b = select_bounds t j some (omega arith) in
    let f = found_inside m t (m - width) j (omega arith) some (omega arith) in
    let g : p ≡ m - width + select t j = ep ∙ ap (λ (y : ℕ). select (to_bits m y) j) ex ∙ f in
    let q : from + width + p - (m + 1) ≡ from + (select t j - 1) = omega arith in
    (omega arith, omega arith, rw q (one_of_part s from width inside j some (omega arith)))

-- ---- the k-th one

pub sought_start : (s : List Bool) (a b k : ℕ) → a ≤ b → 1 ≤ k → Sought s a b k a k
sought_start s a b k h some =
    let z = between_none s a in
    record { after = omega arith; upto = h; some = some; sum = omega arith }

pub sought_more : {s : List Bool} {a b k q left : ℕ} (c to : ℕ) → Sought s a b k q left → q ≤ to → to ≤ b
    → ones_between s q to ≡ c → c < left → Sought s a b k to (left - c)
sought_more {s} {a} {b} {k} {q} c to r le upto e more =
    let y = between_add s a q to r.after le in
    record { after = omega arith; upto = upto; some = omega arith; sum = omega arith }

pub skip_ones : (s : List Bool) (at : ℕ) {c : ℕ} → c ≡ count (take 64 (drop (8 * at) s))
    → ones_between s (8 * at) (8 * (at + 8)) ≡ c
skip_ones s at e =
    let d : 8 * (at + 8) ≡ 8 * at + 64 = omega arith in
    ap (ones_between s (8 * at)) d ∙ between_count s (8 * at) 64 ∙ sym e

module _ {s : List Bool} {a k at left width w : ℕ} (places : ℕ) (r : Sought s a (a + places) k at left)
    (goes : at < a + places) (p : PartOf s at (a + places) width w) where
  pub nth_more : (c : ℕ) → c ≡ ones w → c < left → Sought s a (a + places) k (at + width) (left - c)
  nth_more c e more = sought_more c (at + width) r (omega arith) (omega arith) (part_ones p ∙ sym e) more

  pub nth_found : (q : ℕ) → a + places ≤ length s → left ≤ ones w → q ≡ select (to_bits 64 w) left
      → (64 ≤ at + width + q) × (a ≤ at + width + q - 64)
      × (at + width + q - 64 - a ≡ select (take places (drop a s)) k)
  nth_found q held few e =
      let (f, g, o) = word_one 64 s at width left q (omega arith) p.same (omega arith) r.some few e in
      let h = r.after in
      let i = select_of_one s a places held (one_later a k o h r.sum) (omega arith) in
      (omega arith, omega arith, omega arith)

pub nth_none : {s : List Bool} {a k at left : ℕ} (places : ℕ) → Sought s a (a + places) k at left → a + places ≤ at
    → 0 ≡ select (take places (drop a s)) k
nth_none {s} {a} {k} {at} places r done =
    let e : at ≡ a + places = omega arith in
    let c = ap (ones_between s a) e ∙ between_count s a places in
    sym (select_none (take places (drop a s)) k (omega arith))

-- ---- no one yet

pub cleared_start : (s : List Bool) (a b : ℕ) → a ≤ b → Cleared s a b a
cleared_start s a b h = record { after = omega arith; upto = h; none = between_none s a }

pub cleared_more : {s : List Bool} {a b at width w : ℕ} → Cleared s a b at → at < b → PartOf s at b width w → w ≡ 0
    → Cleared s a b (at + width)
cleared_more {s} {a} {b} {at} {width} k goes p z =
    let e = between_zero s at width (sym p.same ∙ z) in
    let y = between_add s a at (at + width) k.after (omega arith) in
    record { after = omega arith; upto = omega arith; none = omega arith }

pub cleared_end : {s : List Bool} {a b at : ℕ} → Cleared s a b at → b ≤ at → ones_between s a b ≡ 0
cleared_end {s} {a} {b} {at} k done =
    let d : b ≡ at = omega arith in
    ap (ones_between s a) d ∙ k.none

-- no one stands before bit `at`, and of the part from there on the highest one is at place h
pub record Topped (s : List Bool) (a b at width w h : ℕ) : Type 0 where
  pub held : b ≤ length s
  pub clear : Cleared s a b at
  pub part : PartOf s at b width w
  pub from : 2 ^ h ≤ w
  pub below : w < 2 ^ (h + 1)

module _ {s : List Bool} {a b at width w h : ℕ} (t : Topped s a b at width w h) where
  pub topped_one : (h < width) × OneAt s a (at + width - 1 - h) 1
  topped_one =
      let k = t.clear in
      let p = t.part in
      let (l, o) = top_first s at width h (omega arith) p.same t.from t.below in
      (l, one_later a 1 o k.after (omega arith))

  pub topped_next : (h < width) × NextAt s a b (at + width - 1 - h)
  topped_next =
      let p = t.part in
      let (l, o) = topped_one in
      (l, next_first b o (omega arith))

-- ---- the only one

module _ {s : List Bool} {a at width w h : ℕ} (places : ℕ) (t : Topped s a (a + places) at width w h) where
  -- the ones up to it, those after it in its part, and those after the part
  sum : ones_between s a (a + places)
      ≡ 1 + ones_between s (at + width - h) (at + width) + ones_between s (at + width) (a + places)
  sum =
      let k = t.clear in
      let p = t.part in
      let (l, o) = topped_one t in
      let d : at + width - 1 - h + 1 ≡ at + width - h = omega arith in
      let e = sym (ap (ones_between s a) d) ∙ one_past o (omega arith) in
      let x = between_add s a (at + width - h) (a + places) (omega arith) (omega arith) in
      let y = between_add s (at + width - h) (at + width) (a + places) (omega arith) (omega arith) in
      omega arith

  module _ {y : ℕ} (ey : y ≡ w - 2 ^ h) where
    rest : y ≡ field h s (at + width - h)
    rest =
        let p = t.part in
        let l = (topped_one t).0 in
        let n : ℕ = width - h in
        let d : at + n ≡ at + width - h = omega arith in
        let f : n + h ≡ width = omega arith in
        let q : 2 ^ (h + 1) ≡ 2 ^ h * 2 = pow-add 2 h 1 in
        let r : w - 2 ^ h < 2 ^ h = omega arith in
        let e : w ≡ 1 * 2 ^ h + (w - 2 ^ h) = omega arith in
        let m : w % 2 ^ h ≡ w - 2 ^ h = ap (λ (x : ℕ). x % 2 ^ h) e ∙ low 1 h r in
        let b : field h s (at + n) ≡ field (n + h) s at % 2 ^ h = field_back s at n h (omega arith) in
        ey ∙ sym m ∙ ap (λ (x : ℕ). x % 2 ^ h) p.same ∙ sym (rw (d, f) at b)

    end : at + width - h + h ≡ at + width
    end = let l = (topped_one t).0 in omega arith

    pub lone_second : (y ≡ 0 → ⊥) → LoneOf (take places (drop a s)) Lone.More
    lone_second n =
        let e = sum in
        let x = rw end at (between_some s (at + width - h) h (λ z. n (rest ∙ z))) in
        lone_more s a places t.held (omega arith)

    pub lone_only : y ≡ 0 → ones_between s (at + width) (a + places) ≡ 0
        → LoneOf (take places (drop a s)) (Lone.At (at + width - 1 - h - a))
    lone_only z n =
        let p = t.part in
        let (l, o) = topped_one t in
        let e = sum in
        let x = rw end at (between_zero s (at + width - h) h (sym rest ∙ z)) in
        lone_one s a places t.held o (omega arith) (omega arith)

  pub lone_further : {c : ℕ} → ones_between s (at + width) (a + places) ≡ c → (c ≡ 0 → ⊥)
      → LoneOf (take places (drop a s)) Lone.More
  lone_further e n =
      let x = sum in
      lone_more s a places t.held (omega arith)
