-- The part of at most 64 bits in which the k-th one stands, the one itself, and the next.
--   window_some    a one stands in some bits
--   Opened         the first part of a string, read
--   window_here    the one stands in the first part
--   window_goes    it stands later
--   window_before  a word begins before the end
--   window_there   the one stands in that word
--   Standing       a one of a string, in a word
--   span_bounds    where it stands
--   span_top       where the next stands, in the same part
--   span_here      the span that ends in the same part
--   span_beyond    the span that ends later
use mathlib.Core.Path.{◌≡◌, sym, ap, ◌∙◌}
use mathlib.Core.Bool.{Bool}
use mathlib.Core.List.{List}
use Prim.Native.Nat.{ℕ, ◌+◌, ◌-◌, ◌*◌, ◌/◌, ◌%◌, ◌^◌, ◌≤◌, ◌<◌}
use native.Mathlib.Decide.{dec_le}
use native.Mathlib.Omega.{arith}
use lib.Count.{ones}
use lib.ListN.{length, take, drop}
use Rattle.bits.specs.Bits.{to_bits, select, field}
use Rattle.bits.specs.Spans.{SpanOf, ones_between, OneAt, NextAt, PartOf, Skipped, WindowOf}
use Rattle.bits.specs.Laws.Fields.{field_back}
use Rattle.bits.specs.Laws.Spans.{between_none, between_add, between_zero}
use Rattle.bits.specs.Laws.Spans.{one_later, top_first, next_first, next_later, spanned}
use Rattle.bits.proofs.Passes.{part_ones, word_one}

-- a one stands in some bits
pub window_some : (s : List Bool) (a b : ℕ) {k : ℕ} → a ≤ b → 1 ≤ k → k ≤ ones_between s a b → a < b
window_some s a b h some all = go (dec_le b a)
  where
    go : Dec (b ≤ a) → a < b
    go (yes l) =
        let d : b ≡ a = omega arith in
        let x = ap (ones_between s a) d in
        let z = between_none s a in
        absurd (omega arith)
    go (no l) = omega arith

-- ---- the part from bit a on, and later ones

-- its number w has c ones; n bytes hold the bits up to b, and the k-th one is among them
pub record Opened (s : List Bool) (a b k n width w c : ℕ) : Type 0 where
  pub some : 1 ≤ k
  pub all : k ≤ ones_between s a b
  pub between : a ≤ b
  pub held : b ≤ 8 * n
  pub part : PartOf s a b width w
  pub count : c ≡ ones w

module _ {s : List Bool} {a b k n width w c : ℕ} (o : Opened s a b k n width w c) where
  p : PartOf s a b width w
  p = o.part

  first_ones : ones_between s a (a + width) ≡ c
  first_ones = part_ones p ∙ sym o.count

  pub window_here : k ≤ c → WindowOf s a b k a width w k
  window_here few =
      let z = between_none s a in
      let e = p.wide in
      record {
        after = omega arith;
        upto = omega arith;
        narrow = omega arith;
        same = p.same;
        some = o.some;
        few = omega arith;
        sum = omega arith;
        whole = λ h. omega arith;
      }

  module _ (more : c < k) where
    pub window_goes : a + width < b
    window_goes = go (dec_le b (a + width))
      where
        go : Dec (b ≤ a + width) → a + width < b
        go (yes h) =
            let e = p.wide in
            let d : a + width ≡ b = omega arith in
            let x = ap (ones_between s a) d in
            let y = first_ones in
            absurd (omega arith)
        go (no h) = omega arith

    module _ {at left : ℕ} (r : Skipped s n ((a + width) / 8) (k - c) at left) where
      after : a + width ≤ 8 * at
      after =
          let g = window_goes in
          let e = p.wide in
          let f = r.sought.after in
          omega arith

      window_sum : ones_between s a (8 * at) + left ≡ k
      window_sum =
          let g = window_goes in
          let e = p.wide in
          let f = after in
          let d : 8 * ((a + width) / 8) ≡ a + width = omega arith in
          let x = ap (λ (m : ℕ). ones_between s m (8 * at)) d in
          let y = between_add s a (a + width) (8 * at) (omega arith) f in
          let z = first_ones in
          let t = r.sought.sum in
          omega arith

      pub window_before : 8 * at < b
      window_before = go (dec_le b (8 * at))
        where
          go : Dec (b ≤ 8 * at) → 8 * at < b
          go (yes h) =
              let t = window_sum in
              let y = between_add s a b (8 * at) o.between h in
              let z = r.sought.some in
              absurd (omega arith)
          go (no h) = omega arith

      module _ {to x : ℕ} (there : PartOf s (8 * at) b to x) where
        -- the word has as many ones as are left to go
        window_few : left ≤ ones x
        window_few = go (dec_le (8 * at + 64) b)
          where
            go : Dec (8 * at + 64 ≤ b) → left ≤ ones x
            go (yes h) =
                let d : 8 * at + to ≡ 8 * at + 64 = omega arith in
                let y = sym (ap (ones_between s (8 * at)) d) ∙ part_ones there in
                let f = r.full (omega arith) in
                omega arith
            go (no h) =
                let l = window_before in
                let d : 8 * at + to ≡ b = omega arith in
                let y = sym (ap (ones_between s (8 * at)) d) ∙ part_ones there in
                let t = window_sum in
                let f = after in
                let z = between_add s a (8 * at) b (omega arith) (omega arith) in
                omega arith

        pub window_there : WindowOf s a b k (8 * at) to x left
        window_there =
            let l = window_before in
            let f = after in
            record {
              after = omega arith;
              upto = omega arith;
              narrow = omega arith;
              same = there.same;
              some = r.sought.some;
              few = window_few;
              sum = window_sum;
              whole = λ h. omega arith;
            }

-- ---- the span from a one of the window on

-- of the string of so many places from bit a on the k-th one stands in the window, at place p of its word
pub record Standing (s : List Bool) (a places k from width x left p : ℕ) : Type 0 where
  pub held : a + places ≤ length s
  pub window : WindowOf s a (a + places) k from width x left
  pub place : p ≡ select (to_bits 64 x) left

module _ {s : List Bool} {a places k from width x left p : ℕ} (t : Standing s a places k from width x left p) where
  w : WindowOf s a (a + places) k from width x left
  w = t.window

  here : (64 < width + p) × (p ≤ 64) × OneAt s from (from + width + p - 65) left
  here =
      let u = w.upto in
      let i = t.held in
      word_one 64 s from width left p (omega arith) w.same w.narrow w.some w.few t.place

  one : OneAt s a (from + width + p - 65) k
  one = one_later a k here.2 w.after w.sum

  pub span_bounds : (64 - p < width) × (a ≤ from + width - (64 - p))
  span_bounds =
      let h = here in
      let f = w.after in
      omega arith

  rest_field : {y : ℕ} → y ≡ x % 2 ^ (64 - p) → y ≡ field (64 - p) s (from + width - (64 - p))
  rest_field ey =
      let h = here in
      let u = w.upto in
      let l = t.held in
      let r : ℕ = 64 - p in
      let d : width - r + r ≡ width = omega arith in
      let g : from + (width - r) ≡ from + width - r = omega arith in
      let i : field r s (from + (width - r)) ≡ field (width - r + r) s from % 2 ^ r =
      field_back s from (width - r) r (omega arith) in
      ey ∙ ap (λ (m : ℕ). m % 2 ^ r) w.same ∙ sym (rw (d, g) at i)

  spanned_from : {m : ℕ} → NextAt s (from + width - (64 - p)) (a + places) m
      → SpanOf (take places (drop a s)) k (from + width - (64 - p) - a) (m - a)
  spanned_from x =
      let h = here in
      let u = w.upto in
      let d : from + width - (64 - p) ≡ from + width + p - 65 + 1 = omega arith in
      rw d (spanned s a places t.held one (omega arith) (rw d at x))

  module _ (h : ℕ) {y : ℕ} (ey : y ≡ x % 2 ^ (64 - p)) (l : 2 ^ h ≤ y) (u : y < 2 ^ (h + 1)) where
    first : (h < 64 - p) × OneAt s (from + width - (64 - p)) (from + width - 1 - h) 1
    first =
        let b = span_bounds in
        let g = w.upto in
        let i = t.held in
        let d : from + width - (64 - p) + (64 - p) ≡ from + width = omega arith in
        rw d at (top_first s (from + width - (64 - p)) (64 - p) h (omega arith) (rest_field ey) l u)

    pub span_top : (h < from + width) × (a ≤ from + width - 1 - h)
    span_top =
        let b = span_bounds in
        let f = first.0 in
        omega arith

    pub span_here : SpanOf (take places (drop a s)) k (from + width - (64 - p) - a) (from + width - 1 - h - a)
    span_here =
        let b = span_bounds in
        let g = w.upto in
        let f = first.0 in
        spanned_from (next_first (a + places) first.1 (omega arith))

  pub span_beyond : {y m : ℕ} → y ≡ x % 2 ^ (64 - p) → y ≡ 0 → NextAt s (from + width) (a + places) m
      → SpanOf (take places (drop a s)) k (from + width - (64 - p) - a) (m - a)
  span_beyond ey z n =
      let b = span_bounds in
      let d : from + width - (64 - p) + (64 - p) ≡ from + width = omega arith in
      let o : ones_between s (from + width - (64 - p)) (from + width) ≡ 0 =
      rw d at (between_zero s (from + width - (64 - p)) (64 - p) (sym (rest_field ey) ∙ z)) in
      spanned_from (next_later (from + width - (64 - p)) (omega arith) o n)
