-- A number put into a field: it is what the field then reads, and nothing else changes.
use Rattle.std.specs.Prelude.{◌≡◌, true, false, ℕ, ◌+◌, ◌-◌, ◌*◌, ◌/◌, ◌%◌, ◌^◌, ◌≤◌, ◌<◌, set}
use Rattle.std.proofs.Math.Path.{sym, ap}
use Rattle.std.proofs.Common.{ap₂, ◌∙◌, add_assoc, add_comm, mod-eq_of_lt, mod-lt, add-one, take-append-drop, pow_pos}
use Rattle.std.proofs.Common.{shr-shr, take_at, drop_at, take-add, take-take, length-take-le}
use Rattle.std.proofs.Math.Bool.{Bool}
use mathlib.Core.List.{List, ◌++◌, append_assoc}
use native.Mathlib.Omega.{arith}
use Rattle.std.proofs.Math.ListN.{length, take, drop, length-append, length-drop}
use Rattle.std.proofs.Math.Pow.{high, low}
use Rattle.std.proofs.Math.Seq.{drop-drop, drop-append-add}
use Rattle.std.proofs.lemmas.List.{drop-append-le, set_split}
use Rattle.bits.specs.Bits.{to_bits, bit, value, field, put}
use Rattle.bits.specs.Steps.{four_of, replace}
use Rattle.bits.specs.Laws.Digits.{length_to_bits, to_bits_agree, to_bits_append, to_bits_below, to_bits_value}
use Rattle.bits.specs.Laws.Fields.{field_append, field_laid}

module _ (w v : ℕ) (s : List Bool) (start : ℕ) (h : start + w ≤ length s) where
  front : length (take start s) ≡ start
  front = length-take-le start s (omega arith)

  pub length_put : length (put w v s start) ≡ length s
  unfolding put
  length_put =
      rw (
        length-append (take start s) (to_bits w v ++ drop (start + w) s),
        length-append (to_bits w v) (drop (start + w) s),
        front,
        length_to_bits w v,
        length-drop (start + w) s,
      )
      (omega arith)

  -- the field reads back
  pub field_put : field w (put w v s start) start ≡ v % 2 ^ w
  unfolding put
  field_put = field_laid w v (take start s) (drop (start + w) s) start front

  -- a field that ends before it
  pub field_put_before : (u i : ℕ) → i + u ≤ start → field u (put w v s start) i ≡ field u s i
  unfolding put
  field_put_before u i k =
      let l : i + u ≤ length (take start s) = rw front k in
      field_append u (take start s) (to_bits w v ++ drop (start + w) s) i l
      ∙ sym (field_append u (take start s) (drop start s) i l)
      ∙ ap (λ (t : List Bool). field u t i) (take-append-drop start s)

  -- a field that starts after it
  pub field_put_after : (u i : ℕ) → start + w ≤ i → field u (put w v s start) i ≡ field u s i
  unfolding put field
  field_put_after u i k =
      let a : List Bool = take start s ++ to_bits w v in
      let la : length a ≡ start + w = rw (length-append (take start s) (to_bits w v), front, length_to_bits w v) in
      let e : i ≡ start + w + (i - (start + w)) = omega arith in
      ap (λ (x : List Bool). value (take u x))
      (ap₂ drop e (sym (append_assoc (take start s) (to_bits w v) (drop (start + w) s)))
      ∙ sym (drop-drop (i - (start + w)) (start + w) (a ++ drop (start + w) s))
      ∙ ap (drop (i - (start + w))) (drop_at a (drop (start + w) s) (start + w) la)
      ∙ drop-drop (i - (start + w)) (start + w) s
      ∙ ap (λ (n : ℕ). drop n s) (sym e))

-- two fields put side by side
pub put_beside : (w a u b : ℕ) (s : List Bool) (p : ℕ) → p + (w + u) ≤ length s
    → put u b (put w a s p) (p + w) ≡ take p s ++ ((to_bits w a ++ to_bits u b) ++ drop (p + (w + u)) s)
unfolding put
put_beside w a u b s p h =
    let front : List Bool = take p s ++ to_bits w a in
    let rest : List Bool = drop (p + w) s in
    let lf : length front ≡ p + w =
    rw (length-append (take p s) (to_bits w a), length-take-le p s (omega arith), length_to_bits w a) in
    let e : p + w + u ≡ length front + u = omega arith in
    let tail : drop (p + w + u) (front ++ rest) ≡ drop (p + (w + u)) s =
    ap (λ (n : ℕ). drop n (front ++ rest)) e ∙ drop-append-add front rest u ∙ drop-drop u (p + w) s
    ∙ ap (λ (n : ℕ). drop n s) (add_assoc p w u) in
    rw (
      ← append_assoc (take p s) (to_bits w a) rest,
      take_at front rest (p + w) lf,
      tail,
      append_assoc (take p s) (to_bits w a) (to_bits u b ++ drop (p + (w + u)) s),
      append_assoc (to_bits w a) (to_bits u b) (drop (p + (w + u)) s),
    )

-- four numbers of 12 bits, joined, have their bits one after the other
pub four_bits : (a b c d : ℕ) → a < 4096 → b < 4096 → c < 4096 → d < 4096
    → to_bits 48 (four_of a b c d) ≡ (to_bits 12 a ++ to_bits 12 b) ++ (to_bits 12 c ++ to_bits 12 d)
four_bits a b c d ha hb hc hd =
    to_bits_below 24 24 (a * 2 ^ 12 + b) (c * 2 ^ 12 + d) (omega arith)
    ∙ ap₂ ◌++◌ (to_bits_below 12 12 a b hb) (to_bits_below 12 12 c d hd)

-- a field of one bit
pub put_one : (b : Bool) (s : List Bool) (i : ℕ) → i < length s → put 1 (bit b) s i ≡ set s i b
unfolding put to_bits
put_one true s i h = rw (add-one i) (sym (set_split s i true h))
put_one false s i h = rw (add-one i) (sym (set_split s i false h))

-- put into r + w + k bits of a number: the bits above the field, the field, and those below it
put_number : (r w k x v : ℕ) → v < 2 ^ w
    → to_bits (r + (w + k)) (replace x w k v) ≡ put w v (to_bits (r + (w + k)) x) r
unfolding put
put_number r w k x v hv =
    let hi : ℕ = x / 2 ^ (w + k) * 2 ^ w + v in
    let y : ℕ = hi * 2 ^ k + x % 2 ^ k in
    let above : y / 2 ^ k ≡ hi = high hi k (mod-lt x (pow_pos k)) in
    let top : y / 2 ^ (w + k) ≡ x / 2 ^ (w + k) =
    ap (λ (n : ℕ). y / 2 ^ n) (add_comm w k) ∙ sym (shr-shr y k w) ∙ ap (λ (n : ℕ). n / 2 ^ w) above
    ∙ high (x / 2 ^ (w + k)) w hv in
    let front : take r (to_bits (r + (w + k)) x) ≡ to_bits r (x / 2 ^ (w + k)) =
    ap (take r) (to_bits_append r (w + k) x)
    ∙ take_at (to_bits r (x / 2 ^ (w + k))) (to_bits (w + k) x) r (length_to_bits r (x / 2 ^ (w + k))) in
    let back : drop (r + w) (to_bits (r + (w + k)) x) ≡ to_bits k x =
    ap (λ (n : ℕ). drop (r + w) (to_bits n x)) (sym (add_assoc r w k)) ∙ ap (drop (r + w)) (to_bits_append (r + w) k x)
    ∙ drop_at (to_bits (r + w) (x / 2 ^ k)) (to_bits k x) (r + w) (length_to_bits (r + w) (x / 2 ^ k)) in
    to_bits_append r (w + k) y
    ∙ ap₂ ◌++◌ (ap (to_bits r) top ∙ sym front)
    (to_bits_append w k y
    ∙ ap₂ ◌++◌ (ap (to_bits w) above ∙ to_bits_agree w hi v (low (x / 2 ^ (w + k)) w hv ∙ sym (mod-eq_of_lt hv)))
    (to_bits_agree k y x (low hi k (mod-lt x (pow_pos k))) ∙ sym back))

-- a field put into the n bits from bit g on is put into the whole
put_part : (w v : ℕ) (s : List Bool) (g n r : ℕ) → g + n ≤ length s → r + w ≤ n
    → take g s ++ (put w v (take n (drop g s)) r ++ drop (g + n) s) ≡ put w v s (g + r)
unfolding put
put_part w v s g n r h k =
    let u : List Bool = take n (drop g s) in
    let lu : length u ≡ n = length-take-le n (drop g s) (simp length-drop (omega arith)) in
    let front : take g s ++ take r u ≡ take (g + r) s =
    rw (take-take r n (drop g s) (omega arith)) (sym (take-add g r s)) in
    let back : drop (r + w) u ++ drop (g + n) s ≡ drop (g + r + w) s =
    rw (
      ← drop-drop n g s,
      ← drop-append-le (r + w) u (drop n (drop g s)) (omega arith),
      take-append-drop n (drop g s),
      drop-drop (r + w) g s,
      add_assoc g r w,
    ) in
    rw (
      append_assoc (take r u) (to_bits w v ++ drop (r + w) u) (drop (g + n) s),
      append_assoc (to_bits w v) (drop (r + w) u) (drop (g + n) s),
      ← append_assoc (take g s) (take r u) (to_bits w v ++ (drop (r + w) u ++ drop (g + n) s)),
      front,
      back,
    )

-- so it is the m bits from bit g on, as a number with a field replaced
pub put_replaced : (s : List Bool) (g m r w k v : ℕ) → g + m ≤ length s → r + (w + k) ≡ m → v < 2 ^ w
    → take g s ++ (to_bits m (replace (field m s g) w k v) ++ drop (g + m) s) ≡ put w v s (g + r)
unfolding field
put_replaced s g m r w k v h e hv =
    let part : List Bool = take m (drop g s) in
    let old : to_bits m (value part) ≡ part =
    to_bits_value m part (length-take-le m (drop g s) (simp length-drop (omega arith))) in
    let new : to_bits m (replace (value part) w k v) ≡ put w v part r =
    rw e at (put_number r w k (value part) v hv) ∙ ap (λ (t : List Bool). put w v t r) old in
    ap (λ (t : List Bool). take g s ++ (t ++ drop (g + m) s)) new ∙ put_part w v s g m r h (omega arith)
