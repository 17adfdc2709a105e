-- Bytes that are written from the front on, into zeros.
--   begun_none   nothing is written yet
--   blank_begun  where zeros stand from a bit on, the bits before it are written
--   begun_blank  zeros stand behind what is written
--   begun_on     what stands behind a copy of the front stands behind what is written
--   begun_put    a field is put behind it
--   begun_one    a one is
--   begun_zeros  zeros are, by writing nothing
--   begun_pack   all is written
use Rattle.std.specs.Prelude.{◌≡◌, Bool, set}
use Rattle.std.proofs.Math.Path.{sym, ap, ap₂}
use Rattle.std.proofs.Common.{◌∙◌, take-append-drop, take_at, length-take-le}
use Rattle.std.proofs.Math.Bool.{true, false}
use mathlib.Core.List.{List, [], ◌∷◌, ◌++◌, append_assoc}
use Prim.Native.Nat.{ℕ, ◌+◌, ◌-◌, ◌*◌, ◌/◌, ◌≤◌, ◌<◌}
use native.Mathlib.Omega.{arith}
use Rattle.std.proofs.Math.ListN.{length, take, drop, replicate, length-append, length-replicate}
use Rattle.std.proofs.lemmas.List.{replicate-append-replicate}
use Rattle.std.proofs.Math.Seq.{drop_at}
use Rattle.bits.specs.Bits.{to_bits, bits, put, pack}
use Rattle.bits.specs.Steps.{Blank, Begun}
use Rattle.bits.specs.Laws.Digits.{length_to_bits}
use Rattle.bits.specs.Laws.Bytes.{AreBytes, length_bits}
use Rattle.bits.specs.Laws.Packing.{bits_pack, zero_bits, pack_bytes, bits_injective}
use Rattle.bits.specs.Laws.Puts.{put_one}

pub begun_none : (k : ℕ) {bytes : List ℕ} → bytes ≡ replicate k 0 → Begun bytes []
begun_none k {bytes} e =
    let l : length bytes ≡ k = ap length e ∙ length-replicate k 0 in
    let n : 8 * k ≡ 8 * length bytes - 0 = omega arith in
    record { fits = omega arith; holds = ap bits e ∙ zero_bits k ∙ ap (λ (i : ℕ). replicate {A = Bool} i false) n }

pub blank_begun : {bytes : List ℕ} (start : ℕ) → start ≤ 8 * length bytes → Blank (bits bytes) start
    → Begun bytes (take start (bits bytes))
blank_begun {bytes} start h z =
    let l = length_bits bytes in
    let t = length-take-le start (bits bytes) (omega arith) in
    let n : length (bits bytes) - start ≡ 8 * length bytes - length (take start (bits bytes)) = omega arith in
    record {
      fits = omega arith;
      holds =
          sym (take-append-drop start (bits bytes))
          ∙ ap (λ (r : List Bool). take start (bits bytes) ++ r)
          (z.clear ∙ ap (λ (i : ℕ). replicate {A = Bool} i false) n);
    }

module _ {bytes : List ℕ} {s : List Bool} (b : Begun bytes s) where
  pub begun_blank : (start : ℕ) → start ≡ length s → Blank (bits bytes) start
  begun_blank start e =
      let n : 8 * length bytes - length s ≡ length (bits bytes) - start = omega (arith, length_bits bytes) in
      record {
        clear =
            ap (drop start) b.holds ∙ drop_at s _ start (sym e) ∙ ap (λ (i : ℕ). replicate {A = Bool} i false) n;
      }

  begun_front : (start : ℕ) → start ≡ length s → take start (bits bytes) ≡ s
  begun_front start e = ap (take start) b.holds ∙ take_at s _ start (sym e)

  pub begun_on : (start : ℕ) → start ≡ length s → (t : List Bool) {out : List ℕ}
      → Begun out (take start (bits bytes) ++ t) → Begun out (s ++ t)
  begun_on start e t c = rw (begun_front start e) at c

  -- zeros are there already
  pub begun_zeros : (k : ℕ) → length s + k ≤ 8 * length bytes → Begun bytes (s ++ replicate k false)
  begun_zeros k h =
      let z = length-replicate {A = Bool} k false in
      let l = length-append s (replicate k false) in
      let n : 8 * length bytes - length s ≡ k + (8 * length bytes - length (s ++ replicate k false)) = omega arith in
      record {
        fits = omega arith;
        holds =
            b.holds ∙ ap (λ (i : ℕ). s ++ replicate i false) n
            ∙ ap (λ (t : List Bool). s ++ t) (sym (replicate-append-replicate k _ false))
            ∙ sym (append_assoc s (replicate k false) _);
      }

  pub begun_put : (w v : ℕ) {out : List ℕ} {start : ℕ} → start ≡ length s → start + w ≤ 8 * length bytes
      → bits out ≡ put w v (bits bytes) start → length out ≡ length bytes → Begun out (s ++ to_bits w v)
  unfolding put
  begun_put w v {out} {start} e h o l =
      let t = length_to_bits w v in
      let a = length-append s (to_bits w v) in
      let front : take start (bits bytes) ≡ s = begun_front start e in
      let k : ℕ = 8 * length out - length (s ++ to_bits w v) in
      let more : Begun bytes (s ++ replicate w false) = begun_zeros w (omega arith) in
      let z = length-append s (replicate w false) in
      let n = length-replicate {A = Bool} w false in
      let left : 8 * length bytes - length (s ++ replicate w false) ≡ k = omega arith in
      let back : drop (start + w) (bits bytes) ≡ replicate k false =
      ap (drop (start + w)) more.holds ∙ drop_at (s ++ replicate w false) _ (start + w) (omega arith)
      ∙ ap (λ (i : ℕ). replicate {A = Bool} i false) left in
      record {
        fits = omega arith;
        holds =
            o ∙ ap₂ (λ (x y : List Bool). x ++ (to_bits w v ++ y)) front back ∙ sym (append_assoc s (to_bits w v) _);
      }

  pub begun_one : {out : List ℕ} {i : ℕ} → i ≡ length s → i < 8 * length bytes
      → bits out ≡ set (bits bytes) i true → length out ≡ length bytes → Begun out (s ++ (true ∷ []))
  unfolding to_bits
  begun_one {i = i} e h o l =
      begun_put 1 1 e (omega arith) (o ∙ sym (put_one true (bits bytes) i (omega (arith, length_bits bytes)))) l

  -- all bits are written, and those that fill the last byte are zeros
  pub begun_pack : AreBytes bytes → length bytes ≡ (length s + 7) / 8 → bytes ≡ pack s
  begun_pack h e =
      bits_injective bytes (pack s) h (pack_bytes s)
      (b.holds ∙ ap (λ (n : ℕ). s ++ replicate (8 * n - length s) false) e ∙ sym (bits_pack s))
