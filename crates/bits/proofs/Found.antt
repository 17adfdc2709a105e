-- The k-th one, by the byte it is in.
--   passed_byte   past a byte with fewer ones than are left to go
--   found_bounds  its place in its byte
--   found_within  its place in the string, up to a limit
--   missing       the bytes have fewer ones
use mathlib.Core.Path.{◌≡◌, sym, ap, ◌∙◌}
use mathlib.Core.Bool.{Bool}
use mathlib.Core.List.{List}
use Prim.Native.Nat.{ℕ, ◌+◌, ◌-◌, ◌*◌, ◌≤◌, ◌<◌}
use native.Mathlib.Omega.{arith}
use lib.Count.{ones}
use lib.ListN.{length, take}
use lib.Seq.{take_all}
use Rattle.bits.specs.Bits.{to_bits, bits, count, select}
use Rattle.bits.specs.Steps.{IsByte, within}
use Rattle.bits.specs.Spans.{ones_between, OneAt, Sought}
use Rattle.bits.specs.Laws.Bytes.{length_bits}
use Rattle.bits.specs.Laws.Select.{within_in, select_none, select_take}
use Rattle.bits.specs.Laws.Spans.{between_count, between_field, one_later, select_of_one}
use Rattle.bits.proofs.Joined.{byte_field}
use Rattle.bits.proofs.Passes.{word_one, sought_more}

module _ {bytes : List ℕ} {at b k left : ℕ} (byte : IsByte bytes at b)
    (r : Sought (bits bytes) 0 (8 * length bytes) k (8 * at) left) where
  pub passed_byte : (c : ℕ) → c ≡ ones b → c < left
      → Sought (bits bytes) 0 (8 * length bytes) k (8 * (at + 1)) (left - c)
  passed_byte c e more =
      let i = byte.inside in
      let d : 8 * (at + 1) ≡ 8 * at + 8 = omega arith in
      let f = ap (ones_between (bits bytes) (8 * at)) d ∙ between_field (bits bytes) (8 * at) 8 in
      sought_more c (8 * (at + 1)) r (omega arith) (omega arith) (f ∙ ap ones (byte_field byte) ∙ sym e) more

  module _ {t : ℕ} (few : left ≤ ones b) (e : t ≡ select (to_bits 8 b) left) where
    one : (8 < 8 + t) × (t ≤ 8) × OneAt (bits bytes) (8 * at) (8 * at + 8 + t - 9) left
    one =
        let i = byte.inside in
        let l = length_bits bytes in
        word_one 8 (bits bytes) (8 * at) 8 left t (omega arith) (sym (byte_field byte)) (omega arith) r.some few e

    pub found_bounds : (1 ≤ t) × (t ≤ 8)
    found_bounds =
        let (f, g, o) = one in
        (omega arith, g)

    pub found_within : (limit : ℕ) → within limit (8 * at + t) ≡ select (take limit (bits bytes)) k
    found_within limit =
        let s : List Bool = bits bytes in
        let i = byte.inside in
        let l = length_bits bytes in
        let (f, g, o) = one in
        let h = select_of_one s 0 (length s) (omega arith) (one_later 0 k o (omega arith) r.sum) (omega arith) in
        let whole = ap (λ (u : List Bool). select u k) (sym (take_all (length s) s (omega arith))) in
        let w : select s k ≡ 8 * at + t = whole ∙ h ∙ omega arith in
        rw (← w) (sym (select_take s limit k))

pub missing : (bytes : List ℕ) (limit : ℕ) {k at left : ℕ} → Sought (bits bytes) 0 (8 * length bytes) k (8 * at) left
    → length bytes ≤ at → select (take limit (bits bytes)) k ≡ 0
missing bytes limit {k} {at} r h =
    let s : List Bool = bits bytes in
    let l = length_bits bytes in
    let e : 8 * at ≡ 0 + length s = omega arith in
    let c = ap (ones_between s 0) e ∙ between_count s 0 (length s) ∙ ap count (take_all (length s) s (omega arith)) in
    rw (select_take s limit k, select_none s k (omega arith)) (within_in limit 0 (omega arith))
