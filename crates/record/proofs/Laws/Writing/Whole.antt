-- A whole record: the header, D and the fields, written one after the other, are the record of the two lists.
--   header_on     D is written behind the header
--   record_room   there is room for each part
--   length_front  where the fields begin
--   written       all of it is written
use mathlib.Core.Path.{◌≡◌, refl, sym, ap, ◌∙◌}
use mathlib.Core.Bool.{Bool, true, false}
use mathlib.Core.List.{List, [], ◌∷◌, ◌++◌, append_assoc, map}
use Prim.Native.Nat.{ℕ, ◌+◌, ◌-◌, ◌*◌, ◌/◌, ◌≤◌}
use native.Mathlib.Omega.{arith}
use lib.ListN.{length, take, replicate, length-append, length-map}
use Rattle.bits.specs.Bits.{to_bits, bits, pack}
use Rattle.bits.specs.Steps.{Begun}
use Rattle.bits.specs.Laws.Bytes.{AreBytes}
use Rattle.bits.specs.Laws.Begun.{begun_on, begun_pack}
use Rattle.graph.specs.Graph.{Blocks}
use Rattle.adjacency.specs.Reverse.{total}
use Rattle.record.specs.Record.{used_bits, record_length, lay_out, unary_of, header_bits, field_bits, record_bits}
use Rattle.record.specs.Record.{record_of}
use Rattle.record.specs.Filing.{by_degrees, record_from}
use Rattle.record.specs.Steps.{Listed, unary_bits}
use Rattle.record.specs.Laws.Fields.{length_field_bits}
use Rattle.record.specs.Laws.RoundTrip.{length_header_bits}
use Rattle.record.specs.Laws.Listed.{listed_pairs, length_by_degrees, neighbours_back, lengths_back}
use Rattle.record.proofs.Laws.Writing.Unary.{length_unary_bits}

-- D is written behind the header
pub header_on : (degrees neighbours : List ℕ) {a b : List ℕ}
    → Begun a (header_bits (length degrees) (length neighbours / 2))
    → Begun b (take 28 (bits a) ++ unary_bits degrees)
    → Begun b (header_bits (length degrees) (length neighbours / 2) ++ unary_bits degrees)
header_on degrees neighbours h u =
    begun_on h 28 (sym (length_header_bits (length degrees) (length neighbours / 2))) (unary_bits degrees) u

-- D of blocks is D by their degrees
unary_lengths : (g : Blocks) → unary_of g ≡ unary_bits (map length g)
unfolding unary_of unary_bits lay_out
unary_lengths [] = refl
unary_lengths (b ∷ g) = ap (λ (s : List Bool). true ∷ (replicate (length b) false ++ s)) (unary_lengths g)

module _ {degrees neighbours : List ℕ} (l : Listed degrees neighbours) where
  numbers : List ℕ
  numbers = map (λ v. v - 1) neighbours

  g : Blocks
  g = by_degrees degrees numbers

  whole : total degrees ≡ length numbers
  unfolding numbers
  whole = sym l.whole ∙ sym (length-map neighbours (λ v. v - 1))

  -- the record has room for each of them, and the header for m
  pub record_room : {k : ℕ} → k ≡ record_length (length degrees) (length neighbours / 2)
      → (4 ≤ k) × (length neighbours / 2 ≤ 16384) × (28 + (length degrees + total degrees) ≤ 8 * k)
      × (28 + (length degrees + length neighbours) + 12 * length neighbours ≤ 8 * k)
  unfolding record_length used_bits
  record_room e =
      let pairs = listed_pairs l in
      (omega arith, omega arith, omega arith, omega arith)

  -- where the fields begin
  pub length_front : 28 + (length degrees + length neighbours)
      ≡ length (header_bits (length degrees) (length neighbours / 2) ++ unary_bits degrees)
  length_front =
      let a = length_header_bits (length degrees) (length neighbours / 2) in
      let u = length_unary_bits degrees in
      simp length-append (omega arith)

  -- the bits of the record
  bits_are : record_bits g ≡ header_bits (length degrees) (length neighbours / 2)
      ++ unary_bits degrees ++ field_bits (map (λ v. v - 1) neighbours)
  unfolding record_bits header_bits numbers g
  bits_are =
      let row = neighbours_back degrees numbers whole in
      let size = ap length row ∙ length-map neighbours (λ v. v - 1) in
      let half = ap (λ (k : ℕ). k / 2) size in
      rw (length_by_degrees degrees numbers, half, row, unary_lengths g, lengths_back degrees numbers whole)
      (sym (append_assoc (to_bits 13 (length degrees)) (to_bits 15 (length neighbours / 2)) _)
      ∙ sym (append_assoc (header_bits (length degrees) (length neighbours / 2)) (unary_bits degrees) _))

  -- all of it is written
  pub written : {bytes : List ℕ} → AreBytes bytes
      → length bytes ≡ record_length (length degrees) (length neighbours / 2)
      → Begun bytes (header_bits (length degrees) (length neighbours / 2) ++ unary_bits degrees
      ++ field_bits (map (λ v. v - 1) neighbours))
      → bytes ≡ record_from degrees neighbours
  unfolding record_from record_of record_length used_bits g numbers
  written {bytes} h e b =
      let front : List Bool = header_bits (length degrees) (length neighbours / 2) ++ unary_bits degrees in
      let f = length_field_bits (map (λ v. v - 1) neighbours) in
      let n = length-map neighbours (λ v. v - 1) in
      begun_pack b h
      (omega (arith, length_front, length-append front (field_bits (map (λ v. v - 1) neighbours))))
      ∙ ap pack (sym bits_are)
