-- Records and blocks, each read from and written to the other: an accepted record is the record of its blocks, and
-- blocks that fit are the blocks of their record.
use Rattle.std.specs.Prelude.{◌≡◌, true, false, ℕ, ◌+◌, ◌-◌, ◌*◌, ◌/◌, ◌≤◌, ◌<◌, take}
use Rattle.std.proofs.Math.Path.{refl, sym, ap, ap₂}
use Rattle.std.proofs.Common.{◌∙◌, arith, eqb-true, le-leb, lit<, length-append, take-add, length-take-le}
use Rattle.std.proofs.Math.Bool.{Bool}
use mathlib.Core.List.{List, [], ◌∷◌, ◌++◌, append_assoc, flatten}
use Rattle.std.proofs.Math.Nat.{mod-eq_of_lt}
use Rattle.std.proofs.lemmas.Bool.{not-false}
use Rattle.std.proofs.Math.ListN.{length, drop, replicate, length-drop, take-append-drop}
use Rattle.std.proofs.Math.Seq.{take_at, drop_at}
use Rattle.bits.specs.Bits.{to_bits, bits, count, field, pack}
use Rattle.bits.specs.Laws.Bytes.{AreBytes, length_bits}
use Rattle.bits.specs.Laws.Digits.{length_to_bits, to_bits_value}
use Rattle.bits.specs.Laws.Fields.{field_laid}
use Rattle.bits.specs.Laws.Packing.{length_pack, bits_pack, pack_bytes, bits_injective}
use Rattle.bits.specs.Laws.Rank.{held}
use Rattle.graph.specs.Graph.{Blocks, Place}
use Rattle.record.specs.Record.{terminals, wires, used_bits, record_length, unary, fields, parts, blocks, unary_of}
use Rattle.record.specs.Record.{header_bits, field_bits, record_bits, record_of}
use Rattle.record.specs.Rules.{begins_with_zero, spare_set}
use Rattle.record.specs.Operations.{Accepted}
use Rattle.record.specs.Laws.First.{Shaped, checked}
use Rattle.record.specs.Laws.Fields.{length_field_bits, field_bits_from, from_field_bits}
use Rattle.record.specs.Laws.Layout.{length_fields, used_held, unary_is, unary_whole, length_blocks}
use Rattle.adjacency.specs.Laws.Known.{flatten_below}
use Rattle.record.specs.Laws.Unary.{length_unary_of, count_unary_of, begins_unary_of, parts_unary_of, unary_of_parts}
use Rattle.record.specs.Laws.Unary.{flatten_parts}

-- the number of used bits
abbrev used : List ℕ → ℕ
used bytes = used_bits (terminals bytes) (wires bytes)

-- ---- an accepted record is the record of its blocks

-- bits without a one are fill bits
all_zero : (s : List Bool) → count s ≡ 0 → s ≡ replicate (length s) false
unfolding count
all_zero [] e = refl
all_zero (true ∷ s) e = absurd (omega arith)
all_zero (false ∷ s) e = ap (λ (t : List Bool). false ∷ t) (all_zero s e)

-- n, m, D and the fields, one after the other
joined : (s : List Bool) (k l : ℕ)
    → take 13 s ++ (take 15 (drop 13 s) ++ (take k (drop 28 s) ++ take l (drop (28 + k) s))) ≡ take (28 + k + l) s
joined s k l =
    let e : take (28 + k + l) s ≡ take 13 s ++ take 15 (drop 13 s) ++ take k (drop 28 s) ++ take l (drop (28 + k) s) =
    take-add (28 + k) l s
    ∙ ap (λ (t : List Bool). t ++ take l (drop (28 + k) s))
    (take-add 28 k s ∙ ap (λ (t : List Bool). t ++ take k (drop 28 s)) (take-add 13 15 s)) in
    sym (e ∙ simp append_assoc)

module _ {bytes : List ℕ} (s : Shaped bytes) where
  room : used bytes ≤ length (bits bytes)
  room = omega (arith, used_held s, length_bits bytes)

  pub flatten_blocks : flatten (blocks bytes) ≡ fields bytes
  unfolding blocks
  flatten_blocks = flatten_parts (unary bytes) (fields bytes) s.begins (unary_whole s)

  pub unary_of_blocks : unary_of (blocks bytes) ≡ unary bytes
  unfolding blocks
  unary_of_blocks = unary_of_parts (unary bytes) (fields bytes) s.begins (unary_whole s)

  terminals_bits : to_bits 13 (length (blocks bytes)) ≡ take 13 (bits bytes)
  unfolding terminals field used_bits
  terminals_bits =
      ap (to_bits 13) (length_blocks s)
      ∙ to_bits_value 13 (take 13 (bits bytes)) (length-take-le 13 (bits bytes) (omega (arith, room)))

  wires_bits : to_bits 15 (length (flatten (blocks bytes)) / 2) ≡ take 15 (drop 13 (bits bytes))
  unfolding wires field used_bits
  wires_bits =
      let e : length (flatten (blocks bytes)) / 2 ≡ wires bytes =
      omega (arith, ap length flatten_blocks, length_fields bytes) in
      ap (to_bits 15) e ∙ to_bits_value 15 (take 15 (drop 13 (bits bytes)))
      (length-take-le 15 (drop 13 (bits bytes)) (simp length-drop (omega (arith, room))))

  fields_bits : field_bits (flatten (blocks bytes))
      ≡ take (12 * (2 * wires bytes)) (drop (28 + (terminals bytes + 2 * wires bytes)) (bits bytes))
  unfolding fields used_bits
  fields_bits =
      ap field_bits flatten_blocks
      ∙ field_bits_from (bits bytes) (28 + (terminals bytes + 2 * wires bytes)) (2 * wires bytes) room

  -- the used bits are what the blocks write
  record_bits_blocks : record_bits (blocks bytes) ≡ take (used bytes) (bits bytes)
  unfolding record_bits used_bits
  record_bits_blocks =
      rw (terminals_bits, wires_bits, fields_bits, unary_of_blocks, unary_is s)
      (joined (bits bytes) (terminals bytes + 2 * wires bytes) (12 * (2 * wires bytes)))

  length_record_bits_blocks : length (record_bits (blocks bytes)) ≡ used bytes
  length_record_bits_blocks = ap length record_bits_blocks ∙ length-take-le _ _ room

  -- and the spare ones are the fill bits
  rest_bits : spare_set bytes ≡ false → drop (used bytes) (bits bytes) ≡ replicate (8 * length bytes - used bytes) false
  unfolding spare_set
  rest_bits e =
      let r : List Bool = drop (used bytes) (bits bytes) in
      let l : length r ≡ 8 * length bytes - used bytes = simp (length-drop, length_bits) in
      all_zero r (eqb-true _ _ (not-false _ e)) ∙ ap (λ (k : ℕ). replicate k false) l

  bits_again : spare_set bytes ≡ false → bits (pack (record_bits (blocks bytes))) ≡ bits bytes
  unfolding record_length
  bits_again e =
      let c : List Bool = record_bits (blocks bytes) in
      let k : 8 * ((length c + 7) / 8) - length c ≡ 8 * length bytes - used bytes =
      rw (length_record_bits_blocks, s.sized) in
      bits_pack c
      ∙ ap₂ ◌++◌ record_bits_blocks (ap (λ (j : ℕ). replicate j false) k ∙ sym (rest_bits e))
      ∙ take-append-drop (used bytes) (bits bytes)

pub record_of_blocks : {bytes : List ℕ} → Accepted bytes → AreBytes bytes → record_of (blocks bytes) ≡ bytes
unfolding record_of record_bits
record_of_blocks {bytes} accepted h =
    let c = checked accepted in
    bits_injective _ _ (pack_bytes (record_bits (blocks bytes))) h (bits_again c.shape c.spare)

-- ---- blocks that fit are the blocks of their record

-- blocks that a record has room for, with m wires
pub record Fits (g : Blocks) (m : ℕ) : Type 0 where
  pub terminals_fit : length g ≤ 4096
  pub wires_fit : m ≤ 16384
  pub even : length (flatten g) ≡ 2 * m
  pub small : (u j v : ℕ) → Place g u j v → v < 4096

pub record_of_bytes : (g : Blocks) → AreBytes (record_of g)
unfolding record_of
record_of_bytes g = pack_bytes _

pub length_header_bits : (n m : ℕ) → length (header_bits n m) ≡ 28
unfolding header_bits
length_header_bits n m = simp (length-append, length_to_bits)

-- the bits after the fields
fill : Blocks → List Bool
fill g = replicate (8 * ((length (record_bits g) + 7) / 8) - length (record_bits g)) false

module _ {g : Blocks} {m : ℕ} (f : Fits g m) where
  half : length (flatten g) / 2 ≡ m
  half = omega (arith, f.even)

  pub length_record_bits : length (record_bits g) ≡ used_bits (length g) m
  unfolding record_bits used_bits
  length_record_bits =
      simp (length-append, length_to_bits, length_unary_of, length_field_bits) (omega (arith, f.even))

  pub length_record_of : length (record_of g) ≡ record_length (length g) m
  unfolding record_of record_length record_bits
  length_record_of = length_pack (record_bits g) ∙ ap (λ (k : ℕ). (k + 7) / 8) length_record_bits

  bits_record_of : bits (record_of g) ≡ to_bits 13 (length g)
      ++ (to_bits 15 m ++ (unary_of g ++ (field_bits (flatten g) ++ fill g)))
  unfolding record_of record_bits fill
  bits_record_of =
      bits_pack (record_bits g)
      ∙ ap (λ (k : ℕ). to_bits 13 (length g) ++ (to_bits 15 k ++ (unary_of g ++ field_bits (flatten g))) ++ fill g) half
      ∙ simp append_assoc

  length_before : length (header_bits (length g) m ++ unary_of g) ≡ 28 + (length g + length (flatten g))
  length_before =
      length-append (header_bits (length g) m) (unary_of g)
      ∙ omega (arith, length_header_bits (length g) m, length_unary_of g)

  bits_front : bits (record_of g) ≡ header_bits (length g) m ++ (unary_of g ++ (field_bits (flatten g) ++ fill g))
  unfolding header_bits
  bits_front = bits_record_of ∙ sym (append_assoc (to_bits 13 (length g)) (to_bits 15 m) _)

  pub terminals_record_of : terminals (record_of g) ≡ length g
  unfolding terminals
  terminals_record_of =
      ap (λ (s : List Bool). field 13 s 0) bits_record_of
      ∙ field_laid 13 (length g) [] _ 0 refl ∙ mod-eq_of_lt (omega (arith, f.terminals_fit))

  pub wires_record_of : wires (record_of g) ≡ m
  unfolding wires
  wires_record_of =
      ap (λ (s : List Bool). field 15 s 13) bits_record_of
      ∙ field_laid 15 m (to_bits 13 (length g)) _ 13 (length_to_bits 13 (length g))
      ∙ mod-eq_of_lt (omega (arith, f.wires_fit))

  pub unary_record_of : unary (record_of g) ≡ unary_of g
  unfolding unary record_length used_bits
  unary_record_of =
      let l : 28 + (length g + 2 * m) ≤ 8 * length (record_of g) = omega (arith, length_record_of) in
      rw (terminals_record_of, wires_record_of)
      (held (record_of g) 28 (length g + 2 * m) (le-leb _ _ l)
      ∙ ap (take (length g + 2 * m))
      (ap (drop 28) bits_front ∙ drop_at (header_bits (length g) m) _ 28 (length_header_bits (length g) m))
      ∙ take_at (unary_of g) _ (length g + 2 * m) (omega (arith, length_unary_of g, f.even)))

  pub fields_record_of : fields (record_of g) ≡ flatten g
  unfolding fields
  fields_record_of =
      rw (
        terminals_record_of,
        wires_record_of,
        bits_front,
        ← append_assoc (header_bits (length g) m) (unary_of g)
            (field_bits (flatten g) ++ fill g),
        ← f.even,
      )
      (from_field_bits (flatten g) (header_bits (length g) m ++ unary_of g) (fill g) _ length_before
      (flatten_below g (lit< tt) f.small))

  pub blocks_record_of : blocks (record_of g) ≡ g
  unfolding blocks
  blocks_record_of = ap₂ parts unary_record_of fields_record_of ∙ parts_unary_of g

  pub shaped_record_of : Shaped (record_of g)
  unfolding record_length used_bits
  shaped_record_of = record {
    long = omega (arith, length_record_of);
    terminals_fit = omega (arith, terminals_record_of, f.terminals_fit);
    wires_fit = omega (arith, wires_record_of, f.wires_fit);
    sized = rw (terminals_record_of, wires_record_of) length_record_of;
    ones = ap count unary_record_of ∙ count_unary_of g ∙ sym terminals_record_of;
    begins = ap begins_with_zero unary_record_of ∙ begins_unary_of g;
  }
