-- Worked examples, computed: the sample record's header and D, and the corners of rank, select, fields and packing.
use Rattle.std.specs.Prelude.{◌≡◌, refl, true, false, List, [], ◌∷◌, map, ℕ}
use Rattle.bits.specs.Bits.{to_bits, bits, string, count, rank, ones_at, select, value, field, put, packed, pack}
use Rattle.bits.specs.Formula.{field_formula}

abbrev sample : List ℕ
sample =
    0x00 ∷ 0x30 ∷ 0x00 ∷ 0x59 ∷ 0x22 ∷ 0xA0 ∷ 0x02 ∷ 0x00 ∷ 0x10 ∷ 0x00 ∷ 0x00 ∷ 0x20 ∷ 0x01 ∷ 0x00 ∷ 0x30 ∷ 0x00 ∷ 0x00
    ∷ 0x20 ∷ 0x05 ∷ 0x00 ∷ 0x40 ∷ []

-- 6 terminals, 5 wires, and the first field after D: terminal 3, less 1
header : field 13 (bits sample) 0 ∷ field 15 (bits sample) 13 ∷ field 12 (bits sample) 44 ∷ [] ≡ 6 ∷ 5 ∷ 2 ∷ []
unfolding to_bits bits value field
header = refl

-- D: its ones stand at 1, 4, 7, 11, 13 and 15
selects_of_d : map (select (string sample 28 16)) (0 ∷ 1 ∷ 2 ∷ 3 ∷ 4 ∷ 5 ∷ 6 ∷ 7 ∷ []) ≡ 0 ∷ 1 ∷ 4 ∷ 7 ∷ 11 ∷ 13 ∷ 15
    ∷ 0 ∷ []
unfolding to_bits bits string ones_at select
selects_of_d = refl

ranks_of_d : map (rank (string sample 28 16)) (0 ∷ 1 ∷ 3 ∷ 4 ∷ 10 ∷ 11 ∷ 16 ∷ 17 ∷ []) ≡ 0 ∷ 1 ∷ 1 ∷ 2 ∷ 3 ∷ 4 ∷ 6 ∷ 6
    ∷ []
unfolding to_bits bits string count rank
ranks_of_d = refl

-- 168 bits are held; one more is not, and counts as empty
not_held : rank (string sample 1 168) 168 ∷ rank (string sample 0 168) 168 ∷ select (string sample 1 168) 1 ∷ [] ≡ 0
    ∷ 20 ∷ 0 ∷ []
unfolding to_bits bits string count rank ones_at select
not_held = refl

-- three bytes, each starting bit of the first one, and the last bit at which a field of 12 bits can start; the fields
-- there as the bits have them, and by the formula
abbrev three : List ℕ
three = 0xAB ∷ 0xCD ∷ 0xEF ∷ []

at_each_bit : map (field 12 (bits three)) (0 ∷ 1 ∷ 2 ∷ 3 ∷ 4 ∷ 5 ∷ 6 ∷ 7 ∷ 12 ∷ []) ≡ 0xABC ∷ 0x579 ∷ 0xAF3 ∷ 0x5E6
    ∷ 0xBCD ∷ 0x79B ∷ 0xF37 ∷ 0xE6F ∷ 0xDEF ∷ []
unfolding to_bits bits value field
at_each_bit = refl

by_formula : map (field_formula 12 three) (0 ∷ 1 ∷ 2 ∷ 3 ∷ 4 ∷ 5 ∷ 6 ∷ 7 ∷ 12 ∷ []) ≡ 0xABC ∷ 0x579 ∷ 0xAF3 ∷ 0x5E6
    ∷ 0xBCD ∷ 0x79B ∷ 0xF37 ∷ 0xE6F ∷ 0xDEF ∷ []
unfolding field_formula
by_formula = refl

-- a field put, and bits packed with zero bits after them
put_and_packed : pack (put 12 0xABC (bits (0xFF ∷ 0x00 ∷ 0xFF ∷ [])) 6) ≡ 0xFE ∷ 0xAF ∷ 0x3F ∷ []
unfolding to_bits bits value put packed pack
put_and_packed = refl

fill : pack (true ∷ false ∷ true ∷ []) ≡ 0xA0 ∷ []
unfolding value packed pack
fill = refl
