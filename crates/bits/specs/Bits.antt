-- Bit strings over bytes (document 01, "Bits"): what the contracts of this crate mean. A byte is a number below 256 and
-- a bit is a Boolean, true for a one. A list of bits has its most significant bit first.
use Rattle.std.specs.Prelude.{Bool, true, false, List, [], ◌∷◌, ◌++◌, ℕ, zero, suc, ◌+◌, ◌*◌, ◌/◌, ◌%◌, ◌^◌, eqb, leb}
use Rattle.std.specs.Prelude.{length, take, drop, get_or, replicate}

-- the w lowest bits of a number, most significant first
unfoldable pub to_bits : ℕ → ℕ → List Bool
to_bits zero v = []
to_bits (suc w) v = eqb (v / 2 ^ w % 2) 1 ∷ to_bits w v

-- the bits of a list of bytes
unfoldable pub bits : List ℕ → List Bool
bits [] = []
bits (b ∷ bytes) = to_bits 8 b ++ bits bytes

-- the bit string of so many places from bit `start` on, counted from 0; empty where the bytes don't hold it in full
unfoldable pub string : List ℕ → ℕ → ℕ → List Bool
string bytes start places =
    elim (leb (start + places) (8 * length bytes)) [ true ↦ take places (drop start (bits bytes)) | false ↦ [] ]

-- how many of the bits are ones
unfoldable pub count : List Bool → ℕ
count [] = 0
count (true ∷ s) = suc (count s)
count (false ∷ s) = count s

-- rank(p): the number of ones in places 1 to p; a p past the end counts all
unfoldable pub rank : List Bool → ℕ → ℕ
rank s p = count (take p s)

-- the places of the ones, in order, where the first bit's place is p
unfoldable pub ones_at : ℕ → List Bool → List ℕ
ones_at p [] = []
ones_at p (true ∷ s) = p ∷ ones_at (suc p) s
ones_at p (false ∷ s) = ones_at (suc p) s

-- select(k): the place of the k-th one, from 1; 0 for k = 0 and where there are fewer ones
unfoldable pub select : List Bool → ℕ → ℕ
select s zero = 0
select s (suc k) = get_or (ones_at 1 s) k 0

-- a bit as a number
abbrev pub bit : Bool → ℕ
bit true = 1
bit false = 0

-- the number that a list of bits writes
unfoldable pub value : List Bool → ℕ
value [] = 0
value (b ∷ s) = bit b * 2 ^ length s + value s

-- the value of the field of w bits from bit `start` on; past the end of the list there are no bits, and the field is
-- shorter
unfoldable pub field : ℕ → List Bool → ℕ → ℕ
field w s start = value (take w (drop start s))

-- the bits with the w lowest bits of v in the field of w bits from bit `start` on; where the list holds that field,
-- nothing else changes
unfoldable pub put : ℕ → ℕ → List Bool → ℕ → List Bool
put w v s start = take start s ++ (to_bits w v ++ drop (start + w) s)

-- the next n bytes of a list of bits, with zero bits after its end
unfoldable pub packed : ℕ → List Bool → List ℕ
packed zero s = []
packed (suc n) s = value (take 8 (s ++ replicate 8 false)) ∷ packed n (drop 8 s)

-- the bits packed to bytes, the last byte filled up with zero bits
unfoldable pub pack : List Bool → List ℕ
pack s = packed ((length s + 7) / 8) s
