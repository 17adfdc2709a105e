-- What contracts and proofs inside this crate say of bytes joined to a number, of a byte, of a search for ones, and of
-- a number with a field replaced, and what callers are told of four fields.
--   joined    bytes joined to a number
--   eight     eight bytes of a list
--   two       two bytes of a list
--   three     two bytes of a list in a row, and a third
--   byte_of    a byte of a number
--   low_bytes  the lowest bytes of a number, the lowest first
--   IsByte    a number is a byte of a list
--   IsRest    a number is what is left of a byte from a bit on
--   within    a place, or 0 past a limit
--   FourAt    four numbers are the fields of 12 bits from a bit on
--   four_of    four numbers of 12 bits, joined
--   front_of   what stands before a bit in its byte
--   Blank     only zeros stand from a bit on
--   Begun     the bits of some bytes begin with others, and are zeros after them
--   replace   a number with a field replaced
use Rattle.std.specs.Prelude.{◌≡◌, Bool, true, false, List, [], ◌∷◌, ◌++◌, ℕ, ◌+◌, ◌-◌, ◌*◌, ◌/◌, ◌%◌, ◌^◌, ◌≤◌, ◌<◌}
use Rattle.std.specs.Prelude.{zero, suc, leb, length, drop, get_or, replicate}
use Rattle.bits.specs.Bits.{bits, field}

-- the bytes, one below the other, below the number a
abbrev pub joined : ℕ → List ℕ → ℕ
joined a [] = a
joined a (b ∷ bytes) = joined (a * 256 + b) bytes

-- the eight bytes from byte f on, with zeros past the end
abbrev pub eight : List ℕ → ℕ → List ℕ
eight bytes f =
    get_or bytes f 0 ∷ get_or bytes (f + 1) 0 ∷ get_or bytes (f + 2) 0 ∷ get_or bytes (f + 3) 0
    ∷ get_or bytes (f + 4) 0 ∷ get_or bytes (f + 5) 0 ∷ get_or bytes (f + 6) 0 ∷ get_or bytes (f + 7) 0 ∷ []

-- bytes f and l
abbrev pub two : List ℕ → ℕ → ℕ → List ℕ
two bytes f l = get_or bytes f 0 ∷ get_or bytes l 0 ∷ []

-- byte f, the next, and byte l
abbrev pub three : List ℕ → ℕ → ℕ → List ℕ
three bytes f l = get_or bytes f 0 ∷ get_or bytes (f + 1) 0 ∷ get_or bytes l 0 ∷ []

-- the byte of x above its k lowest bits
unfoldable pub byte_of : ℕ → ℕ → ℕ
byte_of x k = x / 2 ^ k % 256

-- n bytes of x above its k lowest bits, the lowest first
abbrev pub low_bytes : ℕ → ℕ → ℕ → List ℕ
low_bytes zero k x = []
low_bytes (suc n) k x = byte_of x k ∷ low_bytes n (k + 8) x

-- b is byte `at`
pub record IsByte (bytes : List ℕ) (at b : ℕ) : Type 0 where
  pub inside : at < length bytes
  pub same : b ≡ get_or bytes at 0
  pub small : b < 256

-- b is what is left of a byte, from bit `start` on to its end
pub record IsRest (bytes : List ℕ) (start b : ℕ) : Type 0 where
  pub inside : start < 8 * length bytes
  pub same : b ≡ field (8 - start % 8) (bits bytes) start
  pub small : b < 256

-- the place p, or 0 where it is past the limit
unfoldable pub within : ℕ → ℕ → ℕ
within limit p = elim (leb p limit) [ true ↦ p | false ↦ 0 ]

-- a, b, c and d are the four fields of 12 bits from bit `start` on
pub record FourAt (s : List Bool) (start a b c d : ℕ) : Type 0 where
  pub first : a ≡ field 12 s start
  pub second : b ≡ field 12 s (start + 12)
  pub third : c ≡ field 12 s (start + 24)
  pub fourth : d ≡ field 12 s (start + 36)
  pub small : (a < 4096) × (b < 4096) × (c < 4096) × (d < 4096)

-- the numbers a, b, c and d, of 12 bits each, one below the other
abbrev pub four_of : ℕ → ℕ → ℕ → ℕ → ℕ
four_of a b c d = (a * 2 ^ 12 + b) * 2 ^ 24 + (c * 2 ^ 12 + d)

-- the bits before bit `start` in its byte, as a number
abbrev pub front_of : List Bool → ℕ → ℕ
front_of s start = field (start % 8) s (8 * (start / 8))

-- from bit `start` on there are only zeros
pub record Blank (s : List Bool) (start : ℕ) : Type 0 where
  pub clear : drop start s ≡ replicate (length s - start) false

-- the bits of the bytes are s, and zeros after them: so far they are written
pub record Begun (bytes : List ℕ) (s : List Bool) : Type 0 where
  pub fits : length s ≤ 8 * length bytes
  pub holds : bits bytes ≡ s ++ replicate (8 * length bytes - length s) false

-- the number x with v in the w bits above its k lowest
abbrev pub replace : ℕ → ℕ → ℕ → ℕ → ℕ
replace x w k v = (x / 2 ^ (w + k) * 2 ^ w + v) * 2 ^ k + x % 2 ^ k
