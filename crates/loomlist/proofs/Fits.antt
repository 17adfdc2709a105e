-- The longest listing fits the room for it: a heading of 36 bytes, at most 30 for each line, and 27.
use Rattle.std.specs.Prelude.{◌≡◌, ℕ, zero, suc, ◌+◌, ◌*◌, ◌^◌, ◌≤◌, ◌<◌, List, ◌++◌, codes, decimal, slice_index, length}
use Rattle.std.proofs.Common.{arith, length-append}
use Rattle.std.proofs.lemmas.Fmt.{length-decimal-le}
use Rattle.loomlist.specs.Text.{line, lines, listing}

-- a number of 16 bits has at most five digits
five : (k : ℕ) → k < 65536 → length (decimal k) ≤ 5
five k h = length-decimal-le 5 k (omega arith) (omega arith) (omega arith)

-- two texts, one behind the other
joined : (a b : List ℕ) {x y : ℕ} → length a ≤ x → length b ≤ y → length (a ++ b) ≤ x + y
joined a b h k = omega (arith, length-append a b)

row_length : (t v p c h : ℕ) → t < 65536 → v < 65536 → p < 65536 → c < 65536 → h < 65536
    → length (line t v p c h ++ codes "\n") ≤ 30
row_length t v p c h ht hv hp hc hh =
    let a = five t ht in
    let b = five v hv in
    let d = five p hp in
    let e = five c hc in
    let f = five h hh in
    simp length-append (omega arith)

-- each number of a list is one of 16 bits
pub record Cells (l : List ℕ) : Type 0 where
  pub small : (i : ℕ) → slice_index l i < 65536

-- 30 bytes for each of n lines
abbrev rows : ℕ → ℕ
rows zero = 0
rows (suc n) = rows n + 30

rows_are : (n : ℕ) → rows n ≡ 30 * n
rows_are zero = omega arith
rows_are (suc n) = let e = rows_are n in omega arith

lines_length : (v p c h : List ℕ) → Cells v → Cells p → Cells c → Cells h → (n : ℕ) → n ≤ 4096
    → length (lines v p c h n) ≤ rows n
lines_length v p c h cv cp cc ch zero l = omega arith
lines_length v p c h cv cp cc ch (suc n) l =
    joined (lines v p c h n)
    (line (n + 1) (slice_index v n) (slice_index p n) (slice_index c n) (slice_index h n) ++ codes "\n")
    (lines_length v p c h cv cp cc ch n (omega arith))
    (row_length (n + 1) (slice_index v n) (slice_index p n) (slice_index c n) (slice_index h n) (omega arith)
    (cv.small n) (cp.small n) (cc.small n) (ch.small n))

last_length : (loops : ℕ) → loops < 2 ^ 64 → length (codes "loops " ++ (decimal loops ++ codes "\n")) ≤ 27
last_length loops k =
    let figure = length-decimal-le 20 loops (omega arith) (omega arith) k in
    simp length-append (omega arith)

pub listing_fits : (v p c h : List ℕ) → Cells v → Cells p → Cells c → Cells h → (n loops : ℕ) → n ≤ 4096
    → loops < 2 ^ 64 → length (listing v p c h n loops) ≤ 122943
listing_fits v p c h cv cp cc ch n loops l k =
    let e = rows_are n in
    let all = joined (lines v p c h n) (codes "loops " ++ (decimal loops ++ codes "\n"))
    (lines_length v p c h cv cp cc ch n l) (last_length loops k) in
    simp length-append (omega (arith, simp length-append at all))
