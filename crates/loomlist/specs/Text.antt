-- The text of a listing: a line for each terminal.
use Rattle.std.specs.Prelude.{ℕ, zero, suc, ◌+◌, List, [], ◌++◌, codes, decimal, slice_index}

-- a terminal's number, its visit number, parent, count of children and head
abbrev pub line : ℕ → ℕ → ℕ → ℕ → ℕ → List ℕ
line terminal visit parent count head =
    decimal terminal
    ++ (codes " "
    ++ (decimal visit
    ++ (codes " "
    ++ (decimal parent
    ++ (codes " "
    ++ (decimal count ++ (codes " " ++ decimal head)))))))

-- the lines of the first k terminals, whose numbers count from 1
abbrev pub lines : List ℕ → List ℕ → List ℕ → List ℕ → ℕ → List ℕ
lines visits parents counts heads zero = []
lines visits parents counts heads (suc k) =
    lines visits parents counts heads k
    ++ (line
    (k + 1)
    (slice_index visits k)
    (slice_index parents k)
    (slice_index counts k)
    (slice_index heads k)
    ++ codes "\n")

-- a heading, the lines of n terminals, and the loop figure's
abbrev pub listing : List ℕ → List ℕ → List ℕ → List ℕ → ℕ → ℕ → List ℕ
listing visits parents counts heads n loops =
    codes "terminal visit parent children head\n"
    ++ lines visits parents counts heads n
    ++ codes "loops "
    ++ decimal loops
    ++ codes "\n"
