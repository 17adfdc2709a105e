-- Where the blocks start in the list of fields: what the code keeps of D, or of a list of degrees.
use Rattle.std.specs.Prelude.{Bool, true, false, List, [], ◌∷◌, ℕ, suc, ◌+◌}

-- the zeros before each one of D, and all of them at the end, after z zeros
unfoldable pub starts_from : ℕ → List Bool → List ℕ
starts_from z [] = z ∷ []
starts_from z (true ∷ d) = z ∷ starts_from z d
starts_from z (false ∷ d) = starts_from (suc z) d

abbrev pub starts_of : List Bool → List ℕ
starts_of d = starts_from 0 d

-- the sum of the degrees before each block, and of all at the end, after z
unfoldable pub sums_from : ℕ → List ℕ → List ℕ
sums_from z [] = z ∷ []
sums_from z (d ∷ degrees) = z ∷ sums_from (z + d) degrees

abbrev pub sums_of : List ℕ → List ℕ
sums_of degrees = sums_from 0 degrees
