-- What contracts say of a list of visit numbers that is to be written.
use Rattle.std.specs.Prelude.{List, ℕ, ◌≤◌, ◌<◌, length, get_or}

-- at most 4,096 numbers, each from 1 to 4,096
pub record Visits (visits : List ℕ) : Type 0 where
  pub few : length visits ≤ 4096
  pub some : (v : ℕ) → v < length visits → 1 ≤ get_or visits v 0
  pub most : (v : ℕ) → v < length visits → get_or visits v 0 ≤ 4096
