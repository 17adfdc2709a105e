-- The loop figure of an accepted record.
--   roots_from     every start gives as many roots
--   loops_whole    m and the roots together are no fewer than n, and the figure is the difference
--   roots_in_lem   a list of the parents shows the roots
--   figure_told    the operation's answer
--   loops_asked, loops_given   what `loops_by` asks for and gives, of parents that show the roots
use Rattle.std.specs.Prelude.{◌≡◌, false, ℕ, ◌+◌, ◌-◌, ◌*◌, ◌≤◌, ◌<◌, eqb, length, get_or}
use Rattle.std.proofs.Math.Path.{sym}
use Rattle.std.proofs.Common.{ap, ◌∙◌}
use mathlib.Core.List.{List, flatten}
use native.Mathlib.Omega.{arith}
use Rattle.graph.specs.Graph.{Blocks, WellFormed}
use Rattle.graph.specs.Search.{Forest, starts_from, forest}
use Rattle.graph.specs.Forest.{parent, roots}
use Rattle.graph.specs.Counts.{when}
use Rattle.graph.specs.Laws.Joined.Spanning.{Covers, Spanning}
use Rattle.graph.specs.Laws.Counts.Sums.{sum_same}
use Rattle.graph.specs.Laws.Counts.Roots.{roots_parentless}
use Rattle.graph.specs.Theorems.{start_covers, as_many_looms, edges_outside}
use Rattle.record.specs.Record.{terminals, wires, blocks}
use Rattle.record.specs.Answers.{answered}
use Rattle.record.specs.Operations.{Accepted}
use Rattle.record.specs.Steps.{Sound}
use Rattle.record.specs.Laws.Sound.{accepted_well_formed}
use Rattle.record.specs.Laws.Sounded.{accepted_sound, sound_vertices, sound_all}
use Rattle.record.specs.Laws.Told.{untold}
use Rattle.forest.specs.Operations.{no_start, loops, loop_figure, roots_in}
use Rattle.forest.specs.Laws.Taken.{taken_inside}

-- a list of the parents in a forest of the whole graph
pub roots_in_lem : {g : Blocks} {F : Forest} → Spanning g F → (parents : List ℕ) → length parents ≡ length g
    → ((v : ℕ) → v < length g → get_or parents v 0 ≡ parent F v) → roots_in parents ≡ roots F
unfolding roots_in
roots_in_lem {g} {F} span parents l e =
    rw l (sum_same (length g) (λ v h. ap (λ (x : ℕ). when (eqb x 0) 1) (e v h))) ∙ roots_parentless span

module _ {bytes : List ℕ} (a : Accepted bytes) where
  abbrev g : Blocks
  g = blocks bytes

  pub formed : WellFormed g
  formed = accepted_well_formed a

  pub as_many : length g ≡ terminals bytes
  as_many = sound_vertices (accepted_sound a)

  pub all_places : length (flatten g) ≡ 2 * wires bytes
  all_places = sound_all (accepted_sound a)

  pub first_covered : Covers g (starts_from (length g) 0)
  first_covered = start_covers g 0 (λ h. h)

  module _ (start : ℕ) (taken : no_start (terminals bytes) start ≡ false) where
    pub covered : Covers g (starts_from (length g) (start - 1))
    covered =
        start_covers g (start - 1) (λ h. (
        let k = as_many in
        omega (arith, taken_inside (terminals bytes) start taken (omega arith))
        ))

    pub roots_from : roots (forest g (start - 1)) ≡ roots (forest g 0)
    roots_from = as_many_looms formed covered ∙ sym (as_many_looms formed first_covered)

  pub loops_whole : terminals bytes + loops bytes ≡ wires bytes + roots (forest g 0)
  unfolding loops
  loops_whole =
      let e = edges_outside formed first_covered (wires bytes) all_places in
      let k = as_many in
      omega arith

  pub figure_told : loop_figure bytes ≡ answered (loops bytes)
  unfolding loop_figure
  figure_told = sym (untold (loops bytes) a.unbroken)

module _ {bytes : List ℕ} {n m : ℕ} (s : Sound bytes n m) (parents : List ℕ) (long : length parents ≡ n)
    (whole : n + loops bytes ≡ m + roots_in parents) where
  pub loops_asked : (m ≤ 16384) × (length parents ≤ 4096) × (length parents ≤ m + roots_in parents)
  loops_asked = (s.m_fits, omega (arith, s.n_fits), omega arith)

  pub loops_given : m + roots_in parents - length parents ≡ loops bytes
  loops_given = omega arith
