-- The loop figure from the parents of a record's table.
use mathlib.Core.Path.{◌≡◌, refl, sym, ap, ◌∙◌}
use mathlib.Core.List.{List}
use Prim.Native.Nat.{ℕ, ◌+◌, ◌-◌, ◌≤◌}
use native.Mathlib.Omega.{arith}
use lib.ListN.{length}
use Rattle.record.specs.Record.{blocks}
use Rattle.record.specs.Answers.{answered}
use Rattle.record.specs.Operations.{Accepted}
use Rattle.record.specs.Steps.{Sound}
use Rattle.forest.specs.Index.{index_of}
use Rattle.forest.specs.Operations.{first_start, loops, loop_figure, roots_in}
use Rattle.forest.specs.Laws.Taken.{first_taken}
use Rattle.forest.specs.Laws.Figures.{figure_told, loops_asked, loops_given}
use Rattle.queries.specs.Written.{Written}
use Rattle.queries.specs.Table.{table_of}
use Rattle.queries.specs.Laws.Figured.{table_long, table_loops}

module _ {bytes parents : List ℕ} {n m : ℕ} (s : Sound bytes n m) (a : Accepted bytes)
    (e : parents ≡ (table_of bytes (first_start n)).parents) where
  written : Written bytes (index_of (blocks bytes) (first_start n - 1))
  written = record { accepted = a; start = first_start n; taken = rw (sym s.is_n) (first_taken n); is = refl }

  long : length parents ≡ n
  long = ap length e ∙ table_long written ∙ sym s.is_n

  whole : n + loops bytes ≡ m + roots_in parents
  whole =
      let t = table_loops written in
      let q = ap roots_in e in
      omega (arith, s.is_n, s.is_m)

  pub figure_asked : (m ≤ 16384) × (length parents ≤ 4096) × (length parents ≤ m + roots_in parents)
  figure_asked = loops_asked s parents long whole

  pub figure_given : {r : ℕ} → r ≡ m + roots_in parents - length parents → answered r ≡ loop_figure bytes
  figure_given q = ap answered (q ∙ loops_given s parents long whole) ∙ sym (figure_told a)
