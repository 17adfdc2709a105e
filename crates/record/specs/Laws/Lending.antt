-- Arrays of zeros that are lent as room for the two arrays of a record and for the rules, whole or in part.
use Rattle.std.specs.Prelude.{ℕ, ◌+◌, ◌*◌, ◌≤◌, List, take, replicate}
use Rattle.std.proofs.Common.{arith, length-take-le}
use Rattle.std.proofs.lemmas.List.{length-replicate}
use Rattle.record.specs.Steps.{Lent, Roomy}

pub roomy : (n m a b c d : ℕ) → n + 1 ≤ a → 2 * m ≤ b → 2 * m ≤ c → n ≤ d
    → Roomy n m (replicate a 0) (replicate b 0) (replicate c 0) (replicate d 0)
roomy n m a b c d ha hb hc hd =
    let la = length-replicate {A = ℕ} a 0 in
    let lb = length-replicate {A = ℕ} b 0 in
    let lc = length-replicate {A = ℕ} c 0 in
    let ld = length-replicate {A = ℕ} d 0 in
    record { for_starts = omega arith; for_nbrs = omega arith; for_reverse = omega arith; for_next = omega arith }

pub lent : {n m : ℕ} {starts nbrs reverse next : List ℕ} → Roomy n m starts nbrs reverse next
    → Lent n m (take (n + 1) starts) (take (2 * m) nbrs) (take (2 * m) reverse) (take n next)
lent {n} {m} {starts} {nbrs} {reverse} {next} r = record {
  all_starts = length-take-le (n + 1) starts r.for_starts;
  all_nbrs = length-take-le (2 * m) nbrs r.for_nbrs;
  all_reverse = length-take-le (2 * m) reverse r.for_reverse;
  all_next = length-take-le n next r.for_next;
}
