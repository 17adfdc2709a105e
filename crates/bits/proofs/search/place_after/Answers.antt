-- `search::place_after` meets its contract: the bytes searched hold the first `limit` bits.
use mathlib.Core.Path.{◌∙◌, ap}
use Prim.Native.Nat.{◌+◌, ◌/◌}
use native.Mathlib.Omega.{arith}
use lib.ListN.{drop}
use Rattle.bits.specs.Bits.{select}
use Rattle.bits.specs.Laws.Bytes.{first_bits}
use Rattle.bits.proofs.search.place_after.Goals as goal

pub returns : goal.returns
returns c =
    let a = c.args in
    let after = drop (a.start / 8 + 1) a.bytes.now in
    c.place_of.ensures ∙ ap (λ (s : _). select s a.k) (first_bits a.limit _ after (omega arith))
