-- `index::write_sections` meets its contract.
use Prim.Native.Nat.{◌+◌, ◌*◌}
use mathlib.Core.Path.{◌≡◌}
use native.Mathlib.Omega.{arith}
use lib.ListN.{length}
use Rattle.forest.specs.Index.{index_length, number_bytes}
use Rattle.forest.proofs.Laws.Graphs.{Sized}
use Rattle.forest.specs.Graphs.{held}
use Rattle.forest.proofs.Laws.Graphs.{many, marks_sized}
use Rattle.forest.proofs.Laws.Owned.{children, parents}
use Rattle.forest.proofs.Laws.Fronts.{marks_asked, marks_written, numbers_asked, sections_written}
use Rattle.forest.proofs.index.write_sections.Goals as goal
use Rattle.forest.proofs.index.write_sections.Goals.{After-mark_bytes-k}

-- the length of a section of marks, and of the rest
sized : (c : After-mark_bytes-k) → Sized (held c.args.g.now) c.args.g.now.n c.args.g.now.m c.mark_bytes-k.result
sized c = marks_sized c.args.g.now c.mark_bytes-k.ensures.0

long : (c : After-mark_bytes-k) → length c.args.index.now ≡ 3 * c.mark_bytes-k.result + number_bytes c.args.g.now.n
unfolding index_length
long c = let k = c.mark_bytes-k.ensures.0 in omega (arith, c.requires.size)

pub split_at_mut-e-requires : goal.split_at_mut-e-requires
split_at_mut-e-requires c = omega (arith, long (goal.at.split_at_mut-e-requires c).After-mark_bytes-k)

pub split_at_mut-p-requires : goal.split_at_mut-p-requires
split_at_mut-p-requires c =
    let l = long (goal.at.split_at_mut-p-requires c).After-mark_bytes-k in
    omega (arith, c.split_at_mut-e.ensures.back_len)

pub split_at_mut-b-requires : goal.split_at_mut-b-requires
split_at_mut-b-requires c =
    let l = long (goal.at.split_at_mut-b-requires c).After-mark_bytes-k in
    omega (arith, c.split_at_mut-e.ensures.back_len, c.split_at_mut-p.ensures.back_len)

pub mark_listed-requires : goal.mark_listed-requires
mark_listed-requires c =
    let t = c.requires.lifts.lifting in
    marks_asked (sized (goal.at.mark_listed-requires c).After-mark_bytes-k) t
    (children (many c.args.g.now) t.searched) c.split_at_mut-e.ensures.front_len

pub mark_listed-requires-2 : goal.mark_listed-requires-2
mark_listed-requires-2 c =
    let t = c.requires.lifts.lifting in
    marks_asked (sized (goal.at.mark_listed-requires-2 c).After-mark_bytes-k) t
    (parents c.args.g.now.formed (many c.args.g.now) t) c.split_at_mut-p.ensures.front_len

pub write_numbers-requires : goal.write_numbers-requires
write_numbers-requires c =
    let l = long (goal.at.write_numbers-requires c).After-mark_bytes-k in
    numbers_asked (sized (goal.at.write_numbers-requires c).After-mark_bytes-k) c.requires.lifts.lifting
    (omega (
      arith,
      c.split_at_mut-e.ensures.back_len,
      c.split_at_mut-p.ensures.back_len,
      c.split_at_mut-b.ensures.back_len,
    ))

pub returns : goal.returns
returns c F t =
    let g = c.args.g.now in
    let z = sized (goal.at.returns c).After-mark_bytes-k in
    let e = c.mark_listed.ensures in
    let p = c.mark_listed-2.ensures in
    sections_written z t
    (marks_written z t (children (many g) t.searched) c.split_at_mut-e.ensures.front_len e.are_bytes e.section_after)
    (marks_written z t (parents g.formed (many g) t) c.split_at_mut-p.ensures.front_len p.are_bytes p.section_after)
    c.mark_bridges.ensures c.write_numbers.ensures
