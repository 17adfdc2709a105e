-- `search::place_from` meets its contract, by the laws of a string that starts inside a byte.
use mathlib.Core.Path.{◌∙◌, sym, refl}
use native.Mathlib.Omega.{arith}
use Rattle.bits.proofs.FromBit.{rest_bounds, place_within, place_none, place_le, place_missing, place_beyond}
use Rattle.bits.proofs.search.place_from.Goals as goal

pub overflow_sub-in_byte : goal.overflow_sub-in_byte
overflow_sub-in_byte c =
    let rest = c.byte_rest-b.ensures in
    let p = rest_bounds rest (omega arith) (omega arith) c.in_byte.ensures in
    omega arith

pub within-requires : goal.within-requires
within-requires c =
    let rest = c.byte_rest-b.ensures in
    let p = rest_bounds rest (omega arith) (omega arith) c.in_byte.ensures in
    omega arith

pub returns-then-k-c : goal.returns-then-k-c
returns-then-k-c c =
    let places = c.args.places in
    c.within.ensures
    ∙ place_within c.byte_rest-b.ensures (omega arith) (omega arith) c.in_byte.ensures places

pub returns-then-places-room : goal.returns-then-places-room
returns-then-places-room c =
    let places = c.args.places in
    sym (place_none c.byte_rest-b.ensures places refl c.if-k-c.false c.if-places-room.true)

pub overflow_add-result : goal.overflow_add-result
overflow_add-result c =
    let places = c.args.places in
    let more = c.if-k-c.false in
    let p = place_le c.byte_rest-b.ensures places refl more (omega arith) c.place_after-p.ensures in
    omega arith

pub returns-then-p-eq0 : goal.returns-then-p-eq0
returns-then-p-eq0 c =
    let places = c.args.places in
    let more = c.if-k-c.false in
    let p = c.place_after-p.ensures in
    sym (place_missing c.byte_rest-b.ensures places refl more (omega arith) p c.if-p-eq0.true)

pub returns-else-p-eq0 : goal.returns-else-p-eq0
returns-else-p-eq0 c =
    let places = c.args.places in
    let more = c.if-k-c.false in
    place_beyond c.byte_rest-b.ensures places refl more (omega arith) c.place_after-p.ensures (omega arith)
