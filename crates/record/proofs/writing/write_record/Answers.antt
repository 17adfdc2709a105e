-- `writing::write_record` meets its contract: header, D and fields stand behind each other, and zeros behind them.
use mathlib.Core.Path.{sym, ◌∙◌}
use Rattle.std.proofs.Common.{rules}
use lib.ListN.{length}
use Rattle.bits.specs.Laws.Begun.{begun_none, begun_blank, begun_on}
use Rattle.record.specs.Laws.RoundTrip.{length_header_bits}
use Rattle.record.proofs.Laws.Writing.Whole.{header_on, record_room, length_front, written}
use Rattle.record.proofs.writing.write_record.Goals as goal

pub write_header-requires : goal.write_header-requires
write_header-requires c =
    let l = c.args.lists.now.listed in
    let filled = c.fill.ensures in
    let room = record_room l (filled.len ∙ c.requires.1) in
    (room.0, l.few, room.1, begun_none (length c.args.bytes.now) (filled.after (λ y e. e)))

pub write_unary-requires : goal.write_unary-requires
write_unary-requires c =
    let l = c.args.lists.now.listed in
    let h = c.write_header.ensures in
    let room = record_room l (c.write_header.auto.bytes ∙ c.fill.ensures.len ∙ c.requires.1) in
    (room.2, begun_blank h 28 (sym (length_header_bits _ _)))

pub write-requires : goal.write-requires
write-requires c =
    let l = c.args.lists.now.listed in
    let h = c.write_header.ensures in
    let u = c.write_unary.ensures in
    let size = c.write_unary.auto.bytes ∙ c.write_header.auto.bytes ∙ c.fill.ensures.len ∙ c.requires.1 in
    let front = header_on c.args.lists.now.degrees.now c.args.lists.now.neighbours.now h u in
    ((record_room l size).3, begun_blank front _ (length_front l))

pub returns : goal.returns
returns c =
    let l = c.args.lists.now.listed in
    let h = c.write_header.ensures in
    let u = c.write_unary.ensures in
    let w = c.write.ensures in
    let size =
    c.write.auto.bytes ∙ c.write_unary.auto.bytes ∙ c.write_header.auto.bytes ∙ c.fill.ensures.len ∙ c.requires.1 in
    let front = header_on c.args.lists.now.degrees.now c.args.lists.now.neighbours.now h u in
    written l (search rules) size (begun_on front _ (length_front l) _ w)
