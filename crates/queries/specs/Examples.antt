-- Document 01's lines that are marked P, all of them, as document 02 changes them, the columns of its listing, the
-- sample from another start, lists of terminals, loop figures, records from lists, and numbers of sections, as one list
-- of cases under one theorem, computed by the checker.
use Rattle.std.specs.Prelude.{◌≡◌, refl, ℕ, ◌-◌, length, take, replicate}
use mathlib.Core.List.{List, [], ◌∷◌, ◌++◌, map, flatten, sum}
use Rattle.bits.specs.Bits.{to_bits, bits, string, count, ones_at, select, value, field, packed, pack}
use Rattle.graph.specs.Graph.{Blocks, mentions, position, pair}
use Rattle.graph.specs.Search.{entered, arcs, run, search, count_up, starts_from}
use Rattle.graph.specs.Joined.{without, joined, bridge}
use Rattle.graph.specs.Forest.{number, roots, child_mark, parent_mark}
use Rattle.graph.specs.Counts.{sum as add_up, different}
use Rattle.graph.specs.Walk.{walk}
use Rattle.record.specs.Record.{terminals, wires, used_bits, record_length, unary, fields_from, fields, zeros, parts}
use Rattle.record.specs.Record.{blocks, lay_out, unary_of, field_bits, record_bits, record_of}
use Rattle.record.specs.Rules.{first_broken, begins_with_zero, order_r, spare_set, place_rules, layout_rules}
use Rattle.record.specs.Rules.{check_rules}
use Rattle.adjacency.specs.Places.{any_in, any_from, stray, one_sided}
use Rattle.record.specs.Answers.{Answer, refused, answered, outcome, otherwise, buffer_after, said}
use Rattle.record.specs.Operations.{check, other_length, out_of_range}
use Rattle.record.specs.Filing.{by_degrees, record_from, bad_lists, file_rules, file, filed}
use Rattle.forest.specs.Index.{marks_from, section, section_e, section_p, section_b, numbers, index_by, index_of}
use Rattle.forest.specs.Index.{mark_bytes, number_bytes, index_length}
use Rattle.forest.specs.Operations.{loops, loop_figure, roots_in}
use Rattle.queries.specs.View.{block_marks, section_of, number_of, ones_of_b}
use Rattle.queries.specs.Queries.{step_by, step_up, head_of, parent_of, child_count, visit_of}
use Rattle.queries.specs.Operations.{beside_rules, order_q, head, parent, children, visit}
use Rattle.queries.specs.Table.{Columns, columns, answers_of, parents_on, heads_on, table_on, table_of}
use Rattle.queries.specs.Lookup.{Lists, lists, both, head_and_visit, refused_by, bad_list, lookup_rules, lookup}
use Rattle.queries.specs.Lookup.{lookup_lists, looked_up}

-- a line: blocks and their record, a record and its blocks, a record and what Check says, a record, a start and its
-- index, a record with its index and the heads of its terminals, a record, a start and its table, a record, an index, a
-- list of terminals and two lists that are lent, with what Lookup answers and the two lists afterwards, a record and
-- its loop figure, degrees, neighbours and a buffer, with what File answers and the buffer afterwards, or a record with
-- its index, the number of different heads, that of the roots and that of the ones of B
pub data Line : Type 0 where
  packs : Blocks → List ℕ → Line
  reads : List ℕ → Blocks → Line
  checks : List ℕ → Answer (Unit {0}) → Line
  indexed : List ℕ → ℕ → List ℕ → Line
  headed : List ℕ → List ℕ → List (Answer ℕ) → Line
  listed : List ℕ → ℕ → Columns → Line
  looks : List ℕ → List ℕ → List ℕ → Lists → Answer (Unit {0}) → Lists → Line
  figured : List ℕ → Answer ℕ → Line
  files : List ℕ → List ℕ → List ℕ → Answer (Unit {0}) → List ℕ → Line
  sectioned : List ℕ → List ℕ → ℕ → ℕ → ℕ → Line

abbrev pub computed : Line → Line
computed (packs g bytes) = packs g (record_of g)
computed (reads bytes g) = reads bytes (blocks bytes)
computed (checks bytes a) = checks bytes (check bytes)
computed (indexed bytes start index) = indexed bytes start (index_of (blocks bytes) (start - 1))
computed (headed bytes index heads) = headed bytes index (map (head bytes index) (count_up 1 (length heads)))
computed (listed bytes start t) = listed bytes start (table_of bytes start)
computed (looks bytes index list lent a l) =
    looks bytes index list lent (lookup bytes index list lent) (looked_up bytes index list lent)
computed (figured bytes a) = figured bytes (loop_figure bytes)
computed (files degrees neighbours buffer a after) =
    files degrees neighbours buffer (file degrees neighbours buffer) (filed degrees neighbours buffer)
computed (sectioned bytes index heads roots ones) =
    sectioned bytes index (different (heads_on bytes index)) (roots_in (parents_on bytes index)) (ones_of_b bytes index)

-- the sample loom, terminals less 1
abbrev pub loom : Blocks
loom = (2 ∷ 1 ∷ []) ∷ (0 ∷ 2 ∷ []) ∷ (1 ∷ 3 ∷ 0 ∷ []) ∷ (2 ∷ []) ∷ (5 ∷ []) ∷ (4 ∷ []) ∷ []

abbrev pub sample : List ℕ
sample =
    0x00 ∷ 0x30 ∷ 0x00 ∷ 0x59 ∷ 0x22 ∷ 0xA0 ∷ 0x02 ∷ 0x00 ∷ 0x10 ∷ 0x00
    ∷ 0x00 ∷ 0x20 ∷ 0x01 ∷ 0x00 ∷ 0x30 ∷ 0x00 ∷ 0x00 ∷ 0x20 ∷ 0x05 ∷ 0x00 ∷ 0x40 ∷ []

abbrev pub empty : List ℕ
empty = 0x00 ∷ 0x00 ∷ 0x00 ∷ 0x00 ∷ []

abbrev pub single : List ℕ
single = 0x00 ∷ 0x08 ∷ 0x00 ∷ 0x08 ∷ []

abbrev pub wire : List ℕ
wire = 0x00 ∷ 0x10 ∷ 0x00 ∷ 0x1A ∷ 0x00 ∷ 0x10 ∷ 0x00 ∷ []

abbrev pub wire_index : List ℕ
wire_index = 0x40 ∷ 0x10 ∷ 0x50 ∷ 0x00 ∷ 0x00 ∷ 0x01 ∷ []

abbrev pub sample_index : List ℕ
sample_index =
    0x41 ∷ 0x84 ∷ 0x04 ∷ 0x51 ∷ 0x00 ∷ 0x95 ∷ 0x00 ∷ 0x00 ∷ 0x02 ∷ 0x00 ∷ 0x10 ∷ 0x03 ∷ 0x00 ∷ 0x40 ∷ 0x05 ∷ []

-- from terminal 4: 4, 3, 2, 1, 5, 6
abbrev pub sample_index4 : List ℕ
sample_index4 =
    0x09 ∷ 0x14 ∷ 0x24 ∷ 0x81 ∷ 0x00 ∷ 0x95 ∷ 0x00 ∷ 0x30 ∷ 0x02 ∷ 0x00 ∷ 0x10 ∷ 0x00 ∷ 0x00 ∷ 0x40 ∷ 0x05 ∷ []

-- two wires between the same terminals: the line that gave 7
abbrev pub doubled_blocks : Blocks
doubled_blocks = (1 ∷ 1 ∷ []) ∷ (0 ∷ 0 ∷ []) ∷ []

abbrev pub doubled : List ℕ
doubled = 0x00 ∷ 0x10 ∷ 0x00 ∷ 0x29 ∷ 0x00 ∷ 0x04 ∷ 0x00 ∷ 0x40 ∷ 0x00 ∷ 0x00 ∷ 0x00 ∷ []

abbrev pub doubled_index : List ℕ
doubled_index = 0x40 ∷ 0x08 ∷ 0x00 ∷ 0x00 ∷ 0x00 ∷ 0x01 ∷ []

-- a terminal, three in a ring, and a doubled wire
abbrev pub several_looms : Blocks
several_looms = [] ∷ (2 ∷ 3 ∷ []) ∷ (1 ∷ 3 ∷ []) ∷ (1 ∷ 2 ∷ []) ∷ (5 ∷ 5 ∷ []) ∷ (4 ∷ 4 ∷ []) ∷ []

-- the columns of the sample's listing
abbrev pub sample_table : Columns
sample_table =
    columns
    (1 ∷ 3 ∷ 2 ∷ 4 ∷ 5 ∷ 6 ∷ [])
    (0 ∷ 3 ∷ 1 ∷ 3 ∷ 0 ∷ 5 ∷ [])
    (1 ∷ 0 ∷ 2 ∷ 0 ∷ 1 ∷ 0 ∷ [])
    (1 ∷ 1 ∷ 1 ∷ 4 ∷ 5 ∷ 6 ∷ [])

-- every bit set: terminal 1 shows two parents, terminal 4 is its own head, and all stored numbers are 4,095
abbrev pub full_index : List ℕ
full_index = replicate 15 0xFF

-- two lists that are lent
abbrev pub lent : Lists
lent = lists (90 ∷ 91 ∷ []) (92 ∷ 93 ∷ [])

-- the sample's degrees, and its neighbours in a row, from 1
abbrev pub sample_degrees : List ℕ
sample_degrees = 2 ∷ 2 ∷ 3 ∷ 1 ∷ 1 ∷ 1 ∷ []

abbrev pub sample_neighbours : List ℕ
sample_neighbours = 3 ∷ 2 ∷ 1 ∷ 3 ∷ 2 ∷ 4 ∷ 1 ∷ 3 ∷ 6 ∷ 5 ∷ []

-- for any three bytes a, b and c
abbrev pub lines : ℕ → ℕ → ℕ → List Line
lines a b c =
    packs loom sample
    ∷ reads sample loom
    ∷ checks sample (answered tt)
    ∷ indexed sample 1 sample_index
    ∷ headed sample sample_index (map answered (1 ∷ 1 ∷ 1 ∷ 4 ∷ 5 ∷ 6 ∷ []))
    ∷ listed sample 1 sample_table
    ∷ indexed sample 4 sample_index4
    ∷ headed sample sample_index4 (map answered (3 ∷ 3 ∷ 3 ∷ 4 ∷ 5 ∷ 6 ∷ []))
    ∷ sectioned sample sample_index 4 2 4
    ∷ sectioned sample sample_index4 4 2 4
    ∷ sectioned doubled doubled_index 1 1 0
    ∷ sectioned wire wire_index 2 1 2
    ∷ sectioned empty [] 0 0 0
    ∷ looks sample sample_index (4 ∷ 2 ∷ []) lent (answered tt) (lists (4 ∷ 1 ∷ []) (4 ∷ 3 ∷ []))
    ∷ looks sample sample_index (2 ∷ 2 ∷ []) lent (answered tt) (lists (1 ∷ 1 ∷ []) (3 ∷ 3 ∷ []))
    ∷ looks sample sample_index (4 ∷ 7 ∷ []) lent (refused 11) lent
    ∷ looks sample full_index (1 ∷ 0 ∷ []) lent (refused 12) lent
    ∷ looks sample full_index (0 ∷ 1 ∷ []) lent (refused 11) lent
    ∷ looks sample full_index (4 ∷ 0 ∷ []) lent (refused 12) lent
    ∷ looks sample sample_index (4 ∷ []) lent (refused 15) lent
    ∷ looks sample [] (7 ∷ []) lent (refused 10) lent
    ∷ looks empty [] [] (lists [] []) (answered tt) (lists [] [])
    ∷ figured sample (answered 1)
    ∷ figured empty (answered 0)
    ∷ figured wire (answered 0)
    ∷ figured doubled (answered 1)
    ∷ figured (record_of several_looms) (answered 2)
    ∷ figured (take 20 sample ++ (0x41 ∷ [])) (refused 5)
    ∷ figured (record_of ((1 ∷ 1 ∷ 1 ∷ []) ∷ (0 ∷ []) ∷ [])) (refused 8)
    ∷ files sample_degrees sample_neighbours (replicate 21 0xFF) (answered tt) sample
    ∷ files sample_degrees sample_neighbours (a ∷ b ∷ c ∷ []) (refused 17) (a ∷ b ∷ c ∷ [])
    ∷ files [] [] (replicate 4 0xFF) (answered tt) empty
    ∷ files (2 ∷ 2 ∷ []) (2 ∷ 2 ∷ 1 ∷ 1 ∷ []) (replicate 11 0xFF) (answered tt) doubled
    ∷ files (1 ∷ 1 ∷ []) (2 ∷ 1 ∷ []) (replicate 7 0xFF) (answered tt) wire
    ∷ files (1 ∷ 1 ∷ []) (2 ∷ 4097 ∷ []) (a ∷ b ∷ c ∷ []) (refused 6) (a ∷ b ∷ c ∷ [])
    ∷ files (1 ∷ 1 ∷ []) (2 ∷ 0 ∷ []) (a ∷ b ∷ c ∷ []) (refused 6) (a ∷ b ∷ c ∷ [])
    ∷ files (1 ∷ 1 ∷ []) (2 ∷ 2 ∷ []) (a ∷ b ∷ c ∷ []) (refused 6) (a ∷ b ∷ c ∷ [])
    ∷ files (2 ∷ 1 ∷ 1 ∷ []) (2 ∷ 3 ∷ 1 ∷ 2 ∷ []) (a ∷ b ∷ c ∷ []) (refused 8) (a ∷ b ∷ c ∷ [])
    ∷ files (1 ∷ 0 ∷ []) (0 ∷ []) (a ∷ b ∷ c ∷ []) (refused 16) (a ∷ b ∷ c ∷ [])
    ∷ files (1 ∷ 1 ∷ []) (2 ∷ []) (a ∷ b ∷ c ∷ []) (refused 16) (a ∷ b ∷ c ∷ [])
    ∷ files (65535 ∷ 3 ∷ []) (2 ∷ 1 ∷ []) (a ∷ b ∷ c ∷ []) (refused 16) (a ∷ b ∷ c ∷ [])
    ∷ packs [] empty
    ∷ reads empty []
    ∷ checks empty (answered tt)
    ∷ indexed empty 0 []
    ∷ packs ([] ∷ []) single
    ∷ reads single ([] ∷ [])
    ∷ checks single (answered tt)
    ∷ indexed single 1 (0x00 ∷ 0x00 ∷ 0x00 ∷ 0x00 ∷ 0x00 ∷ [])
    ∷ packs ((1 ∷ []) ∷ (0 ∷ []) ∷ []) wire
    ∷ reads wire ((1 ∷ []) ∷ (0 ∷ []) ∷ [])
    ∷ checks wire (answered tt)
    ∷ indexed wire 1 wire_index
    ∷ checks (take 20 sample ++ (0x41 ∷ [])) (refused 5)
    ∷ checks (a ∷ b ∷ c ∷ []) (refused 1)
    ∷ checks (0x80 ∷ 0x08 ∷ 0x00 ∷ 0x00 ∷ []) (refused 2)
    ∷ packs doubled_blocks doubled
    ∷ reads doubled doubled_blocks
    ∷ checks doubled (answered tt)
    ∷ indexed doubled 1 doubled_index
    ∷ headed doubled doubled_index (map answered (1 ∷ 1 ∷ []))
    ∷ checks (record_of ((1 ∷ 2 ∷ []) ∷ (0 ∷ []) ∷ (1 ∷ []) ∷ [])) (refused 8)
    ∷ checks (record_of ((1 ∷ 1 ∷ 1 ∷ []) ∷ (0 ∷ []) ∷ [])) (refused 8)
    ∷ []

pub as_stated : (a b c : ℕ) → map computed (lines a b c) ≡ lines a b c
unfolding to_bits bits string count ones_at select value field packed pack mentions position pair entered arcs run
    search count_up starts_from without joined bridge number child_mark parent_mark walk terminals wires used_bits
    record_length unary fields_from fields zeros parts blocks lay_out unary_of field_bits record_bits record_of
    first_broken begins_with_zero order_r any_in any_from spare_set stray one_sided place_rules layout_rules
    check_rules outcome otherwise check other_length out_of_range marks_from section section_e section_p section_b
    numbers index_by mark_bytes number_bytes index_length block_marks section_of number_of step_by step_up head_of beside_rules
    order_q head flatten visit visit_of parent parent_of children child_count said answers_of table_on buffer_after both
    head_and_visit refused_by bad_list lookup_rules lookup lookup_lists looked_up loop_figure loops roots
    by_degrees record_from bad_lists file_rules file filed sum different roots_in add_up
as_stated a b c = refl
