-- What Check says of a record that is written from blocks: only rules 6 and 8 can be broken.
use Rattle.std.specs.Prelude.{◌≡◌, refl, Bool, false, drop}
use Rattle.std.proofs.Math.Path.{ap}
use Rattle.std.proofs.Common.{◌∙◌, le-ltb, eq-eqb, drop_at}
use Rattle.std.proofs.Math.Bool.{not}
use mathlib.Core.List.{List}
use Prim.Native.Nat.{ℕ, ◌+◌, ◌-◌, ◌*◌, ◌/◌}
use Rattle.std.proofs.Math.ListN.{length}
use Rattle.bits.specs.Bits.{bits, count, pack}
use Rattle.bits.specs.Laws.Packing.{bits_pack}
use Rattle.graph.specs.Graph.{Blocks}
use Rattle.record.specs.Record.{terminals, wires, used_bits, record_length, unary, record_bits, record_of}
use Rattle.record.specs.Rules.{first_broken, order_r, spare_set, place_rules, check_rules}
use Rattle.record.specs.Laws.First.{Shaped}
use Rattle.record.specs.Laws.RoundTrip.{Fits, length_record_bits, terminals_record_of, wires_record_of}
use Rattle.record.specs.Laws.RoundTrip.{blocks_record_of, shaped_record_of}
use Rattle.record.specs.Laws.Unary.{count_zeros}
use Rattle.record.specs.Laws.Sounded.{sound_of}
use Rattle.record.specs.Laws.Unpacked.{check_left}

-- order R is kept
order_kept : {bytes : List ℕ} → Shaped bytes → first_broken (order_r bytes) ≡ 0
unfolding order_r first_broken
order_kept {bytes} s =
    rw (
      le-ltb (length bytes) 4 s.long,
      le-ltb 4096 (terminals bytes) s.terminals_fit,
      le-ltb 16384 (wires bytes) s.wires_fit,
      eq-eqb (length bytes) (record_length (terminals bytes) (wires bytes)) s.sized,
      eq-eqb (count (unary bytes)) (terminals bytes) s.ones,
      s.begins,
    )

module _ {g : Blocks} {m : ℕ} (f : Fits g m) where
  -- no spare bit is set
  spare_clear : spare_set (record_of g) ≡ false
  unfolding spare_set record_of
  spare_clear =
      let k : ℕ = used_bits (length g) m in
      let e : count (drop k (bits (pack (record_bits g)))) ≡ 0 =
      ap (λ (s : List Bool). count (drop k s)) (bits_pack (record_bits g))
      ∙ ap count (drop_at (record_bits g) _ k (length_record_bits f))
      ∙ count_zeros (8 * ((length (record_bits g) + 7) / 8) - length (record_bits g)) in
      rw (terminals_record_of f, wires_record_of f) (ap not (eq-eqb _ 0 e))

  -- Check's refusal is the first broken rule on the places of the blocks
  pub check_record_of : first_broken (check_rules (record_of g)) ≡ first_broken (place_rules g)
  check_record_of =
      let s = sound_of (record_of g) (order_kept (shaped_record_of f)) refl refl in
      check_left (record { sound = s; clear = spare_clear })
      ∙ ap (λ (h : Blocks). first_broken (place_rules h)) (blocks_record_of f)
