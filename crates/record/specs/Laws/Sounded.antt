-- A record that order R lets pass, by the n and m that the code holds.
--   sound_of        such a record, by its rules
--   told_sound      by the sizes that order R hands on
--   accepted_sound  an accepted record
--   check_kept      Check hands sizes on where no rule is broken
--   check_sound     and the record is such a one
--   sound_shaped    it has its shape
--   sound_places    D has n + 2·m places
--   sound_ones      n of them are ones
--   sound_vertices  the graph has n vertices
--   sound_all       and 2·m places
--   sound_part      a part of D
--   sound_one       the one of a block
--   sound_span      what lies between it and the next
--   sound_field     a field
--   spare_counted   rule 5, by the ones of the bits after the used ones
use Rattle.std.specs.Prelude.{◌≡◌, refl, not, eqb, get_or}
use Rattle.std.proofs.Math.Path.{sym}
use Rattle.std.proofs.Common.{ap, ◌∙◌, arith, le-leb}
use mathlib.Core.List.{List, flatten}
use Prim.Native.Nat.{ℕ, ◌+◌, ◌-◌, ◌*◌, ◌≤◌, ◌<◌}
use Rattle.std.proofs.Math.ListN.{length, take, drop, length-drop}
use Rattle.std.proofs.Math.Seq.{take_all}
use Rattle.bits.specs.Bits.{bits, field, string, count, rank, select}
use Rattle.bits.specs.Spans.{next_one, SpanOf}
use Rattle.bits.specs.Laws.Rank.{held, rank_inside}
use Rattle.bits.specs.Laws.Bytes.{length_bits}
use Rattle.bits.specs.Laws.Fields.{field_part}
use Rattle.record.specs.Record.{terminals, wires, used_bits, record_length, unary, fields, blocks}
use Rattle.record.specs.Starts.{starts_of}
use Rattle.record.specs.Rules.{first_broken, order_r, spare_set, layout_rules, check_rules}
use Rattle.record.specs.Answers.{answered, tried}
use Rattle.record.specs.Sized.{sizes_of}
use Rattle.record.specs.Operations.{Accepted, check}
use Rattle.record.specs.Steps.{Sound, Laid}
use Rattle.record.specs.Sized.{Sizes}
use Rattle.record.specs.Laws.First.{Shaped, shaped, both_kept, rule_kept, order_numbered, layout_numbered}
use Rattle.record.specs.Laws.Parts.{start_select, start_next}
use Rattle.record.specs.Laws.Told.{untold_back}
use Rattle.record.specs.Laws.Layout.{length_fields, fields_at, used_held, length_unary, length_blocks}
use Rattle.record.specs.Laws.RoundTrip.{flatten_blocks}

pub sound_of : (bytes : List ℕ) {n m : ℕ} → first_broken (order_r bytes) ≡ 0 → n ≡ terminals bytes → m ≡ wires bytes
    → Sound bytes n m
unfolding used_bits record_length
sound_of bytes f n m =
    let h = shaped bytes f in
    let a = h.terminals_fit in
    let b = h.wires_fit in
    let c = used_held h in
    let d = h.sized in
    record {
      kept = f;
      is_n = n;
      is_m = m;
      n_fits = omega arith;
      m_fits = omega arith;
      held = omega arith;
      short = omega arith;
    }

-- the sizes that order R hands on
pub told_sound : (bytes : List ℕ) {s : Sizes} → answered s ≡ tried (order_r bytes) (sizes_of bytes)
    → Sound bytes s.n s.m
told_sound bytes e =
    let (f, g) = untold_back (first_broken (order_r bytes)) (sizes_of bytes) e in
    sound_of bytes f (ap (λ (x : Sizes). x.n) g) (ap (λ (x : Sizes). x.m) g)

-- the sizes that order R and rule 5 hand on
pub told_laid : (bytes : List ℕ) {s : Sizes} → answered s ≡ tried (layout_rules bytes) (sizes_of bytes)
    → Laid bytes s.n s.m
unfolding layout_rules
told_laid bytes e =
    let (f, g) = untold_back (first_broken (layout_rules bytes)) (sizes_of bytes) e in
    let (o, r) = both_kept (order_numbered bytes) _ f in
    let (c, _) = rule_kept 4 _ _ r in
    record { sound = sound_of bytes o (ap (λ (x : Sizes). x.n) g) (ap (λ (x : Sizes). x.m) g); clear = c }

-- an accepted record
pub accepted_sound : {bytes : List ℕ} → Accepted bytes → Sound bytes (terminals bytes) (wires bytes)
unfolding check_rules layout_rules
accepted_sound {bytes} a =
    let (l, _) = both_kept (layout_numbered bytes) _ a.unbroken in
    sound_of bytes (both_kept (order_numbered bytes) _ l).0 refl refl

-- Check lets the record pass
pub check_accepted : {bytes : List ℕ} → answered tt ≡ check bytes → Accepted bytes
unfolding check
check_accepted {bytes} e = record { unbroken = (untold_back (first_broken (check_rules bytes)) tt e).0 }

-- the sizes that Check hands on
module _ (bytes : List ℕ) {s : Sizes} (e : answered s ≡ tried (check_rules bytes) (sizes_of bytes)) where
  pub check_kept : first_broken (check_rules bytes) ≡ 0
  check_kept = (untold_back (first_broken (check_rules bytes)) (sizes_of bytes) e).0

  pub check_sound : Sound bytes s.n s.m
  unfolding check_rules layout_rules
  check_sound =
      let g = (untold_back (first_broken (check_rules bytes)) (sizes_of bytes) e).1 in
      let (l, _) = both_kept (layout_numbered bytes) _ check_kept in
      let k = (both_kept (order_numbered bytes) _ l).0 in
      sound_of bytes k (ap (λ (x : Sizes). x.n) g) (ap (λ (x : Sizes). x.m) g)

module _ {bytes : List ℕ} {n m : ℕ} (s : Sound bytes n m) where
  pub sound_shaped : Shaped bytes
  sound_shaped = shaped bytes s.kept

  places_are : n + 2 * m ≡ terminals bytes + 2 * wires bytes
  places_are = omega (arith, s.is_n, s.is_m)

  unary_is : unary bytes ≡ string bytes 28 (n + 2 * m)
  unfolding unary
  unary_is = sym (ap (string bytes 28) places_are)

  pub sound_places : length (unary bytes) ≡ n + 2 * m
  sound_places = length_unary sound_shaped ∙ sym places_are

  pub sound_ones : count (unary bytes) ≡ n
  sound_ones = sound_shaped.ones ∙ sym s.is_n

  -- the graph has n vertices and 2·m places
  pub sound_vertices : length (blocks bytes) ≡ n
  sound_vertices = length_blocks sound_shaped ∙ sym s.is_n

  pub sound_all : length (flatten (blocks bytes)) ≡ 2 * m
  sound_all = ap length (flatten_blocks sound_shaped) ∙ length_fields bytes ∙ ap (λ (x : ℕ). 2 * x) (sym s.is_m)

  -- D stands from bit 28 on
  unary_held : unary bytes ≡ take (n + 2 * m) (drop 28 (bits bytes))
  unary_held =
      let f = s.held in
      unary_is ∙ held bytes 28 (n + 2 * m) (le-leb (28 + (n + 2 * m)) (8 * length bytes) (omega arith))

  -- a part of D
  pub sound_part : (w i : ℕ) → i + w ≤ n + 2 * m → field w (bits bytes) (28 + i) ≡ field w (unary bytes) i
  sound_part w i h = rw unary_held (sym (field_part w i (n + 2 * m) 28 (bits bytes) h))

  -- the one of a block
  pub sound_one : {v : ℕ} → v < n → v + 1 ≤ count (take (n + 2 * m) (drop 28 (bits bytes)))
  sound_one h = let e = ap count unary_held in omega (arith, sound_ones)

  -- what lies between it and the next
  pub sound_span : {v from to : ℕ} → v < n → SpanOf (take (n + 2 * m) (drop 28 (bits bytes))) (v + 1) from to
      → (from ≡ get_or (starts_of (unary bytes)) v 0 + (v + 1)) × (to
      ≡ get_or (starts_of (unary bytes)) (v + 1) 0 + (v + 1))
  sound_span {v} h e =
      let d = unary_held in
      let c : v < count (unary bytes) = omega (arith, sound_ones) in
      let from = e.begins ∙ ap (λ t. select t (v + 1)) (sym d) ∙ sym (start_select (unary bytes) v c) in
      let to = e.ends ∙ ap (λ t. next_one t (v + 1)) (sym d) ∙ sym (start_next (unary bytes) v c) in
      (from, to)

  -- a field
  pub sound_field : (p : ℕ) → p < 2 * m → field 12 (bits bytes) (28 + (n + 2 * m) + 12 * p) ≡ get_or (fields bytes) p 0
  sound_field p h =
      let e = s.is_m in
      ap (λ (k : ℕ). field 12 (bits bytes) (28 + k + 12 * p)) places_are ∙ sym (fields_at bytes p (omega arith))

  -- rule 5, by the ones of the bits after the used ones
  pub spare_counted : (spare : ℕ) → spare ≡ 8 * length bytes - (28 + (n + 2 * m) + 12 * (2 * m))
      → {r : ℕ} → r ≡ rank (string bytes (28 + (n + 2 * m) + 12 * (2 * m)) spare) spare → not (eqb r 0)
      ≡ spare_set bytes
  unfolding spare_set used_bits
  spare_counted spare e {r} er =
      let used : ℕ = 28 + (n + 2 * m) + 12 * (2 * m) in
      let h = s.held in
      let u : used_bits (terminals bytes) (wires bytes) ≡ used = omega (arith, s.is_n, s.is_m) in
      let a : rank (string bytes used spare) spare ≡ count (take spare (drop used (bits bytes))) =
      rank_inside bytes used spare spare (le-leb (used + spare) (8 * length bytes) (omega arith)) (omega arith) in
      let b : take spare (drop used (bits bytes)) ≡ drop used (bits bytes) =
      take_all spare (drop used (bits bytes)) (simp length-drop (omega (arith, length_bits bytes))) in
      rw (er, a, b, u)
