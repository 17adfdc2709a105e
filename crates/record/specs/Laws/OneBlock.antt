-- Degree and Neighbours of one terminal by two starts, where order R lets the record pass; and where a part stands.
--   outside         a number that is no terminal's breaks rule 11
--   places_rise     the places of D between a block's one and the next
--   degree_spanned  Degree, by these places
--   part_spanned    where the terminal's part of a list stands, by these places
--   part_outside    no part, for a number that is no terminal's
--   part_misfit     none of a list of another length
--   part_refused    none where Degree refuses
--   degree_unread   Degree refuses where order R does
--   part_unread     and so there is no part
--   part_fits       a part ends within its list
--   part_listed     and is what Neighbours returns
--   part_near       it ends within the longest list
--   part_settles    no other numbers would do
use Rattle.std.specs.Prelude.{◌≡◌, Bool, true, false, not, ◌&&◌, eqb, drop, replicate}
use Rattle.std.proofs.Math.Path.{refl, sym, ap, ap₂}
use Rattle.std.proofs.Common.{subst, ◌∙◌, arith, length-take, length-drop}
use mathlib.Core.List.{List, [], ◌∷◌}
use Prim.Native.Nat.{ℕ, suc, ◌+◌, ◌-◌, ◌*◌, ◌≤◌, ◌<◌}
use borrow.Author.Tests.{eq-eqb, ne_eqb, eqb-true, not-true, not-false}
use Rattle.std.proofs.Math.ListN.{length, take, get_or}
use Rattle.std.proofs.lemmas.List.{length-replicate}
use Rattle.graph.specs.Graph.{block}
use Rattle.graph.specs.Laws.Places.Basics.{Told, pass, fail, told, and_parts}
use Rattle.record.specs.Record.{terminals, wires, unary, blocks}
use Rattle.record.specs.Rules.{first_broken, order_r}
use Rattle.record.specs.Starts.{starts_of}
use Rattle.record.specs.Answers.{refused, answered, tried}
use Rattle.record.specs.Sized.{sizes_of}
use Rattle.record.specs.Operations.{other_length, out_of_range, degree_rules, degree, neighbours_given, neighbours}
use Rattle.record.specs.Operations.{neighbours_before, PartOf}
use Rattle.record.specs.Steps.{Sound}
use Rattle.record.specs.Laws.First.{first_broken_lem, first_kept, append_kept, order_numbered}
use Rattle.record.specs.Laws.First.{both_kept, rule_kept}
use Rattle.record.specs.Laws.Range.{range_inside}
use Rattle.record.specs.Laws.Parts.{starts_rise, starts_fit, part_block}
use Rattle.record.specs.Laws.Layout.{degree_starts}
use Rattle.record.specs.Laws.Told.{told_back, told_append, untold}
use Rattle.record.specs.Laws.Sounded.{sound_of, sound_shaped, sound_ones, sound_places}

-- Neighbours gives numbers of the list that stand side by side, none after the 32,768th
record Lies (bytes list : List ℕ) (v : ℕ) : Type 0 where
  pub near : neighbours_before bytes list v + length (neighbours bytes list v) ≤ 32768
  pub fits : neighbours_before bytes list v + length (neighbours bytes list v) ≤ length list
  pub is : take (length (neighbours bytes list v)) (drop (neighbours_before bytes list v) list) ≡ neighbours bytes list v

-- a refusal is the empty part, at the front
ungiven : (bytes list : List ℕ) (v : ℕ) → neighbours_given bytes list v ≡ false
    → (neighbours_before bytes list v ≡ 0) × (neighbours bytes list v ≡ [])
unfolding neighbours neighbours_before
ungiven bytes list v e = rw (e, neighbours, neighbours_before) (refl, refl)

part_none : (bytes : List ℕ) (v : ℕ) {len : ℕ}
    → ((list : List ℕ) → length list ≡ len → neighbours_given bytes list v ≡ false)
    → PartOf bytes len v 0 0
part_none bytes v none = record {
  begins = λ list l. sym (ungiven bytes list v (none list l)).0;
  counts = λ list l. sym (ap length (ungiven bytes list v (none list l)).1);
}

module _ {bytes : List ℕ} {n m : ℕ} (s : Sound bytes n m) where
  -- ---- rule 11

  after_order : (v : ℕ) → first_broken (degree_rules bytes v) ≡ first_broken ((11, out_of_range n v) ∷ [])
  unfolding degree_rules
  after_order v =
      append_kept (order_numbered bytes) ((11, out_of_range (terminals bytes) v) ∷ []) s.kept
      ∙ ap (λ (k : ℕ). first_broken ((11, out_of_range k v) ∷ [])) (sym s.is_n)

  pub outside : (v : ℕ) → out_of_range n v ≡ true → first_broken (degree_rules bytes v) ≡ 11
  outside v e = after_order v ∙ first_broken_lem 11 [] e

  inside : (v : ℕ) → out_of_range n v ≡ false → first_broken (degree_rules bytes v) ≡ 0
  unfolding first_broken
  inside v e = after_order v ∙ first_kept 11 [] e

  -- ---- the block

  module _ (v : ℕ) {a b : ℕ} (i : out_of_range n v ≡ false) (ea : a ≡ get_or (starts_of (unary bytes)) (v - 1) 0)
      (eb : b ≡ get_or (starts_of (unary bytes)) v 0) where
    some : 0 < v
    some = (range_inside n v i).0

    upto : v ≤ n
    upto = (range_inside n v i).1

    next : v - 1 + 1 ≡ v
    next = omega (arith, some)

    rising : get_or (starts_of (unary bytes)) (v - 1) 0 ≤ get_or (starts_of (unary bytes)) v 0
    rising = rw next at (starts_rise 0 (unary bytes) (v - 1) (omega (arith, sound_ones s, some, upto)))

    block_rises : a ≤ b
    block_rises = rw (ea, eb) rising

    block_ends : b ≤ 2 * m
    block_ends =
        let c = sound_ones s in
        let l = sound_places s in
        let f = starts_fit 0 (unary bytes) v (omega (arith, upto)) in
        omega arith

    degree_is : answered (b - a) ≡ degree bytes v
    unfolding degree
    degree_is =
        let f = s.is_n in
        let d : length (block (blocks bytes) (v - 1)) ≡ b - a =
        degree_starts (sound_shaped s) (v - 1) (omega (arith, some, upto))
        ∙ ap₂ ◌-◌ (ap (λ (k : ℕ). get_or (starts_of (unary bytes)) k 0) next ∙ sym eb) (sym ea) in
        rw d (untold (b - a) (inside v i))

    module _ (list : List ℕ) (long : length list ≡ 2 * m) where
      given : neighbours_given bytes list v ≡ true
      unfolding neighbours_given other_length
      given =
          let f = s.is_m in
          let kept = eq-eqb (first_broken (degree_rules bytes v)) 0 (inside v i) in
          rw (kept, eq-eqb (length list) (2 * wires bytes) (omega arith))

      part_is : take (b - a) (drop a list) ≡ neighbours bytes list v
      unfolding neighbours
      part_is =
          let c = sound_ones s in
          rw (given, neighbours)
          (sym (part_block (unary bytes) (sound_shaped s).begins list (v - 1) (omega (arith, some, upto))
          ∙ ap₂ (λ (x y : ℕ). take (x - y) (drop y list))
          (ap (λ (k : ℕ). get_or (starts_of (unary bytes)) k 0) next ∙ sym eb) (sym ea)))

      part_begins : a ≡ neighbours_before bytes list v
      unfolding neighbours_before
      part_begins = rw (given, neighbours_before) ea

      part_counts : b - a ≡ length (neighbours bytes list v)
      part_counts =
          let l = length-take (b - a) (drop a list) in
          let d = length-drop a list in
          let e = ap length part_is in
          omega (arith, block_rises, block_ends, long)

      part_lies : Lies bytes list v
      part_lies = record {
        near = let f = s.m_fits in omega (arith, part_begins, part_counts, block_rises, block_ends);
        fits = omega (arith, part_begins, part_counts, block_rises, block_ends, long);
        is = ap₂ (λ (x y : ℕ). take x (drop y list)) (sym part_counts) (sym part_begins) ∙ part_is;
      }

    part_given : {len : ℕ} → len ≡ 2 * m → PartOf bytes len v a (b - a)
    part_given e = record { begins = λ list l. part_begins list (l ∙ e); counts = λ list l. part_counts list (l ∙ e) }

  -- the same by the places of D between its one and the next
  module _ (v : ℕ) {from to : ℕ} (i : out_of_range n v ≡ false)
      (ef : from ≡ get_or (starts_of (unary bytes)) (v - 1) 0 + (v - 1 + 1))
      (et : to ≡ get_or (starts_of (unary bytes)) (v - 1 + 1) 0 + (v - 1 + 1)) where
    first : from - v ≡ get_or (starts_of (unary bytes)) (v - 1) 0
    first = let z = (range_inside n v i).0 in omega arith

    last : to - v ≡ get_or (starts_of (unary bytes)) v 0
    last =
        let z = (range_inside n v i).0 in
        let e : v - 1 + 1 ≡ v = omega arith in
        let f = ap (λ (k : ℕ). get_or (starts_of (unary bytes)) k 0) e in
        omega arith

    pub places_rise : (v ≤ from) × (from ≤ to)
    places_rise =
        let z = (range_inside n v i).0 in
        let r = block_rises v i first last in
        omega arith

    size : to - v - (from - v) ≡ to - from
    size = let (f, r) = places_rise in omega arith

    pub degree_spanned : answered (to - from) ≡ degree bytes v
    degree_spanned = ap answered (sym size) ∙ degree_is v i first last

    pub part_spanned : {len : ℕ} → len ≡ 2 * m → PartOf bytes len v (from - v) (to - from)
    part_spanned {len} e = rw size at (part_given v i first last e)

  -- ---- no part

  module _ (v : ℕ) where
    pub part_outside : {len : ℕ} → first_broken (degree_rules bytes v) ≡ 11 → PartOf bytes len v 0 0
    unfolding neighbours_given
    part_outside e = part_none bytes v (λ list l. rw e)

    pub part_misfit : {len : ℕ} → (len ≡ 2 * m → ⊥) → PartOf bytes len v 0 0
    unfolding neighbours_given other_length
    part_misfit d = part_none bytes v (λ list l. (
        let f = s.is_m in
        rw (ne_eqb (length list) (2 * wires bytes) (λ e. d (omega arith)))
        (go (eqb (first_broken (degree_rules bytes v)) 0))
        ))
      where
        go : (b : Bool) → (b && false) ≡ false
        go true = refl
        go false = refl

module _ (bytes : List ℕ) (v : ℕ) where
  -- Degree refuses
  pub part_refused : {len k : ℕ} → refused k ≡ degree bytes v → PartOf bytes len v 0 0
  unfolding degree neighbours_given
  part_refused e = part_none bytes v (λ list l. (
      let (i, f, g) = told_back (first_broken (degree_rules bytes v)) _ e in
      rw (f, ne_eqb (suc i) 0 (λ z. omega arith))
      ))

  -- order R does
  pub degree_unread : {k : ℕ} → refused k ≡ tried (order_r bytes) (sizes_of bytes) → refused k ≡ degree bytes v
  unfolding degree degree_rules
  degree_unread e = told_append (order_r bytes) _ (sizes_of bytes) (length (block (blocks bytes) (v - 1))) e

  pub part_unread : {len k : ℕ} → refused k ≡ tried (order_r bytes) (sizes_of bytes) → PartOf bytes len v 0 0
  part_unread e = part_refused (degree_unread e)

-- ---- the part of a list

module _ (bytes list : List ℕ) (v : ℕ) where
  given_lies : neighbours_given bytes list v ≡ true → Lies bytes list v
  unfolding neighbours_given other_length degree_rules
  given_lies e =
      let (d, l) =
      and_parts (eqb (first_broken (degree_rules bytes v)) 0) (not (other_length list (2 * wires bytes))) e in
      let (r, more) = both_kept (order_numbered bytes) _ (eqb-true _ _ d) in
      let (i, _) = rule_kept 10 (out_of_range (terminals bytes) v) [] more in
      part_lies (sound_of bytes r refl refl) v i refl refl list (eqb-true _ _ (not-false _ (not-true _ l)))

  ungiven_lies : neighbours_given bytes list v ≡ false → Lies bytes list v
  ungiven_lies e =
      let (f, n) = ungiven bytes list v e in
      record { near = rw (f, n) (omega arith); fits = rw (f, n) (omega arith); is = rw (f, n) }

  lies : Told (neighbours_given bytes list v) → Lies bytes list v
  lies (pass e) = given_lies e
  lies (fail e) = ungiven_lies e

  -- what Neighbours returns, by what is known of v's part
  module _ {from size : ℕ} (p : PartOf bytes (length list) v from size) where
    pub part_fits : from + size ≤ length list
    part_fits = rw (p.begins list refl, p.counts list refl) (lies (told (neighbours_given bytes list v))).fits

    pub part_listed : take (from + size - from) (drop from list) ≡ neighbours bytes list v
    part_listed =
        let e : from + size - from ≡ size = omega arith in
        rw (e, p.begins list refl, p.counts list refl) (lies (told (neighbours_given bytes list v))).is

    near : from + size ≤ 32768
    near = rw (p.begins list refl, p.counts list refl) (lies (told (neighbours_given bytes list v))).near

-- ---- the part, for no list at hand

module _ {bytes : List ℕ} {len v from size : ℕ} (p : PartOf bytes len v from size) where
  -- it ends within the longest list
  pub part_near : from + size ≤ 32768
  part_near =
      near bytes (replicate len 0) v (subst (λ (k : ℕ). PartOf bytes k v from size) (sym (length-replicate len 0)) p)

  -- no other numbers would do
  pub part_settles : {from' size' : ℕ} → PartOf bytes len v from' size' → (from ≡ from') × (size ≡ size')
  part_settles q =
      let l = length-replicate {A = ℕ} len 0 in (
        p.begins (replicate len 0) l ∙ sym (q.begins (replicate len 0) l),
        p.counts (replicate len 0) l ∙ sym (q.counts (replicate len 0) l),
      )
