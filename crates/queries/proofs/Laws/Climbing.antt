-- Climbs: what one step says of the next vertex, and a climb from its begin to its end.
use mathlib.Core.Path.{◌≡◌, refl, sym, ap, ap₂, subst, ◌∙◌}
use mathlib.Core.Logic.{◌⊎◌, inl, inr}
use mathlib.Core.Bool.{Bool, true, false}
use mathlib.Core.List.{List}
use mathlib.Core.Option.{none, some}
use Prim.Native.Nat.{ℕ, zero, suc, ◌+◌, ◌-◌, ◌*◌, ◌≤◌, ◌<◌}
use native.Mathlib.Decide.{ℕ_discrete}
use native.Mathlib.Omega.{arith}
use borrow.Author.Tests.{eq-eqb, ne_eqb}
use lib.Dec.{ltb}
use lib.ListN.{length, get_or}
use Rattle.std.specs.Prelude.{Result, Ok}
use Rattle.std.specs.Prelude as code
use Rattle.bits.specs.Bits.{count, select}
use Rattle.bits.specs.Laws.Select.{select_bounds}
use Rattle.graph.specs.Graph.{Blocks, target}
use Rattle.graph.specs.Laws.Places.Basics.{Told, pass, fail, told}
use Rattle.graph.specs.Walk.{walk}
use Rattle.graph.specs.Laws.Heads.Walks.{walk_stop, walk_up, walk_late}
use Rattle.record.specs.Record.{unary, blocks}
use Rattle.record.specs.Starts.{starts_of}
use Rattle.record.specs.Answers.{refused, answered}
use Rattle.record.specs.Steps.{Sound}
use Rattle.record.specs.declared.Refusal.{Refusal}
use Rattle.record.specs.Laws.Layout.{starts_count}
use Rattle.record.specs.Laws.Sounded.{sound_shaped, sound_vertices}
use Rattle.queries.specs.View.{View, view_by, block_marks, section_of}
use Rattle.queries.specs.Queries.{Step, stuck, top, rise, step_by, step_up}
use Rattle.queries.specs.Queries.{head_by, head_next, head_of, ancestor_by, ancestor_next, ancestor_of}
use Rattle.queries.specs.Steps.{Beside, risen, step_of}
use Rattle.queries.specs.declared.climbs.Rise.{Rise}
use Rattle.queries.specs.declared.indexed.Indexed.{Indexed}
use Rattle.queries.specs.Laws.Inside.{Inside, step_inside}
use Rattle.queries.proofs.Laws.Ones.{part_length, part_bit}
use Rattle.queries.specs.Laws.Framed.{length_p, length_b}
use Rattle.queries.proofs.Laws.Stepping.{block_bounds, block_marks_lem}

-- what the type tells
pub beside : (i : Indexed) → Beside i.layout.bytes.now i.index.now i.layout.n i.layout.m
beside i = record { sound = i.layout.sound; framed = i.framed }

-- the two sides of a choice
sides_apart : {A B : Type 0} {a : A} {b : B} → inr b ≡ inl a → ⊥
sides_apart e = let z : ◌≡◌ {A = ℕ} 0 1 = cc in omega arith

same_side : {A B : Type 0} {a b : B} → ◌≡◌ {A = A ⊎ B} (inr a) (inr b) → a ≡ b
same_side e = cc

-- ---- what a step up tells

pub refused_told : (s : Step) {k : ℕ} → refused k ≡ risen s → (k ≡ 12) × (stuck ≡ s)
refused_told stuck e = (cc, refl)
refused_told top e = absurd (let z : ◌≡◌ {A = ℕ} 0 1 = cc in omega arith)
refused_told (rise j p) e = absurd (let z : ◌≡◌ {A = ℕ} 0 1 = cc in omega arith)

pub top_told : (s : Step) → answered none ≡ risen s → top ≡ s
top_told stuck e = absurd (let z : ◌≡◌ {A = ℕ} 0 1 = cc in omega arith)
top_told top e = refl
top_told (rise j p) e = absurd (let z : ◌≡◌ {A = ℕ} 0 1 = cc in omega arith)

pub rise_told : (s : Step) {j p : ℕ} → answered (some (j, p)) ≡ risen s → rise j p ≡ s
rise_told stuck e = absurd (let z : ◌≡◌ {A = ℕ} 0 1 = cc in omega arith)
rise_told top e = absurd (let z : ◌≡◌ {A = ℕ} 0 1 = cc in omega arith)
rise_told (rise i q) {j} {p} e =
    let z : ◌≡◌ {A = ℕ × ℕ} (j, p) (i, q) = cc in
    ap₂ rise (ap (λ (x : ℕ × ℕ). x.0) z) (ap (λ (x : ℕ × ℕ). x.1) z)

-- the same, of the code's results
module _ {r : Result (code.Option Rise) Refusal} {o : code.Option Rise} {s : Step} (e : r ≡ Ok o)
    (t : step_of r ≡ risen s) where
  pub top_read : o ≡ code.None → top ≡ s
  top_read f = top_told s (sym (ap step_of (e ∙ ap Ok f)) ∙ t)

  pub rise_read : {x : Rise} → o ≡ code.Some x → rise x.at x.to ≡ s
  rise_read f = rise_told s (sym (ap step_of (e ∙ ap Ok f)) ∙ t)

-- ---- a climb

-- what so many steps that are left say
abbrev pub climb : {A : Type 0} → (ℕ → A ⊎ ℕ) → A → ℕ → ℕ → A
climb next late zero u = late
climb next late (suc k) u = walk next late k u

module _ {A : Type 0} (next : ℕ → A ⊎ ℕ) (late : A) {final : A} where
  climb_begin : (n u : ℕ) → 0 < n → walk next late (n - 1) u ≡ final → climb next late (n - 0) u ≡ final
  climb_begin zero u h w = absurd (omega arith)
  climb_begin (suc k) u h w =
      let y : suc k - 0 ≡ suc k = omega arith in
      let z : k ≡ suc k - 1 = omega arith in
      ap (λ (x : ℕ). climb next late x u) y ∙ ap (λ (x : ℕ). walk next late x u) z ∙ w

  stop : (left u : ℕ) {a : A} → 0 < left → inl a ≡ next u → climb next late left u ≡ final → a ≡ final
  stop zero u h e w = absurd (omega arith)
  stop (suc k) u h e w = sym (walk_stop next late k (sym e)) ∙ w

  on : (left u : ℕ) {p : ℕ} → 0 < left → inr p ≡ next u → climb next late left u ≡ final
      → climb next late (left - 1) p ≡ final
  on zero u h e w = absurd (omega arith)
  on (suc zero) u h e w = sym (walk_late next late (sym e)) ∙ w
  on (suc (suc k)) u {p} h e w =
      let z : suc (suc k) - 1 ≡ suc k = omega arith in
      ap (λ (x : ℕ). climb next late x p) z ∙ sym (walk_up next late k (sym e)) ∙ w

  late_at : (left u : ℕ) → left ≤ 0 → climb next late left u ≡ final → late ≡ final
  late_at zero u h w = w
  late_at (suc k) u h w = absurd (omega arith)

  -- after i of n steps
  module _ (n i u : ℕ) (w : climb next late (n - i) u ≡ final) where
    pub climb_stop : {a : A} → i < n → inl a ≡ next u → a ≡ final
    climb_stop h e = stop (n - i) u (omega arith) e w

    pub climb_on : {p : ℕ} → i < n → inr p ≡ next u → climb next late (n - (i + 1)) p ≡ final
    climb_on {p} h e =
        let z : n - (i + 1) ≡ n - i - 1 = omega arith in
        ap (λ (x : ℕ). climb next late x p) z ∙ on (n - i) u (omega arith) e w

    pub climb_late : n ≤ i → late ≡ final
    climb_late h = late_at (n - i) u (omega arith) w

-- ---- where a step leads

-- by which position
tag : Step → ℕ
tag stuck = 0
tag top = 1
tag (rise j p) = 2

one_risen : (g : Blocks) (u i : ℕ) {j p : ℕ} → Told (ltb (target g u i) (length g)) → rise j p ≡ step_by g u 1 i → j ≡ i
unfolding step_by tag
one_risen g u i {j} {p} (pass e) h = let f : rise j p ≡ rise i (target g u i) = h ∙ rw (step_by, e) in cc
one_risen g u i {j} {p} (fail e) h =
    let f : rise j p ≡ stuck = h ∙ rw (step_by, e) in
    let z = ap tag f in
    absurd (omega arith)

risen_by : (g : Blocks) (u c i : ℕ) {j p : ℕ} → rise j p ≡ step_by g u c i → (c ≡ 1) × (j ≡ i)
unfolding step_by tag
risen_by g u zero i h = let z = ap tag h in absurd (omega arith)
risen_by g u (suc zero) i h = (refl, one_risen g u i (told (ltb (target g u i) (length g))) h)
risen_by g u (suc (suc c)) i h = let z = ap tag h in absurd (omega arith)

module _ {bytes : List ℕ} {n m u a b : ℕ} (o : Sound bytes n m) (h : u < n)
    (ea : a ≡ get_or (starts_of (unary bytes)) u 0) (eb : b ≡ get_or (starts_of (unary bytes)) (u + 1) 0)
    (s : List Bool) (l : length s ≡ n + 2 * m)
    {j p : ℕ} (e : rise j p ≡ step_up (blocks bytes) (block_marks bytes s) u) where
  rise_at : j < b - a
  unfolding step_up
  rise_at =
      let x : List Bool = block_marks bytes s u in
      let (c, i) = risen_by (blocks bytes) u (count x) (select x 1 - 1) e in
      let (q, r) = block_bounds o h ea eb in
      let d : length x ≡ b - a =
      ap length (block_marks_lem o h ea eb s) ∙ part_length s (a + u + 1) (b - a) (omega arith) in
      let (y, z) = select_bounds x 1 (omega arith) (omega arith) in
      omega arith

  pub rise_to : p < n
  unfolding step_up
  rise_to =
      let x = block_marks bytes s u in
      let i : Inside (blocks bytes) (rise j p) =
      subst (Inside (blocks bytes)) (sym e) (step_inside (blocks bytes) u (count x) (select x 1 - 1)) in
      let k = sound_vertices o in
      omega arith

  -- the bit of another section at that position
  rise_bit : (t : List Bool) → length t ≡ n + 2 * m
      → get_or t (a + u + 1 + j) false ≡ get_or (block_marks bytes t u) j false
  rise_bit t k =
      let (q, r) = block_bounds o h ea eb in
      sym (ap (λ (x : List Bool). get_or x j false) (block_marks_lem o h ea eb t)
      ∙ part_bit t (a + u + 1) (b - a) (omega arith) j rise_at)

-- ---- Head

module _ (w : View) (u : ℕ) where
  head_here : (j p : ℕ) → get_or (w.marks_b u) j false ≡ true → inl (answered (suc u)) ≡ head_by w u (rise j p)
  head_here j p e = rw (e, head_by)

  head_up : (j p : ℕ) → get_or (w.marks_b u) j false ≡ false → inr p ≡ head_by w u (rise j p)
  head_up j p e = rw (e, head_by)

  by_head : (s : Step) → Inside w.graph s → {p : ℕ} → inr p ≡ head_by w u s → p < length w.graph
  by_head stuck i e = absurd (sides_apart e)
  by_head top i e = absurd (sides_apart e)
  by_head (rise j q) i e = go (told (get_or (w.marks_b u) j false)) e
    where
      go : Told (get_or (w.marks_b u) j false) → {p : ℕ} → inr p ≡ head_by w u (rise j q) → p < length w.graph
      go (pass f) h = absurd (sides_apart (h ∙ sym (head_here j q f)))
      go (fail f) {p} h = let z : p ≡ q = same_side (h ∙ sym (head_up j q f)) in rw z i

  pub head_inside : {p : ℕ} → inr p ≡ head_next w u → p < length w.graph
  unfolding step_up
  head_inside e =
      let i = step_inside w.graph u (count (w.marks_p u)) (select (w.marks_p u) 1 - 1) in
      by_head (step_up w.graph w.marks_p u) i e

-- from the numbers that the code reads
module _ {bytes index starts : List ℕ} {n m u a b : ℕ} (o : Beside bytes index n m)
    (es : starts ≡ starts_of (unary bytes)) (h : u < n) (ga : a ≡ get_or starts u 0) (gb : b ≡ get_or starts (u + 1) 0) where
  pub block_from : a ≡ get_or (starts_of (unary bytes)) u 0
  block_from = ga ∙ ap (λ (l : List ℕ). get_or l u 0) es

  pub block_to : b ≡ get_or (starts_of (unary bytes)) (u + 1) 0
  block_to = gb ∙ ap (λ (l : List ℕ). get_or l (u + 1) 0) es

  module _ {j p : ℕ} (e : rise j p ≡ step_up (blocks bytes) (block_marks bytes (section_of n m index 1)) u) where
    pub rise_room : a + u + 1 + j < n + 2 * m
    rise_room =
        let (q, r) = block_bounds o.sound h block_from block_to in
        let l = rise_at o.sound h block_from block_to (section_of n m index 1) (length_p o.framed) e in
        omega arith

    module _ {on : Bool} (is : on ≡ get_or (section_of n m index 2) (a + u + 1 + j) false) where
      the_bit : on ≡ get_or (block_marks bytes (section_of n m index 2) u) j false
      the_bit =
          is ∙ rise_bit o.sound h block_from block_to (section_of n m index 1) (length_p o.framed) e
          (section_of n m index 2) (length_b o.framed)

      pub head_stops : on ≡ true → inl (answered (suc u)) ≡ head_next (view_by n m bytes index) u
      head_stops t =
          let w = view_by n m bytes index in
          head_here w u j p (sym the_bit ∙ t) ∙ ap (head_by w u) e

      pub head_rises : on ≡ false → inr p ≡ head_next (view_by n m bytes index) u
      head_rises t =
          let w = view_by n m bytes index in
          head_up w u j p (sym the_bit ∙ t) ∙ ap (head_by w u) e

-- ---- Ancestor

module _ (w : View) (x u : ℕ) where
  pub ancestor_yes : x ≡ u → inl (answered true) ≡ ancestor_next w x u
  ancestor_yes e = rw (eq-eqb x u e, ancestor_next)

  pub ancestor_step : (x ≡ u → ⊥) → ancestor_by (step_up w.graph w.marks_p u) ≡ ancestor_next w x u
  ancestor_step d = rw (ne_eqb x u d, ancestor_next)

  by_ancestor : (s : Step) → Inside w.graph s → {p : ℕ} → inr p ≡ ancestor_by s → p < length w.graph
  by_ancestor stuck i e = absurd (sides_apart e)
  by_ancestor top i e = absurd (sides_apart e)
  by_ancestor (rise j q) i {p} e = let z : p ≡ q = same_side e in rw z i

  pub ancestor_inside : {p : ℕ} → inr p ≡ ancestor_next w x u → p < length w.graph
  unfolding step_up
  ancestor_inside {p} e = go (ℕ_discrete x u)
    where
      go : Dec (x ≡ u) → p < length w.graph
      go (yes q) = absurd (sides_apart (e ∙ sym (ancestor_yes q)))
      go (no d) =
          let i = step_inside w.graph u (count (w.marks_p u)) (select (w.marks_p u) 1 - 1) in
          by_ancestor (step_up w.graph w.marks_p u) i (e ∙ sym (ancestor_step d))

-- ---- the begin of a climb, for a record that passed order R

module _ {bytes : List ℕ} {n m : ℕ} (o : Sound bytes n m) where
  -- a start is read
  pub starts_long : {starts : List ℕ} → starts ≡ starts_of (unary bytes) → length starts ≡ n + 1
  starts_long e = ap length e ∙ starts_count (sound_shaped o) ∙ ap (λ (x : ℕ). x + 1) (sym o.is_n)

  module _ (index : List ℕ) (v : ℕ) (h : v < n) where
    pub head_begin : climb (head_next (view_by n m bytes index)) (refused 12) (n - 0) v
        ≡ head_of (view_by n m bytes index) v
    unfolding head_of
    head_begin =
        let next = head_next (view_by n m bytes index) in
        climb_begin next (refused 12) n v (omega arith)
        (ap (λ (k : ℕ). walk next (refused 12) (k - 1) v) (sym (sound_vertices o)))

    pub ancestor_begin : (x : ℕ)
        → climb (ancestor_next (view_by n m bytes index) x) (refused 12) (n - 0) v
        ≡ ancestor_of (view_by n m bytes index) x v
    unfolding ancestor_of
    ancestor_begin x =
        let next = ancestor_next (view_by n m bytes index) x in
        climb_begin next (refused 12) n v (omega arith)
        (ap (λ (k : ℕ). walk next (refused 12) (k - 1) v) (sym (sound_vertices o)))
