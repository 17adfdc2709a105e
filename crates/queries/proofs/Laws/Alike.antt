-- Two indexes that agree where the queries look show the same view, so every query has the same answer on both.
use Rattle.std.specs.Prelude.{◌≡◌, refl, Bool, false, ℕ, zero, suc, ◌+◌, ◌-◌, ◌*◌, ◌<◌, take, drop}
use Rattle.std.proofs.Math.Path.{sym, ap, ap₂, fun_ext}
use Rattle.std.proofs.Common.{◌∙◌, arith, length-take, length-drop, ext_get_or, get_or-take, get_or-drop}
use mathlib.Core.List.{List, [], ◌∷◌, ◌++◌}
use Rattle.std.proofs.Math.Decide.{dec_lt}
use Rattle.std.proofs.Math.ListN.{length, get_or, get_or-eq_default}
use Rattle.bits.specs.Bits.{bits, value, field, select}
use Rattle.bits.specs.Laws.Bytes.{length_bits}
use Rattle.graph.specs.Graph.{block}
use Rattle.record.specs.Record.{terminals, wires, unary, fields_from, blocks}
use Rattle.record.specs.Rules.{Rule}
use Rattle.record.specs.Answers.{answered, tried, tried_then, buffer_after}
use Rattle.record.specs.Operations.{other_length, out_of_range}
use Rattle.forest.specs.Index.{mark_bytes}
use Rattle.queries.specs.View.{View, block_marks, section_of, number_of, view_of, place_of, Alike}
use Rattle.queries.specs.Queries.{parent_of, head_of, ancestor_of, child_count, child_of, visit_of, visited_of}
use Rattle.queries.specs.Queries.{past_count}
use Rattle.queries.specs.Operations.{beside_rules, order_q, parent, head, ancestor_rules, ancestor, children}
use Rattle.queries.specs.Operations.{no_child, child_rules, child, visit, visited}
use Rattle.queries.specs.Lookup.{Lists, head_and_visit, lookup_rules, lookup, lookup_lists, looked_up}
use Rattle.queries.specs.Written.{SameAnswers}
use Rattle.queries.specs.Laws.Framed.{section_length, section_bit_lem}

-- ---- parts of bits

-- parts of two lists that agree there
part_same : (w start : ℕ) (s t : List Bool) → length s ≡ length t
    → ((i : ℕ) → i < w → get_or s (start + i) false ≡ get_or t (start + i) false)
    → take w (drop start s) ≡ take w (drop start t)
part_same w start s t e h = ext_get_or false (take w (drop start s)) (take w (drop start t)) long each
  where
    long : length (take w (drop start s)) ≡ length (take w (drop start t))
    long = simp (length-take, length-drop) (rw e)

    each : (i : ℕ) → i < length (take w (drop start s))
        → get_or (take w (drop start s)) i false ≡ get_or (take w (drop start t)) i false
    each i l =
        let k = length-take w (drop start s) in
        let j : i < w = omega arith in
        get_or-take w (drop start s) i false j
        ∙ get_or-drop start s i false
        ∙ h i j
        ∙ sym (get_or-take w (drop start t) i false j ∙ get_or-drop start t i false)

-- fields of two lists that agree there
fields_same : (k start : ℕ) (s t : List Bool) → length s ≡ length t
    → ((i : ℕ) → i < 12 * k → get_or s (start + i) false ≡ get_or t (start + i) false)
    → fields_from s start k ≡ fields_from t start k
unfolding fields_from field
fields_same zero start s t e h = refl
fields_same (suc k) start s t e h =
    ap₂ (λ (x : ℕ) (xs : List ℕ). x ∷ xs)
    (ap value (part_same 12 start s t e (λ i l. h i (omega arith))))
    (fields_same k (start + 12) s t e rest)
  where
    rest : (i : ℕ) → i < 12 * k → get_or s (start + 12 + i) false ≡ get_or t (start + 12 + i) false
    rest i l =
        let z : start + (12 + i) ≡ start + 12 + i = omega arith in
        rw z at (h (12 + i) (omega arith))

-- ---- the view

module _ {bytes a b : List ℕ} (s : Alike bytes a b) where
  abbrev n : ℕ
  n = terminals bytes

  abbrev m : ℕ
  m = wires bytes

  same_length : length a ≡ length b
  same_length = s.first_length ∙ sym s.second_length

  marks_same : (k : ℕ) → k < 3 → block_marks bytes (section_of n m a k) ≡ block_marks bytes (section_of n m b k)
  unfolding block_marks
  marks_same k h =
      fun_ext (λ u.
      part_same (length (block (blocks bytes) u)) (select (unary bytes) (suc u)) (section_of n m a k) (section_of n m b k)
      long (each u))
    where
      long_a : length (section_of n m a k) ≡ n + 2 * m
      long_a = section_length a n m s.first_length k h

      long_b : length (section_of n m b k) ≡ n + 2 * m
      long_b = section_length b n m s.second_length k h

      long : length (section_of n m a k) ≡ length (section_of n m b k)
      long = long_a ∙ sym long_b

      each : (u i : ℕ) → i < length (block (blocks bytes) u)
          → get_or (section_of n m a k) (place_of bytes u i) false
          ≡ get_or (section_of n m b k) (place_of bytes u i) false
      each u i l = go (dec_lt (place_of bytes u i) (n + 2 * m))
        where
          go : Dec (place_of bytes u i < n + 2 * m)
              → get_or (section_of n m a k) (place_of bytes u i) false
              ≡ get_or (section_of n m b k) (place_of bytes u i) false
          go (yes p) =
              section_bit_lem a n m s.first_length k (place_of bytes u i) h p
              ∙ s.same_marks k u i h l
              ∙ sym (section_bit_lem b n m s.second_length k (place_of bytes u i) h p)
          go (no p) =
              get_or-eq_default (section_of n m a k) false {n = place_of bytes u i} (omega (arith, long_a))
              ∙ sym (get_or-eq_default (section_of n m b k) false {n = place_of bytes u i} (omega (arith, long_b)))

  numbers_same : number_of n m a ≡ number_of n m b
  unfolding number_of
  numbers_same =
      let l : length (bits a) ≡ length (bits b) =
      length_bits a ∙ ap (λ (x : ℕ). 8 * x) same_length ∙ sym (length_bits b) in
      let f = fields_same n (8 * (3 * mark_bytes n m)) (bits a) (bits b) l s.same_numbers in
      fun_ext (λ u. ap (λ (t : List ℕ). get_or t u 0) f)

  pub alike_view : view_of bytes a ≡ view_of bytes b
  alike_view =
      let e = marks_same 0 (omega arith) in
      let p = marks_same 1 (omega arith) in
      let f = marks_same 2 (omega arith) in
      let x = numbers_same in
      λ i. record { graph = blocks bytes; marks_e = e i; marks_p = p i; marks_b = f i; stored = x i }

  alike_beside : beside_rules bytes a ≡ beside_rules bytes b
  unfolding beside_rules other_length
  alike_beside = rw same_length

  alike_order : (k : ℕ) → order_q bytes a k ≡ order_q bytes b k
  unfolding order_q
  alike_order k = rw alike_beside

  -- so whatever is asked of order Q and the view has one answer
  asked_alike : {A : Type 0} (k : ℕ) (question : List Rule → View → A)
      → question (order_q bytes a k) (view_of bytes a) ≡ question (order_q bytes b k) (view_of bytes b)
  asked_alike k question = ap₂ question (alike_order k) alike_view

  -- Lookup, by its single calls
  alike_head : head bytes a ≡ head bytes b
  unfolding head
  alike_head = fun_ext (λ v. asked_alike v (λ q w. tried_then q (head_of w (v - 1))))

  alike_visit : visit bytes a ≡ visit bytes b
  unfolding visit
  alike_visit = fun_ext (λ v. asked_alike v (λ q w. tried_then q (visit_of w (v - 1))))

  alike_rules : (list : List ℕ) (lent : Lists) → lookup_rules bytes a list lent ≡ lookup_rules bytes b list lent
  unfolding lookup_rules head_and_visit
  alike_rules list lent = rw (alike_beside, alike_head, alike_visit)

  alike_lists : (list : List ℕ) → lookup_lists bytes a list ≡ lookup_lists bytes b list
  unfolding lookup_lists
  alike_lists list = rw (alike_head, alike_visit)

  pub alike_answers : SameAnswers bytes a b
  unfolding parent ancestor ancestor_rules children child child_rules no_child visited lookup looked_up
  alike_answers = record {
    same_parent = λ v. asked_alike v (λ q w. tried_then q (parent_of w (v - 1)));
    same_head = λ v. ap (λ f. f v) alike_head;
    same_ancestor =
        λ u v. asked_alike u (λ q w. tried_then (q ++ ((11, out_of_range n v) ∷ [])) (ancestor_of w (u - 1) (v - 1)));
    same_children = λ v. asked_alike v (λ q w. tried_then q (answered (child_count w (v - 1))));
    same_child = λ v j. asked_alike v (λ q w.
        tried_then (q ++ ((13, past_count w (v - 1) j) ∷ [])) (child_of w (v - 1) j));
    same_visit = λ v. ap (λ f. f v) alike_visit;
    same_visited = λ i. asked_alike i (λ q w. tried_then q (visited_of w (i - 1)));
    same_lookup = λ list lent. ap (λ r. tried r tt) (alike_rules list lent);
    same_lists = λ list lent. ap₂ (λ r l. buffer_after r l lent) (alike_rules list lent) (alike_lists list);
  }
