-- Which refusals are given: 7 by no operation, since no rule has that number and a view is refused with 12 alone.
use Rattle.std.specs.Prelude.{◌≡◌, false, ℕ, ◌-◌, eqb}
use Rattle.std.proofs.Math.Path.{refl}
use Rattle.std.proofs.Common.{sym, arith}
use mathlib.Core.List.{List, [], ◌∷◌}
use Rattle.std.proofs.Math.Logic.{inl, inr}
use borrow.Author.Tests.{ne_eqb}
use Rattle.record.specs.Rules.{Rule, order_r, place_rules, layout_rules, check_rules}
use Rattle.record.specs.Answers.{Answer, refused, answered, tried_then}
use Rattle.record.specs.Operations.{check, degree_rules, degree, unpack_rules, unpack}
use Rattle.record.specs.Filing.{file_rules, file}
use Rattle.record.specs.Laws.Given.{has, never_tried, never_then}
use Rattle.forest.specs.Operations.{build_rules, build, loop_figure}
use Rattle.queries.specs.View.{view_of}
use Rattle.queries.specs.Queries.{child_count, child_of}
use Rattle.queries.specs.Operations.{beside_rules, order_q, parent, head, ancestor_rules, ancestor, children}
use Rattle.queries.specs.Operations.{child_rules, child, visit, visited}
use Rattle.queries.specs.Table.{table_rules, table}
use Rattle.queries.specs.Lookup.{head_and_visit, refused_by, asks, lookup_rules, lookup}
use Rattle.queries.specs.Given.{NeverGiven}
use Rattle.queries.specs.Laws.Twelve.{Twelve, value, parent_twelve, head_twelve, ancestor_twelve, vertex_twelve}
use Rattle.queries.specs.Laws.Twelve.{visit_twelve, visited_twelve}
use Rattle.queries.specs.Laws.Looked.{both_refused}

-- ---- the operations

-- rules of other numbers, and then such an answer
not_7 : {A : Type 0} (rules : List Rule) → has 7 rules ≡ false → {a : Answer A} → Twelve a
    → tried_then rules a ≡ refused 7 → ⊥
not_7 rules lacks {a} t = never_then rules lacks a (λ e. (let f = t 7 e in omega arith))

not_7_head : (bytes index : List ℕ) (v : ℕ) → head bytes index v ≡ refused 7 → ⊥
unfolding has beside_rules order_r order_q head
not_7_head bytes index v = not_7 (order_q bytes index v) refl (head_twelve (view_of bytes index) (v - 1))

not_7_visit : (bytes index : List ℕ) (v : ℕ) → visit bytes index v ≡ refused 7 → ⊥
unfolding has beside_rules order_r order_q visit
not_7_visit bytes index v = not_7 (order_q bytes index v) refl (visit_twelve (view_of bytes index) (v - 1))

-- the questions of a list have not that number
module _ (bytes index : List ℕ) where
  asked_7 : (v : ℕ) (a : Answer (ℕ × ℕ)) → a ≡ head_and_visit bytes index v → eqb 7 (refused_by a).0 ≡ false
  unfolding head_and_visit refused_by
  asked_7 v (answered p) e = refl
  asked_7 v (refused k) e = ne_eqb 7 k (λ z. (
      elim (both_refused (head bytes index v) (visit bytes index v) e) [
        | inl f ↦ not_7_head bytes index v (rw z (sym f))
        | inr f ↦ not_7_visit bytes index v (rw z (sym f))
      ]
      ))

  lacks_7 : (list : List ℕ) → has 7 (asks (head_and_visit bytes index) list) ≡ false
  unfolding has
  lacks_7 [] = refl
  lacks_7 (v ∷ list) = rw (asked_7 v (head_and_visit bytes index v) refl, lacks_7 list)

pub never_seven : (bytes : List ℕ) → NeverGiven 7 bytes
unfolding has order_r layout_rules place_rules check_rules degree_rules unpack_rules file_rules build_rules
    beside_rules order_q
    ancestor_rules child_rules table_rules lookup_rules check degree unpack file loop_figure build parent ancestor children
    child visited table lookup child_of
never_seven bytes = record {
  by_check = never_tried (check_rules bytes) refl tt;
  by_degree = λ v. never_tried (degree_rules bytes v) refl _;
  by_unpack = λ list. never_tried (unpack_rules bytes list) refl tt;
  by_file = λ degrees neighbours. never_tried (file_rules degrees neighbours bytes) refl tt;
  by_build = λ start work index. never_tried (build_rules bytes start work index) refl tt;
  by_loop_figure = never_tried (check_rules bytes) refl _;
  by_parent = λ index v. not_7 (order_q bytes index v) refl (parent_twelve (view_of bytes index) (v - 1));
  by_head = not_7_head bytes;
  by_ancestor = λ index u v.
      not_7 (ancestor_rules bytes index u v) refl (ancestor_twelve (view_of bytes index) (u - 1) (v - 1));
  by_children = λ index v. not_7 (order_q bytes index v) refl (value (child_count (view_of bytes index) (v - 1)));
  by_child = λ index v j. not_7 (child_rules bytes index v j) refl (vertex_twelve (view_of bytes index) _);
  by_visit = not_7_visit bytes;
  by_visited = λ index i. not_7 (order_q bytes index i) refl (visited_twelve (view_of bytes index) (i - 1));
  by_lookup = λ index list lent.
      never_tried (lookup_rules bytes index list lent) (lacks_7 bytes index list) tt;
  by_table = λ start work lent. never_tried (table_rules bytes start work lent) refl tt;
}
