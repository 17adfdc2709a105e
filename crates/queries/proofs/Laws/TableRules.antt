-- Table's rules are Build's, with a buffer that fits where the lists do.
use mathlib.Core.Path.{◌≡◌, sym, ap, subst, ◌∙◌}
use mathlib.Core.Bool.{true, false, not}
use mathlib.Core.List.{List}
use Prim.Native.Nat.{ℕ, suc, ◌-◌}
use borrow.Author.Tests.{eq-eqb, ne_eqb, eqb-true, not-false}
use lib.Dec.{eqb}
use lib.ListN.{length}
use Rattle.record.specs.Record.{terminals, wires, blocks}
use Rattle.record.specs.Rules.{Rule, first_broken, order_r, layout_rules, check_rules}
use Rattle.record.specs.Answers.{Answer, refused, answered, tried}
use Rattle.record.specs.Sized.{sizes_of}
use Rattle.record.specs.Operations.{Accepted, other_length}
use Rattle.record.specs.Steps.{Sound}
use Rattle.record.specs.Laws.First.{rule_kept, append_broken, both_kept, check_numbered}
use Rattle.adjacency.specs.Laws.Anywhere.{neither}
use Rattle.record.specs.Laws.Told.{told, untold, told_back, untold_back, buffer_kept, buffer_written}
use Rattle.forest.specs.Index.{index_of, index_length}
use Rattle.forest.specs.Operations.{build_rules, build, built, no_start}
use Rattle.queries.specs.Written.{Written}
use Rattle.queries.specs.Demands.{build_writes}
use Rattle.queries.specs.Filling.{Ready}
use Rattle.queries.specs.Steps.{Framed}
use Rattle.queries.specs.Laws.Ready.{ready_beside}
use Rattle.queries.specs.Table.{Columns, columns, misfits, table_on, table_of, table_rules, table, tabled, TableDone}

-- what Build leaves: an index of the right length, which it wrote from the start
pub record Made (bytes : List ℕ) (start : ℕ) (index : List ℕ) (n m : ℕ) : Type 0 where
  pub framed : Framed index n m
  pub accepted : Accepted bytes
  pub taken : no_start (terminals bytes) start ≡ false
  pub is : index ≡ index_of (blocks bytes) (start - 1)

module _ (bytes : List ℕ) (start : ℕ) (work : List ℕ) (lent : Columns) where
  refuses : {k : ℕ} → first_broken (table_rules bytes start work lent) ≡ suc k
      → TableDone bytes start work lent lent (refused (suc k))
  unfolding table tabled
  refuses e = record {
    answers = told tt e;
    leaves = buffer_kept (table_rules bytes start work lent) (table_of bytes start) lent e;
  }

  -- order R refuses
  pub table_unread : {k : ℕ} → refused k ≡ tried (order_r bytes) (sizes_of bytes)
      → TableDone bytes start work lent lent (refused k)
  unfolding table_rules check_rules layout_rules
  table_unread e =
      let (i, f, g) = told_back (first_broken (order_r bytes)) (sizes_of bytes) e in
      let l = append_broken (layout_rules bytes) _ i (append_broken (order_r bytes) _ i f) in
      rw g (refuses (append_broken (check_rules bytes) _ i l))

  -- order R lets pass the record that it was asked of
  pub table_read : {read : List ℕ} {next : Columns} {r : Answer (Unit {0})} → read ≡ bytes
      → TableDone read start work lent next r → TableDone bytes start work lent next r
  table_read {next = next} {r = r} same d = subst (λ (x : List ℕ). TableDone x start work lent next r) same d

  -- behind order R
  module _ {n m : ℕ} (s : Sound bytes n m) (index : List ℕ)
      (fits : other_length index (index_length n m) ≡ misfits n lent) where
    same_rules : build_rules bytes start work index ≡ table_rules bytes start work lent
    unfolding build_rules table_rules
    same_rules =
        let e : other_length index (index_length (terminals bytes) (wires bytes)) ≡ misfits (terminals bytes) lent =
        rw (s.is_n, s.is_m) at fits in
        rw e

    -- Build refuses
    pub table_refused : {k : ℕ} → refused k ≡ build bytes start work index
        → TableDone bytes start work lent lent (refused k)
    unfolding build
    table_refused e =
        let (i, f, g) = told_back (first_broken (build_rules bytes start work index)) tt e in
        rw g (refuses (ap first_broken (sym same_rules) ∙ f))

    -- Build has written the index
    module _ (e : answered tt ≡ build bytes start work index) where
      build_kept : first_broken (build_rules bytes start work index) ≡ 0
      unfolding build
      build_kept = (untold_back (first_broken (build_rules bytes start work index)) tt e).0

      kept : first_broken (table_rules bytes start work lent) ≡ 0
      kept = ap first_broken (sym same_rules) ∙ build_kept

      pub table_made : {next : List ℕ} → next ≡ built bytes start work index → Made bytes start next n m
      table_made {next} is =
          let (w, same) = build_writes bytes start work index (sym e) in
          let r : Ready bytes next n m =
          record { written = subst (Written bytes) (sym is) w; is_n = s.is_n; is_m = s.is_m } in
          record {
            framed = (ready_beside r).framed;
            accepted = w.accepted;
            taken = ap (no_start (terminals bytes)) (sym same) ∙ w.taken;
            is = is ∙ w.is ∙ ap (λ (k : ℕ). index_of (blocks bytes) (k - 1)) same;
          }

      pub table_fits : misfits n lent ≡ false
      unfolding table_rules
      table_fits =
          let (_, more) = both_kept (check_numbered bytes) _ kept in
          let (_, last) = rule_kept 8 _ _ more in
          ap (λ (x : ℕ). misfits x lent) s.is_n ∙ (rule_kept 9 _ _ last).0

      pub table_done : {index' : List ℕ} → index' ≡ built bytes start work index → {next : Columns}
          → next ≡ table_on bytes index' → TableDone bytes start work lent next (answered tt)
      unfolding table tabled built
      table_done q is =
          let rules : List Rule = build_rules bytes start work index in
          let b = buffer_written rules (index_of (blocks bytes) (start - 1)) index build_kept in
          record {
            answers = untold tt kept;
            leaves = is
                ∙ ap (table_on bytes) (q ∙ sym b)
                ∙ buffer_written (table_rules bytes start work lent) (table_of bytes start) lent kept;
          }

-- ---- rule 10

module _ (n : ℕ) (v p c h : List ℕ) where
  -- the first list that does not fit
  pub misfit_visits : (length v ≡ n → ⊥) → true ≡ misfits n (columns v p c h)
  unfolding misfits other_length
  misfit_visits d = rw (ne_eqb (length v) n d)

  module _ (ev : length v ≡ n) where
    pub misfit_parents : (length p ≡ n → ⊥) → true ≡ misfits n (columns v p c h)
    unfolding misfits other_length
    misfit_parents d = rw (eq-eqb (length v) n ev, ne_eqb (length p) n d)

    module _ (ep : length p ≡ n) where
      pub misfit_counts : (length c ≡ n → ⊥) → true ≡ misfits n (columns v p c h)
      unfolding misfits other_length
      misfit_counts d = rw (eq-eqb (length v) n ev, eq-eqb (length p) n ep, ne_eqb (length c) n d)

      pub misfit_heads : length c ≡ n → not (eqb (length h) n) ≡ misfits n (columns v p c h)
      unfolding misfits other_length
      misfit_heads ec = rw (eq-eqb (length v) n ev, eq-eqb (length p) n ep, eq-eqb (length c) n ec)

  -- all fit
  pub lists_fit : misfits n (columns v p c h) ≡ false
      → (length v ≡ n) × (length p ≡ n) × (length c ≡ n) × (length h ≡ n)
  unfolding misfits other_length
  lists_fit e =
      let (a, e₁) = neither (not (eqb (length v) n)) _ e in
      let (b, e₂) = neither (not (eqb (length p) n)) _ e₁ in
      let (d, f) = neither (not (eqb (length c) n)) _ e₂ in
      (fit a, fit b, fit d, fit f)
    where
      fit : {k : ℕ} → not (eqb k n) ≡ false → k ≡ n
      fit {k} q = eqb-true k n (not-false (eqb k n) q)
