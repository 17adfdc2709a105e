-- `part_of` meets its contract: order R and the list's length first, and then the block.
use mathlib.Core.Path.{◌≡◌, sym, ap, ◌∙◌}
use mathlib.Core.List.{List}
use Prim.Native.Nat.{ℕ}
use Rattle.std.specs.Prelude.{Result, Ok, Err, IfOk}
use Rattle.std.specs.Result.{result_unwrap_or}
use Rattle.record.specs.Answers.{answer}
use Rattle.record.specs.Sized.{shape}
use Rattle.record.specs.Operations.{degree, PartOf}
use Rattle.record.specs.declared.Part.{Part}
use Rattle.record.specs.declared.Refusal.{Refusal}
use Rattle.record.specs.Laws.OneBlock.{part_misfit, part_refused, part_unread}
use Rattle.record.proofs.part_of.Goals as goal

-- where there is no part, it is none at the front
part_or_none : {bytes : List ℕ} {len v : ℕ} (r : Result Part Refusal) → answer (λ p. p.size) r ≡ degree bytes v
    → IfOk r (λ p. PartOf bytes len v p.from p.size)
    → (let p = result_unwrap_or r (record { from = 0; size = 0 }) in PartOf bytes len v p.from p.size)
part_or_none (Ok p) d h = h
part_or_none {bytes} {v = v} (Err r) d h = part_refused bytes v d

pub returns-in-Ok : goal.returns-in-Ok
returns-in-Ok c =
    rw (c.unwrap_or.ensures, ← c.in-Ok.ensures.same, c.if-len-layout.true)
    (part_or_none c.part_in.result c.part_in.ensures.degree c.part_in.ensures.part)

pub returns-in_default : goal.returns-in_default
returns-in_default c =
    rw c.in-Ok.ensures.same at (part_misfit c.in-Ok.layout.sound c.args.v.0 c.if-len-layout.false)

pub returns-in_default-2 : goal.returns-in_default-2
returns-in_default-2 c =
    part_unread c.args.bytes.now c.args.v.0 (sym (ap shape c.in_default.is) ∙ c.order_r.ensures.sizes)
