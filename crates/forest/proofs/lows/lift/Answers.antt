-- `lows::lift` meets its contract.
use mathlib.Core.Path.{refl}
use native.Mathlib.Omega.{arith}
use Rattle.forest.proofs.Laws.Graphs.{many}
use Rattle.forest.proofs.Laws.Lifted.{lift_room, lift_up, lift_root, lift_child}
use Rattle.forest.proofs.lows.lift.Goals as goal

pub get-requires : goal.get-requires
get-requires c =
    let h = lift_room (many c.args.g.now) c.requires.0 c.get-v.ensures.0 c.requires.1.lifting in
    omega arith

pub bounds-work-g : goal.bounds-work-g
bounds-work-g c = lift_room (many c.args.g.now) c.requires.0 c.get-v.ensures.0 c.requires.1.lifting

pub bounds-work-g-in-Some : goal.bounds-work-g-in-Some
bounds-work-g-in-Some c =
    lift_up (many c.args.g.now) c.requires.0 c.get-v.ensures.0 c.requires.1.lifting c.get.ensures.0 c.in-Some.ensures

pub bounds-work-g-in-Some-2 : goal.bounds-work-g-in-Some-2
bounds-work-g-in-Some-2 c =
    lift_up (many c.args.g.now) c.requires.0 c.get-v.ensures.0 c.requires.1.lifting c.get.ensures.0 c.in-Some.ensures

pub returns-in-Some : goal.returns-in-Some
returns-in-Some c = λ F f.
    lift_child (many c.args.g.now) c.requires.0 c.get-v.ensures.0 f c.get.ensures.0 c.in-Some.ensures refl refl
    c.min.ensures refl

pub returns-in_default : goal.returns-in_default
returns-in_default c = λ F f.
    lift_root (many c.args.g.now) c.requires.0 c.get-v.ensures.0 f c.get.ensures.0 c.in_default.ensures
