-- `editing::unit_start` meets its contract. Assumes nothing.
use mathlib.Core.Logic.{inl, inr}
use mathlib.Core.Path.{refl}
use Prim.Native.Nat.{◌-◌}
use native.Mathlib.Omega.{arith}
use Rattle.editing.proofs.Laws.{seek_end}
use Rattle.editing.proofs.unit_start.Goals as goal

pub returns-then-starts : goal.returns-then-starts
returns-then-starts c =
    let at = c.loop-at.at in
    seek_end c.args.i c.args.marks.now c.args.end _ (at - 1) at c.requires.line c.loop-at.invariant (omega arith) (omega arith) (omega arith) (inl (cc))

pub returns : goal.returns
returns c =
    let ready = c.args.i.ready in
    seek_end c.args.i c.args.marks.now c.args.end _ ready c.loop-at.at c.requires.line c.loop-at.invariant (omega arith) (omega arith) (omega arith) (inr refl)
