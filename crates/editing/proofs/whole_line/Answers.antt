-- `editing::whole_line` meets its contract. Assumes nothing.
use mathlib.Core.Bool.{true}
use mathlib.Core.Path.{refl}
use Rattle.editing.proofs.Laws.{walk_next, whole_of}
use Rattle.editing.proofs.whole_line.Goals as goal

pub loop-at-preserved : goal.loop-at-preserved
loop-at-preserved c =
    let at-loop = c.loop-at in
    λ bs e. walk_next c.args.i bs c.args.marks.now c.args.i.queue.len (λ u. true) e at-loop.at at-loop.units (at-loop.invariant bs e)
    c.unit_start-at.result c.unit_start-at.ensures refl

pub returns : goal.returns
returns c =
    let at-loop = c.loop-at in
    whole_of c.args.i c.args.marks.now at-loop.at at-loop.units c.requires c.loop-at-test.false at-loop.invariant
