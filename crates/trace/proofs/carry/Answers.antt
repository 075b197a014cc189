-- `trace::carry` meets its contract. Assumes nothing.
use native.Mathlib.Omega.{arith}
use mathlib.Core.Path.{sym}
use lib.Seq.{length-take-le}
use Rattle.trace.proofs.Laws.{malformed_carried, at_most, carried}
use Rattle.trace.proofs.carry.Goals as goal

pub returns-in_default : goal.returns-in_default
returns-in_default c = rw c.refuses.ensures (malformed_carried c.decode.ensures c.in_default.is)

pub slice_bounds-step-end : goal.slice_bounds-step-end
slice_bounds-step-end c =
    omega (arith, at_most c.decode.ensures c.in-Some.is, c.load.auto.lent, c.requires)

pub slice_bounds-step-end-2 : goal.slice_bounds-step-end-2
slice_bounds-step-end-2 c =
    sym (length-take-le c.in-Some.asked.lent c.load.new.lent
    (omega (arith, at_most c.decode.ensures c.in-Some.is, c.load.auto.lent, c.requires)))

pub returns : goal.returns
returns c =
    carried c.decode.ensures c.in-Some.is c.requires c.load.auto.lent c.load.ensures c.step.ensures
    c.given_of-given.ensures
