-- `editing::reprinting::line_measured` meets its contract. Assumes nothing.
use Rattle.std.specs.Prelude.{Some, None}
use Rattle.editing.proofs.reprinting.Laws.{measured_first, measured_next, measured_past}
use Rattle.editing.proofs.reprinting.line_measured.Goals as goal
use native.Mathlib.Omega.{arith}
use Prim.Native.Nat.{◌+◌}

pub returns-in_err-measure : goal.returns-in_err-measure
returns-in_err-measure c =
    let a = c.args in
    let n = a.places.now in
    rw c.from_residual.ensures
    (measured_past a.x n.input n.bytes.now n.marks.now n.sound a.b _ a.o.column n.input.ready (omega arith)
    n.sound.within.ready
    (measured_first a.x n.input n.bytes.now n.marks.now n.sound a.b _ a.o.column c.measured-own.result None
    (c.measured-own.ensures _ a.o.column _ (c.measure.ensures a.x)) c.in_err-measure.ensures))

pub loop-k-init : goal.loop-k-init
loop-k-init c =
    let a = c.args in
    let n = a.places.now in
    measured_first a.x n.input n.bytes.now n.marks.now n.sound a.b _ a.o.column c.measured-own.result
    (Some c.in_ok-measure.measure) (c.measured-own.ensures _ a.o.column _ (c.measure.ensures a.x)) c.in_ok-measure.ensures

pub returns-in_err-measure-2 : goal.returns-in_err-measure-2
returns-in_err-measure-2 c =
    let a = c.args in
    let n = a.places.now in
    let l = c.loop-k in
    rw c.from_residual-in_err-measure-2.ensures
    (measured_past a.x n.input n.bytes.now n.marks.now n.sound a.b _ a.o.column (l.k + 1) (omega (arith, l.auto.k))
    (omega (arith, c.loop-k-test.true))
    (measured_next a.x n.input n.bytes.now n.marks.now n.sound a.b _ a.o.column l.k l.measure None l.auto.k
    c.loop-k-test.true l.invariant c.in_err-measure-2.ensures))

pub loop-k-preserved : goal.loop-k-preserved
loop-k-preserved c =
    let a = c.args in
    let n = a.places.now in
    let l = c.loop-k in
    measured_next a.x n.input n.bytes.now n.marks.now n.sound a.b _ a.o.column l.k l.measure
    (Some c.in_ok-measure-2.measure) l.auto.k c.loop-k-test.true l.invariant c.in_ok-measure-2.ensures
