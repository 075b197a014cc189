-- `output::columns::Measure::and_all` meets its contract. Assumes nothing.
use mathlib.Core.Path.{◌≡◌}
use Prim.Native.Nat.{◌+◌}
use native.Mathlib.Omega.{arith}
use lib.Seq.{take_all}
use Rattle.std.specs.Prelude.{Some, None}
use Rattle.output.proofs.columns.Columns.{extends_next, extends_past}
use Rattle.output.proofs.columns.Measure.and_all.Goals as goal

pub returns-in_err-measure : goal.returns-in_err-measure
returns-in_err-measure c =
    let i = c.loop-b.b-index in
    let a = c.args in
    let none : c.and.result ≡ None = grind arith in
    rw c.from_residual.ensures
    (extends_past a.x (Some a.self) a.bytes.now (i + 1)
    (extends_next a.x (Some a.self) (Some c.loop-b.measure) None a.bytes.now i c.loop-b-test.true c.loop-b.invariant (rw none at c.and.ensures)))

pub loop-b-preserved : goal.loop-b-preserved
loop-b-preserved c =
    let some : c.and.result ≡ Some c.in_ok-measure.measure = grind arith in
    extends_next c.args.x (Some c.args.self) (Some c.loop-b.measure) (Some c.in_ok-measure.measure) c.args.bytes.now c.loop-b.b-index c.loop-b-test.true
    c.loop-b.invariant (rw some at c.and.ensures)

pub returns : goal.returns
returns c = let all = take_all c.loop-b.b-index c.args.bytes.now c.loop-b-test.false in rw all at c.loop-b.invariant
