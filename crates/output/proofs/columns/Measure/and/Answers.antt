-- `output::columns::Measure::and` meets its contract. Assumes nothing.
use mathlib.Core.List.{[], ◌∷◌}
use mathlib.Core.Path.{◌≡◌}
use native.Mathlib.Omega.{arith}
use Rattle.std.specs.Prelude.{Some, None}
use Rattle.output.proofs.columns.Columns.{measured_full, measured_fits, unfit_longer}
use Rattle.output.specs.expansion.Contract.{expanded_bytes}
use Rattle.output.proofs.columns.Measure.and.Goals as goal

pub returns-in_err-before : goal.returns-in_err-before
returns-in_err-before c =
    let none : c.args.measure ≡ None = grind arith in
    rw (c.from_residual.ensures, none) (unfit_longer c.args.x (c.args.b ∷ []))

pub returns-in_err-room : goal.returns-in_err-room
returns-in_err-room c =
    let some : c.args.measure ≡ Some c.in_ok-before.before = grind arith in
    rw (c.from_residual-in_err-room.ensures, some)
    (measured_full c.args.x c.in_ok-before.before c.args.b _ (expanded_bytes c.expand-expanded.result) c.expand-expanded.ensures (grind arith)
    c.in_err-room.ensures)

pub returns : goal.returns
returns c =
    let some : c.args.measure ≡ Some c.in_ok-before.before = grind arith in
    rw some
    (measured_fits c.args.x c.in_ok-before.before c.args.b _ (expanded_bytes c.expand-expanded.result) c.expand-expanded.ensures (grind arith)
    c.in_ok-room.room c.column_after.result c.in_ok-room.ensures.0 c.in_ok-room.ensures.1 c.column_after.ensures)
