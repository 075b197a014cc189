-- `echo::measured` meets its contract. Assumes nothing.
use mathlib.Core.Path.{sym, ap, ◌∙◌}
use Rattle.rules.specs.Echo.{visible}
use Rattle.output.proofs.columns.Columns.{unfit_longer}
use Rattle.echo.specs.Contract.{seen_bytes}
use Rattle.echo.proofs.Laws.{extends_as}
use Rattle.echo.proofs.measured.Goals as goal

pub returns-in_err-measure-in-Caret : goal.returns-in_err-measure-in-Caret
returns-in_err-measure-in-Caret c =
    rw c.from_residual.ensures (rw c.in_err-measure-in-Caret.was (unfit_longer c.args.x (visible c.args.x c.args.b)))

pub returns-in-Itself : goal.returns-in-Itself
returns-in-Itself c =
    extends_as c.args.x c.args.measure c.and.result _ (visible c.args.x c.args.b)
    (sym (ap seen_bytes c.in-Itself.is) ∙ c.visible.ensures) c.and.ensures
