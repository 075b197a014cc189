-- `received::storing::shown` meets its contract. Assumes nothing.
use Rattle.std.proofs.Common.{arith}
use Rattle.std.proofs.lemmas.Grind.{common_steps}
use Rattle.echo.proofs.Laws.{shows_none}
use Rattle.received.proofs.storing.shown.Goals as goal

pub returns-in-Silent : goal.returns-in-Silent
returns-in-Silent c = grind (arith, common_steps, shows_none c.args.x c.args.o c.args.o c.args.out.now c.requires)
