-- `echo::of_byte` meets its contract. Assumes nothing.
use Rattle.echo.proofs.Laws.{shows_none}
use Rattle.echo.proofs.of_byte.Goals as goal

pub returns-else-x : goal.returns-else-x
returns-else-x c = rw c.if-x.false (shows_none c.args.x c.args.o c.fit.result c.args.out.now c.fit.ensures)
