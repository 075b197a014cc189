-- `echo::of_removed` meets its contract. Assumes nothing.
use Rattle.std.proofs.lemmas.Bool.{not-true}
use Rattle.echo.proofs.Laws.{shows_none}
use Rattle.echo.proofs.of_removed.Goals as goal

pub returns-then-not-x : goal.returns-then-not-x
returns-then-not-x c =
    rw (not-true c.args.x.echo c.if-not-x.true) (shows_none c.args.x c.args.o c.fit.result c.args.out.now c.fit.ensures)
