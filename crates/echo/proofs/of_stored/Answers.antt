-- `echo::of_stored` meets its contract. Assumes nothing.
use Rattle.echo.proofs.Laws.{shows_none}
use Rattle.echo.proofs.of_stored.Goals as goal

pub returns-else-shows_newline : goal.returns-else-shows_newline
returns-else-shows_newline c =
    rw (c.if-x.false, ← c.shows_newline.ensures, c.if-shows_newline.false) (shows_none c.args.x c.args.o c.fit.result c.args.out.now c.fit.ensures)
