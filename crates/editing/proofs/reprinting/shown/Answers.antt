-- `editing::reprinting::shown` meets its contract. Assumes nothing.
use Rattle.echo.proofs.Laws.{shows_as, shows_none}
use Rattle.editing.specs.reprinting.Contract.{place_echo}
use Rattle.editing.proofs.reprinting.Laws.{place_unseen}
use mathlib.Core.List.{[]}
use Rattle.editing.proofs.reprinting.shown.Goals as goal

pub returns-else-is_shown : goal.returns-else-is_shown
returns-else-is_shown c =
    let a = c.args in
    let t = c.is_shown in
    shows_as a.x a.o c.fit.result a.out.now a.out.now [] (place_echo a.x a.places.now.input a.places.now.bytes.now a.places.now.marks.now a.k)
    (place_unseen a.x a.places.now.input a.places.now.bytes.now a.places.now.marks.now a.k t.result t.ensures c.if-is_shown.false)
    (shows_none a.x a.o c.fit.result a.out.now c.fit.ensures)
