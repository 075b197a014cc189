-- `editing::reprinting::of_reprinted` meets its contract. Assumes nothing.
use Rattle.editing.proofs.reprinting.Laws.{reprints, reprints_nothing, reprints_unseen}
use Rattle.editing.proofs.reprinting.of_reprinted.Goals as goal
use Rattle.editing.proofs.reprinting.of_reprinted.Goals.{else-x-via-then-x+else-fits, else-x-via-else-x}

pub returns-then-fits : goal.returns-then-fits
returns-then-fits c =
    let r = c.shown_line in
    let at-if1 = c.if-x in
    let a = c.args in
    reprints a.x a.o a.i a.bytes.now a.marks.now a.out.now a.b c.requires.bytes_len c.requires.within r.result r.new.out
    at-if1.true r.ensures

pub returns-else-x : goal.returns-else-x
returns-else-x c =
    let a = c.args in
    elim c.else-x.branch [
      | else-x-via-then-x+else-fits w ↦
          reprints_nothing a.x a.o a.i a.bytes.now a.marks.now a.out.now a.b c.requires.bytes_len c.requires.within w.fits.result c.fit.result
          w.if-x.true w.fits.ensures w.if-fits.false c.fit.ensures
      | else-x-via-else-x w ↦
          reprints_unseen a.x a.o a.i a.bytes.now a.marks.now a.out.now a.b c.requires.bytes_len c.requires.within c.fit.result w.if-x.false
          c.fit.ensures
    ]
