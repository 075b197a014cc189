-- `editing::reprinting::shown_line` meets its contract. Assumes nothing.
use Rattle.editing.proofs.reprinting.Laws.{showing_next, shown_all}
use Rattle.editing.proofs.reprinting.shown_line.Goals as goal

pub loop-k-preserved : goal.loop-k-preserved
loop-k-preserved c =
    let t = c.shown-shows in
    let at-loop-test = c.loop-k-test in
    let l = c.loop-k in
    let f = c.show_line-shows in
    let a = c.args in
    showing_next a.x a.places.now.input a.places.now.bytes.now a.places.now.marks.now a.places.now.sound f.result f.new.out l.k l.shows
    t.result l.out t.new.out l.invariant at-loop-test.true t.ensures

pub returns : goal.returns
returns c =
    let l = c.loop-k in
    let f = c.show_line-shows in
    let a = c.args in
    shown_all a.x a.places.now.input a.places.now.bytes.now a.places.now.marks.now a.places.now.sound f.result f.new.out a.o a.out.now a.b
    c.requires f.ensures l.k l.shows l.out l.invariant c.loop-k-test.false
