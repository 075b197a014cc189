-- `input::canonical::without_marks` meets its contract. Assumes nothing.
use mathlib.Core.Path.{◌∙◌}
use Rattle.input.proofs.canonical.GoesOff.{keeps_skip, keeps_more, keeps_end}
use Rattle.input.proofs.canonical.without_marks.Goals as goal
use Rattle.input.proofs.canonical.without_marks.Goals.{then-not-has, else-not-has}

pub loop-k-preserved : goal.loop-k-preserved
loop-k-preserved c =
    let bs = c.args.bytes.now in
    let ms = c.args.marks.now in
    let loop = c.loop-k in
    let lt = c.loop-k-test.true in
    let m = c.at-m in
    let mark = c.has in
    elim c.if-not-has.branch [
      | then-not-has w ↦ rw w.kept-is
          (keeps_more c.args.i bs ms c.requires loop.k loop.kept loop.bytes loop.marks loop.invariant lt
          m.result w.at-b.result mark.result c.if-not-has.bytes c.if-not-has.marks m.ensures mark.ensures
          w.if-not-has.true w.at-b.ensures (w.bytes-is ∙ w.change.ensures) (w.marks-is ∙ w.change-then-not-has.ensures))
      | else-not-has w ↦ rw (w.bytes-is, w.marks-is, w.kept-is)
          (keeps_skip c.args.i bs ms c.requires loop.k loop.kept loop.bytes loop.marks loop.invariant lt
          m.result mark.result m.ensures mark.ensures w.if-not-has.false)
    ]

pub returns : goal.returns
returns c =
    keeps_end c.args.i c.args.bytes.now c.args.marks.now c.requires c.loop-k.k c.loop-k.kept c.loop-k.bytes c.loop-k.marks c.loop-k.invariant
    c.loop-k-test.false
