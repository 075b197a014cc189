-- `input::canonical::one_line` meets its contract. Assumes nothing.
use Rattle.input.proofs.canonical.GoesOn.{line_next, line_end}
use Rattle.input.proofs.canonical.one_line.Goals as goal

pub loop-k-preserved : goal.loop-k-preserved
loop-k-preserved c =
    let at-change = c.change in
    let at-in-line = c.in_line-joined in
    let at_at = c.at in
    let at-loop-test = c.loop-k-test in
    let loop = c.loop-k in
    line_next c.args.i c.args.marks.now c.requires loop.k at_at.result at-in-line.result loop.marks at-change.new.ring loop.invariant
    at-loop-test.true at_at.ensures at-in-line.ensures at-change.ensures

pub returns : goal.returns
returns c =
    let loop = c.loop-k in
    line_end c.args.i c.args.marks.now c.requires loop.k loop.marks loop.invariant c.loop-k-test.false
