-- `input::reading::first_line` meets its contract. Assumes nothing.
use mathlib.Core.Path.{◌≡◌}
use Prim.Native.Nat.{◌≤◌, min}
use native.Mathlib.Omega.{arith}
use Rattle.input.proofs.reading.FirstLine.{line_at_mark, line_at_end, line_at_stop, line_at_last}
use Rattle.input.proofs.reading.first_line.Goals as goal
use Rattle.input.proofs.reading.first_line.Goals.{else-most-i-via-then-most-i+else-has-3, else-most-i-via-else-most-i}

pub returns-then-has : goal.returns-then-has
returns-then-has c =
    line_at_mark c.args.i c.args.marks.now c.args.n c.loop-k.k c.requires (omega arith) c.loop-k.invariant (omega arith) (cc)

pub returns-then-has-2 : goal.returns-then-has-2
returns-then-has-2 c =
    line_at_end c.args.i c.args.marks.now c.args.n c.loop-k.k c.requires (omega arith) c.loop-k.invariant (omega arith) (omega arith) (cc) (cc)

pub returns-then-has-3 : goal.returns-then-has-3
returns-then-has-3 c =
    let most = c.min-most.result in
    let k : most ≡ c.loop-k.k = omega arith in
    line_at_mark c.args.i c.args.marks.now c.args.n most c.requires (omega arith) (rw k c.loop-k.invariant) (omega arith) (cc)

pub returns : goal.returns
returns c =
    let most = c.min-most.result in
    let k : most ≡ c.loop-k.k = omega arith in
    let le : most ≤ min c.args.n c.args.i.ready = omega arith in
    elim c.else-most-i.branch [
      | else-most-i-via-then-most-i+else-has-3 w ↦
          line_at_stop c.args.i c.args.marks.now c.args.n most c.requires le (rw k c.loop-k.invariant) (omega arith) (omega arith) (cc)
      | else-most-i-via-else-most-i w ↦
          line_at_last c.args.i c.args.marks.now c.args.n most c.requires le (rw k c.loop-k.invariant) (omega arith)
    ]
