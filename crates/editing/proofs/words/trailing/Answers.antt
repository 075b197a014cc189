-- `editing::words::trailing` meets its contract. Assumes nothing.
use native.Mathlib.Omega.{arith}
use Rattle.editing.specs.words.Contract.{unit_class}
use Rattle.editing.proofs.Laws.{walk_next}
use Rattle.editing.proofs.words.trailing.Goals as goal

pub loop-at-preserved : goal.loop-at-preserved
loop-at-preserved g c =
    let l = c.args.places.now in
    let s = c.unit_start-start in
    let loop = c.loop-at in (
      omega arith,
      omega arith,
      λ t answers.
          walk_next l.input l.bytes.now l.marks.now c.args.end (λ u. t (unit_class u)) l.sound.same loop.at loop.units (loop.invariant.2 t answers) s.result
          s.ensures (cc (answers _ _ c.test.ensures)),
    )
