use mathlib.Core.Bool.{Bool}
use Prim.Native.Nat.{◌+◌, ◌≤◌}
use Rattle.rules.specs.declared.Class.{Class}
use Rattle.editing.specs.words.Contract.{unit_class, Answers}
use Rattle.editing.proofs.Laws.{Walked}
use Rattle.editing.proofs.words.trailing.Given as goal

abbrev pub invariant-loop-at : goal.invariant-loop-at
invariant-loop-at g l =
    (l.places.input.ready ≤ l.at)
    × (l.units + l.at ≤ l.end)
    × ((t : Class → Bool) → Answers (goal.F-post g l.test) t
    → Walked l.places.input l.places.bytes.now l.places.marks.now l.end (λ u. t (unit_class u)) l.at l.units)

abbrev pub decreases-loop-at : goal.decreases-loop-at
decreases-loop-at g l = l.at
