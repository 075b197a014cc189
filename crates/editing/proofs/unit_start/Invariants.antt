use Rattle.editing.proofs.Laws.{Seeking}
use Rattle.editing.proofs.unit_start.Given as goal

abbrev pub invariant-loop-at : goal.invariant-loop-at
invariant-loop-at l = Seeking l.i l.marks l.end l.second l.at
