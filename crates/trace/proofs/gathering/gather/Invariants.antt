use Rattle.trace.proofs.gathering.Laws.{Gathering}
use Rattle.trace.proofs.gathering.gather.Given as goal

abbrev pub invariant-loop-at : goal.invariant-loop-at
invariant-loop-at l = Gathering l.initial.kept l.have l.piece l.at l.kept
