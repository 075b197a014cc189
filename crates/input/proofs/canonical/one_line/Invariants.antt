use Rattle.input.proofs.canonical.GoesOn.{Lined}
use Rattle.input.proofs.canonical.one_line.Given as goal

abbrev pub invariant-loop-k : goal.invariant-loop-k
invariant-loop-k l = Lined l.i l.initial.marks l.k l.marks
