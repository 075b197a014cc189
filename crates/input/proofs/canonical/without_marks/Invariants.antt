use Rattle.input.proofs.canonical.GoesOff.{Keeps}
use Rattle.input.proofs.canonical.without_marks.Given as goal

abbrev pub invariant-loop-k : goal.invariant-loop-k
invariant-loop-k l = Keeps l.i l.initial.bytes l.initial.marks l.k l.kept l.bytes l.marks
