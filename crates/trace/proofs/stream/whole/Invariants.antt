use Rattle.trace.proofs.stream.WholeInput.{Running}
use lib.ListN.{length}
use Rattle.trace.proofs.stream.whole.Given as goal

abbrev pub invariant-loop-rest : goal.invariant-loop-rest
invariant-loop-rest l = Running l.input l.initial.dst l.bytes l.marks l.out l.kept l.dst l.stream l.rest l.written

abbrev pub decreases-loop-rest : goal.decreases-loop-rest
decreases-loop-rest l = length l.rest
