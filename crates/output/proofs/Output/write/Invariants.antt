use Rattle.output.proofs.Run.{SoFar}
use Rattle.output.proofs.Output.write.Given as goal

abbrev pub invariant-loop-count : goal.invariant-loop-count
invariant-loop-count l = SoFar l.x l.initial.rest l.initial.out l.src l.count l.rest l.out
