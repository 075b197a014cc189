use Rattle.output.proofs.Run.{Queues}
use lib.ListN.{replicate}
use Rattle.output.proofs.Output.put_spaces.Given as goal

abbrev pub invariant-loop : goal.invariant-loop
invariant-loop l = Queues l.x l.initial.o l.initial.out (replicate l.counter 32) l.o l.out
