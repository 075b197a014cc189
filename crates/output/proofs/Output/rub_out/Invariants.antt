use Rattle.output.proofs.Run.{Queues}
use Rattle.rules.specs.Echo.{rubout}
use Rattle.output.proofs.Output.rub_out.Given as goal

abbrev pub invariant-loop : goal.invariant-loop
invariant-loop l = Queues l.x l.initial.o l.initial.out (rubout l.counter) l.o l.out
