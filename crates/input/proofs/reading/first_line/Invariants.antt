use Rattle.queue.specs.Queue.{held}
use Rattle.input.proofs.reading.FirstLine.{Plain}
use Rattle.input.proofs.reading.first_line.Given as goal

abbrev pub invariant-loop-k : goal.invariant-loop-k
invariant-loop-k l = Plain (held l.i.queue l.marks) l.k
