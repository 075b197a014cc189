-- `queue::Queue::at` meets its contract. Assumes nothing.
use Rattle.queue.proofs.Laws.{at_in, at_out}
use native.Mathlib.Omega.{arith}
use Rattle.queue.proofs.Queue.at.Goals as goal

pub returns-then-k-q : goal.returns-then-k-q
returns-then-k-q c = grind (arith, at_in)

pub returns-else-k-q : goal.returns-else-k-q
returns-else-k-q c = grind (arith, at_out)
