-- `queue::Queue::change` meets its contract. Assumes nothing.
use Rattle.queue.proofs.Laws.{changed_in}
use native.Mathlib.Omega.{arith}
use Rattle.queue.proofs.Queue.change.Goals as goal

pub returns-then-k-q : goal.returns-then-k-q
returns-then-k-q c = grind (arith, changed_in)
