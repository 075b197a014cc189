-- `queue::Queue::push` meets its contract. Assumes nothing.
use native.Mathlib.Omega.{arith}
use Rattle.queue.proofs.Laws.{push_of, pushed_full}
use Rattle.queue.proofs.Queue.push.Goals as goal

pub returns-then-q-n : goal.returns-then-q-n
returns-then-q-n c = grind (arith, push_of)

pub returns-else-q-n : goal.returns-else-q-n
returns-else-q-n c = grind (arith, pushed_full)
