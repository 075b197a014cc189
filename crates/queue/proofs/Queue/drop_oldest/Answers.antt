-- `queue::Queue::drop_oldest` meets its contract. Assumes nothing.
use native.Mathlib.Omega.{arith}
use native.Mathlib.Nat.{mod-add-mod}
use Rattle.queue.proofs.Queue.drop_oldest.Goals as goal

pub returns : goal.returns
returns c = grind (arith, mod-add-mod)
