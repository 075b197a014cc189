-- `queue::Queue::take` meets its contract: after k turns the first k bytes held stand in dst. Assumes nothing.
use native.Mathlib.Omega.{arith}
use Rattle.std.proofs.lemmas.Grind.{common_steps}
use Rattle.queue.proofs.Laws.{held_length}
use Rattle.queue.proofs.Queue.take.Goals as goal

pub loop-k-preserved : goal.loop-k-preserved
loop-k-preserved c = grind (arith, common_steps, held_length, c.at.ensures)

pub returns : goal.returns
returns c = grind (arith, common_steps, held_length)
