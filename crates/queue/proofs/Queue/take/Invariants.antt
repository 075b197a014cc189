use Rattle.queue.specs.Queue.{held}
use mathlib.Core.Path.{◌≡◌}
use lib.ListN.{take, drop}
use Rattle.queue.proofs.Queue.take.Given as goal

abbrev pub invariant-loop-k : goal.invariant-loop-k
invariant-loop-k l =
    record {
      copied : take l.k l.dst ≡ take l.k (held l.self l.ring);
      rest : drop l.k l.dst ≡ drop l.k l.initial.dst;
    }
