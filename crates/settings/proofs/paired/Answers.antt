-- `settings::paired` meets its contract. Assumes nothing.
use native.Mathlib.Omega.{arith}
use Rattle.settings.proofs.Pairs.{distinct_next}
use Rattle.settings.proofs.paired.Goals as goal

pub returns-then-has : goal.returns-then-has
returns-then-has c = grind (arith, distinct_next c.in-Some.b.now c.in-Some.others.now)
