use mathlib.Core.Path.{◌≡◌}
use lib.ListN.{length}
use Rattle.rules.specs.Settings.{enabled_of, distinct}
use Rattle.settings.proofs.paired.Given as goal

abbrev pub invariant-loop-b : goal.invariant-loop-b
invariant-loop-b l = distinct (enabled_of l.specials) ≡ distinct (enabled_of l.rest)

abbrev pub decreases-loop-b : goal.decreases-loop-b
decreases-loop-b l = length l.rest
