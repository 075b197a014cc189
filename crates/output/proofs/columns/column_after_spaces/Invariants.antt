use lib.ListN.{replicate}
use Rattle.rules.specs.Output.{columns_after}
use mathlib.Core.Path.{◌≡◌}
use Rattle.output.proofs.columns.column_after_spaces.Given as goal

abbrev pub invariant-loop : goal.invariant-loop
invariant-loop l = l.column ≡ columns_after l.x l.c (replicate l.counter 32)
