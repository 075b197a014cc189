use lib.ListN.{take}
use Rattle.std.specs.Prelude.{Some}
use Rattle.output.specs.columns.Contract.{ExtendsBy}
use Rattle.output.proofs.columns.Measure.and_all.Given as goal

abbrev pub invariant-loop-b : goal.invariant-loop-b
invariant-loop-b l = ExtendsBy l.x (Some l.initial.measure) (take l.b-index l.bytes) (Some l.measure)
