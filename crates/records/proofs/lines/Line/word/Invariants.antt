use lib.ListN.{take}
use Rattle.records.specs.lines.Lines.{Lays}
use Rattle.records.proofs.lines.Line.word.Given as goal

abbrev pub invariant-loop-b : goal.invariant-loop-b
invariant-loop-b l = Lays l.initial.self (take l.b-index l.word) l.self
