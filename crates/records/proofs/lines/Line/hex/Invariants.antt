use lib.ListN.{take}
use Rattle.rules.specs.Trace.{hex}
use Rattle.records.specs.lines.Lines.{Lays}
use Rattle.records.proofs.lines.Line.hex.Given as goal

abbrev pub invariant-loop-b : goal.invariant-loop-b
invariant-loop-b l = Lays l.initial.self (hex (take l.b-index l.bytes)) l.self
