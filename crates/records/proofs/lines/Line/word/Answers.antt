-- `records::lines::Line::word` meets its contract: the first bytes of the word are laid, and then the next. Assumes nothing.
use native.Mathlib.Omega.{arith}
use lib.Seq.{take_all}
use Rattle.records.proofs.lines.Lines.{laid, laid_as}
use Rattle.records.proofs.lines.Texts.{one_more}
use Rattle.records.proofs.lines.Line.word.Goals as goal

pub loop-b-preserved : goal.loop-b-preserved
loop-b-preserved c =
    let w = c.loop-b in
    laid_as (grind (arith, one_more, take_all)) (laid w.invariant c.byte.ensures)
