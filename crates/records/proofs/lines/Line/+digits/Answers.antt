-- `records::lines::Line::digits` meets its contract: all digits but the last, if there are any, and the last. Assumes nothing.
use Rattle.std.proofs.Common.{[], ◌∷◌, ap, sym}
use Rattle.records.proofs.lines.Texts.{digits_one, digits_more}
use Rattle.records.proofs.lines.Lines.{laid, laid_as, laid_from}
use Rattle.records.proofs.lines.Line.+digits.Goals as goal
use Rattle.records.proofs.lines.Line.+digits.Goals.{then-n-ge10, else-n-ge10}

pub returns : goal.returns
returns t c =
    let a = c.args in
    let some = c.if-most-eq0.false in
    let last = laid_as (ap (λ d. d ∷ []) c.digit.ensures) c.byte.ensures in
    elim c.if-n-ge10.branch [
      | then-n-ge10 w ↦ laid_as (sym (digits_more a.most a.n some w.if-n-ge10.true)) (laid w.digits.ensures (laid_from w.self-is last))
      | else-n-ge10 w ↦ laid_as (sym (digits_one a.most a.n some w.if-n-ge10.false)) (laid_from w.self-is last)
    ]
