-- `records::lines::put_line` meets its contract: its texts are laid one after the other. Assumes nothing.
use borrow.Author.Rules.{rules}
use Rattle.records.proofs.lines.Lines.{laid, laid_as}
use Rattle.records.proofs.lines.Front.{printed}
use Rattle.records.proofs.lines.put_line.Goals as goal

pub returns : goal.returns
returns c =
    let index = laid c.decimal.ensures c.byte.ensures in
    let kind = laid (laid index c.decimal-2.ensures) c.byte-2.ensures in
    let outcome = laid (laid kind (laid_as c.outcome_word.ensures c.word.ensures)) c.byte-3.ensures in
    let count = laid (laid outcome c.decimal-3.ensures) c.byte-4.ensures in
    printed (laid (laid count c.hex.ensures) c.byte-5.ensures) (search rules)
