-- `records::lines::put_end` meets its contract: its two texts are laid one after the other. Assumes nothing.
use borrow.Author.Rules.{rules}
use Rattle.records.proofs.lines.Lines.{laid}
use Rattle.records.proofs.lines.Front.{printed}
use Rattle.records.proofs.lines.put_end.Goals as goal

pub returns : goal.returns
returns c = printed (laid c.decimal.ensures c.word.ensures) (search rules)
