-- `editing::words::last_word` meets its contract. Assumes nothing.
use Rattle.editing.proofs.words.Laws.{by_alternate, by_word}
use Rattle.editing.proofs.words.last_word.Goals as goal

pub returns-then-x : goal.returns-then-x
returns-then-x c =
    by_alternate c.args.i c.args.bytes.now c.args.marks.now c.args.x.altwerase c.alternate_word.result c.requires.bytes_len c.requires.within
    c.if-x.true c.alternate_word.ensures

pub returns-else-x : goal.returns-else-x
returns-else-x c =
    by_word c.args.i c.args.bytes.now c.args.marks.now c.args.x.altwerase c.word.result c.requires.bytes_len c.requires.within c.if-x.false
    c.word.ensures
