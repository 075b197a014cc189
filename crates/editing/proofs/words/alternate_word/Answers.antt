-- `editing::words::alternate_word` meets its contract. Assumes nothing.
use Rattle.editing.proofs.words.Laws.{alternate_of}
use Rattle.editing.proofs.words.alternate_word.Goals as goal

pub returns : goal.returns
returns c =
    let l = c.args.places.now in
    alternate_of l.input l.bytes.now l.marks.now l.input.queue.len c.blanks-blanks.result c.blanks-blanks.ensures c.one-further.result c.one_class-rest.result
    (c.one-further.ensures l.bytes.now l.sound.same) c.one_class-rest.ensures
