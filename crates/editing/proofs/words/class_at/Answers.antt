-- `editing::words::class_at` meets its contract. Assumes nothing.
use mathlib.Core.Path.{ap, ◌∙◌}
use Rattle.rules.specs.Classes.{class_of}
use Rattle.editing.proofs.words.Laws.{class_single, class_several}
use Rattle.editing.proofs.words.class_at.Goals as goal

pub returns-then-start-end : goal.returns-then-start-end
returns-then-start-end c =
    let l = c.args.places.now in
    class_several l.input l.bytes.now l.marks.now c.args.start c.args.end l.sound c.requires.1 c.if-start-end.true

pub returns-else-start-end : goal.returns-else-start-end
returns-else-start-end c =
    let l = c.args.places.now in
    c.class_of.ensures
    ∙ ap class_of c.at.ensures
    ∙ class_single l.input l.bytes.now l.marks.now c.args.start c.args.end l.sound c.requires.1 c.requires.0 c.if-start-end.false
