-- `editing::words::blanks` meets its contract. Assumes nothing.
use Rattle.rules.specs.Editing.{blank}
use Rattle.editing.proofs.words.Laws.{blank_class, blank_unit, cuts_by}
use Rattle.std.proofs.Common.{rules, tests}
use Rattle.editing.proofs.words.blanks.Goals as goal

pub returns : goal.returns
returns c =
    let l = c.args.places.now in
    cuts_by l.input l.bytes.now l.marks.now l.input.queue.len blank_class blank c.trailing.result blank_unit
    (c.trailing.ensures blank_class (λ k r p. search (rules, tests)))
