-- `editing::words::word` meets its contract. Assumes nothing.
use mathlib.Core.Bool.{not}
use mathlib.Core.Path.{ap}
use native.Mathlib.Omega.{arith}
use Rattle.std.proofs.Common.{rules, tests}
use Rattle.rules.specs.Editing.{blank}
use Rattle.editing.proofs.words.Laws.{blank_class, blank_unit, cuts_by, word_of}
use Rattle.editing.proofs.words.word.Goals as goal

pub overflow_add-result : goal.overflow_add-result
overflow_add-result c =
    omega (arith, (c.trailing-rest.ensures (λ k. not (blank_class k)) (λ k r p. search (rules, tests))).fewer)

pub returns : goal.returns
returns c =
    let l = c.args.places.now in
    let rest = c.trailing-rest in
    word_of l.input l.bytes.now l.marks.now l.input.queue.len c.blanks-blanks.result c.blanks-blanks.ensures rest.result
    (cuts_by l.input l.bytes.now l.marks.now c.blanks-blanks.result.at (λ k. not (blank_class k)) (λ u. not (blank u)) rest.result
    (λ u. ap not (blank_unit u)) (rest.ensures (λ k. not (blank_class k)) (λ k r p. search (rules, tests))))
