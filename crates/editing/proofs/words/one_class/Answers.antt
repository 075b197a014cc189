-- `editing::words::one_class` meets its contract. Assumes nothing.
use mathlib.Core.Bool.{true, false, not, ◌&&◌}
use mathlib.Core.Path.{sym, ◌∙◌}
use Rattle.std.proofs.Common.{rules, tests}
use Rattle.editing.specs.words.Contract.{places_of}
use Rattle.editing.proofs.words.Laws.{blank_class, letter_class, blank_unit, letter_unit, asked_letter, class_before}
use Rattle.editing.proofs.words.one_class.Goals as goal

pub returns-then-eq : goal.returns-then-eq
returns-then-eq c =
    let l = c.args.places.now in
    class_before l.input l.bytes.now l.marks.now c.args.end c.unit_start-start.result true c.trailing.result l.sound.same c.unit_start-start.ensures
    (sym c.if-eq.true ∙ asked_letter (places_of l c.unit_start-start.result c.args.end) _ _ c.eq.ensures c.class_at.ensures)
    letter_class letter_unit (c.trailing.ensures letter_class (λ k r p. search (rules, tests)))

pub returns-else-eq : goal.returns-else-eq
returns-else-eq c =
    let l = c.args.places.now in
    class_before l.input l.bytes.now l.marks.now c.args.end c.unit_start-start.result false c.trailing-else-eq.result l.sound.same c.unit_start-start.ensures
    (sym c.if-eq.false ∙ asked_letter (places_of l c.unit_start-start.result c.args.end) _ _ c.eq.ensures c.class_at.ensures)
    (λ k. not (letter_class k) && not (blank_class k)) (λ u. rw (letter_unit u, blank_unit u))
    (c.trailing-else-eq.ensures (λ k. not (letter_class k) && not (blank_class k)) (λ k r p. search (rules, tests)))
