-- `discipline::verdicts::foreground` meets its contract. Assumes nothing.
use mathlib.Core.Path.{sym, ◌∙◌}
use Rattle.port.specs.State.{get}
use Rattle.discipline.proofs.verdicts.foreground.Goals as goal

pub returns-then-too_large : goal.returns-then-too_large
unfolding get
returns-then-too_large c = simp (sym c.too_large.ensures ∙ c.if-too_large.true) c.refuses.ensures
