-- `discipline::changes::set` meets its contract. Assumes nothing.
use Rattle.std.proofs.Common.{rules}
use native.Mathlib.Omega.{arith}
use Rattle.discipline.proofs.changes.Laws.{set_waits, set_good, set_bad}
use Rattle.discipline.proofs.changes.set.Goals as goal

pub returns-then-a_read_waits : goal.returns-then-a_read_waits
returns-then-a_read_waits c = set_waits _ _ _ _ _ _ c.a_read_waits.ensures c.if-a_read_waits.true c.refuses.ensures

pub returns-then-not-acceptable : goal.returns-then-not-acceptable
returns-then-not-acceptable c =
    set_bad _ _ _ _ _ _ c.a_read_waits.ensures _ c.acceptable.ensures c.if-a_read_waits.false (search rules)
    c.refuses-then-not-acceptable.ensures

pub returns : goal.returns
returns c =
    set_good _ _ _ _ _ _ c.a_read_waits.ensures _ c.acceptable.ensures _ _ _ _ _ _ _ c.if-a_read_waits.false (search rules) (omega arith)
    c.fit.ensures c.change_input-input.auto.bytes c.change_input-input.auto.marks c.change_input-input.ensures
    c.change_output-output.ensures c.with_settings.ensures c.says.ensures
