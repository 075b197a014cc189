-- `discipline::sending::write` meets its contract. Assumes nothing.
use Rattle.discipline.proofs.sending.Laws.{hung_of, none_of, some_of, counted_none}
use Rattle.discipline.proofs.sending.write.Goals as goal

pub returns-then-p : goal.returns-then-p
returns-then-p c = hung_of _ _ _ _ c.refuses.ensures c.if-p.true

pub returns-then-nothing_taken : goal.returns-then-nothing_taken
returns-then-nothing_taken c =
    none_of _ _ _ _ _ c.write-count.ensures c.if-p.false _ _ c.refuses-then-nothing_taken.ensures c.nothing_taken.ensures
    c.if-nothing_taken.true (counted_none _ _ _ c.nothing_taken.ensures c.if-nothing_taken.true)

pub returns : goal.returns
returns c =
    some_of _ _ _ _ _ c.write-count.ensures c.if-p.false _ _ _ c.with_output.ensures c.says.ensures c.nothing_taken.ensures
    c.if-nothing_taken.false
