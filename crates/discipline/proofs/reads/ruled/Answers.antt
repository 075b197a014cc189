-- `discipline::reads::ruled` meets its contract. Assumes nothing.
use Rattle.discipline.proofs.reads.Laws.{nothing_there, at_once, done_now, waits_on_lem}
use Rattle.discipline.proofs.reads.ruled.Goals as goal

pub returns-then-places-eq0 : goal.returns-then-places-eq0
returns-then-places-eq0 c = nothing_there _ _ _ _ _ c.args.places.now.sound _ _ c.if-nonblocking.true c.if-places-eq0.true c.refuses.ensures

pub returns-else-places-eq0 : goal.returns-else-places-eq0
returns-else-places-eq0 c = at_once _ _ _ _ _ c.args.places.now.sound _ _ _ c.if-nonblocking.true c.if-places-eq0.false c.finish.ensures

pub returns-then-finds : goal.returns-then-finds
returns-then-finds c =
    done_now _ _ _ _ _ c.args.places.now.sound _ _ _ _ c.if-nonblocking.false c.finds.ensures c.if-finds.true c.finish-then-finds.ensures

pub returns-else-finds : goal.returns-else-finds
returns-else-finds c =
    waits_on_lem _ _ _ _ _ c.args.places.now.sound _ _ _ _ _ _ c.if-nonblocking.false c.finds.ensures c.if-finds.false c.begins-begun.ensures
    c.waits-waits.ensures c.with_read.ensures c.says.ensures
