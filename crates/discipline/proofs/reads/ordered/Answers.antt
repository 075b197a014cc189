-- `discipline::reads::ordered` meets its contract. Assumes nothing.
use Rattle.discipline.proofs.reads.Laws.{hung_read, clash_read, none_read, ruled_read}
use Rattle.discipline.proofs.reads.ordered.Goals as goal

pub returns-then-p : goal.returns-then-p
returns-then-p c = hung_read _ _ _ _ _ c.args.places.now.sound _ _ _ c.if-p.true c.with_read.ensures c.says.ensures

pub returns-then-clashes : goal.returns-then-clashes
returns-then-clashes c =
    clash_read _ _ _ _ _ c.args.places.now.sound _ _ _ c.if-p.false c.clashes.ensures c.if-clashes.true c.refuses.ensures

pub returns-then-n-eq0 : goal.returns-then-n-eq0
returns-then-n-eq0 c =
    none_read _ _ _ _ _ c.args.places.now.sound _ _ _ _ c.if-p.false c.clashes.ensures c.if-clashes.false c.if-n-eq0.true
    c.with_read-then-n-eq0.ensures c.says-then-n-eq0.ensures

pub returns-else-n-eq0 : goal.returns-else-n-eq0
returns-else-n-eq0 c =
    ruled_read _ _ _ _ _ c.args.places.now.sound _ _ _ _ c.if-p.false c.clashes.ensures c.if-clashes.false c.if-n-eq0.false c.ruled.ensures
