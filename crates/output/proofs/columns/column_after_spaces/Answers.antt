-- `output::columns::column_after_spaces` meets its contract. Assumes nothing.
use Rattle.output.proofs.columns.Columns.{spaces_next}
use Rattle.output.proofs.columns.column_after_spaces.Goals as goal

pub loop-preserved : goal.loop-preserved
loop-preserved c = spaces_next c.args.x c.args.c c.loop.counter c.loop.column c.next_column-column.result c.loop.invariant c.next_column-column.ensures
