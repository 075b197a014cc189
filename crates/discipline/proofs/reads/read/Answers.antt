-- `discipline::reads::read` meets its contract. Assumes nothing.
use native.Mathlib.Omega.{arith}
use Rattle.discipline.proofs.reads.Laws.{read_of}
use Rattle.discipline.proofs.reads.read.Goals as goal

pub returns : goal.returns
returns c = read_of c.args.p c.args.bytes.now c.args.marks.now _ _ _ _ _ _ (omega arith) (grind arith) c.ordered.ensures
