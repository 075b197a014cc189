-- `editing::last_unit` meets its contract. Assumes nothing.
use lib.ListN.{length}
use Prim.Native.Nat.{min}
use Rattle.editing.proofs.Laws.{removes_of}
use Rattle.editing.proofs.last_unit.Goals as goal

pub returns : goal.returns
returns c =
    λ bs e. removes_of c.args.i bs c.args.marks.now (λ us. min 1 (length us)) c.one.result e c.requires (c.one.ensures bs e)
