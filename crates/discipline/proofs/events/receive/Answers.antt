-- `discipline::events::receive` meets its contract. Assumes nothing.
use native.Mathlib.Omega.{arith}
use Rattle.port.proofs.Calls.{ranged_ready}
use Rattle.discipline.proofs.events.Laws.{received_of}
use Rattle.discipline.proofs.events.receive.Goals as goal

pub received-reported-requires : goal.received-reported-requires
received-reported-requires c = ranged_ready _ _ _ _ _ _ (omega arith) c.in_range-ranged.ensures

pub returns : goal.returns
returns c =
    received_of c.args.p c.args.bytes.now c.args.marks.now c.args.out.now c.args.e _ _ _ _ _ _ _ _ (omega arith) c.in_range-ranged.ensures
    c.received-reported.auto.bytes c.received-reported.auto.marks c.received-reported.ensures c.bytes_in.ensures c.says.ensures
