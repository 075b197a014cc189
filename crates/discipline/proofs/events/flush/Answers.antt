-- `discipline::events::flush` meets its contract. Assumes nothing.
use Rattle.std.proofs.Common.{rules}
use native.Mathlib.Omega.{arith}
use Rattle.port.proofs.Calls.{ranged_ranged}
use Rattle.discipline.proofs.events.Laws.{flush_1, flush_2, flush_3}
use Rattle.discipline.proofs.events.flush.Goals as goal

pub flush_input-requires : goal.flush_input-requires
flush_input-requires c = ranged_ranged c.args.p c.args.bytes.now c.args.marks.now c.args.out.now _ _ (omega arith) c.in_range-ranged.ensures

pub flush_both-requires : goal.flush_both-requires
flush_both-requires c = ranged_ranged c.args.p c.args.bytes.now c.args.marks.now c.args.out.now _ _ (omega arith) c.in_range-ranged.ensures

pub returns-in-Ok-Input : goal.returns-in-Ok-Input
returns-in-Ok-Input c =
    flush_1 c.args.p c.args.bytes.now c.args.marks.now c.args.out.now _ _ (omega arith) c.in_range-ranged.ensures c.args.choice _ _ (search rules)
    c.flush_input.ensures c.says.ensures

pub returns-in-Ok-Output : goal.returns-in-Ok-Output
returns-in-Ok-Output c =
    flush_2 c.args.p c.args.bytes.now c.args.marks.now c.args.out.now _ _ (omega arith) c.in_range-ranged.ensures c.args.choice _ _ (search rules)
    c.flush_output.ensures c.says-in-Ok-Output.ensures

pub returns-in-Ok-Both : goal.returns-in-Ok-Both
returns-in-Ok-Both c =
    flush_3 c.args.p c.args.bytes.now c.args.marks.now c.args.out.now _ _ (omega arith) c.in_range-ranged.ensures c.args.choice _ _ (search rules)
    c.flush_both.ensures c.says-in-Ok-Both.ensures
