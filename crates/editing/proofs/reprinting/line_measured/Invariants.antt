use Prim.Native.Nat.{◌-◌, min}
use Rattle.output.specs.columns.Contract.{Behind}
use Rattle.editing.specs.reprinting.Contract.{reprinted}
use Rattle.editing.proofs.reprinting.line_measured.Given as goal

abbrev pub invariant-loop-k : goal.invariant-loop-k
invariant-loop-k l =
    Behind l.x (l.fn.size - min l.fn.o.queue.len l.fn.size) l.fn.o.column
    (reprinted l.x l.places.input l.places.bytes.now l.places.marks.now l.fn.b l.k) l.measure
