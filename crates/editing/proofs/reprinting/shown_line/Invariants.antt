use Rattle.editing.proofs.reprinting.Laws.{Showing}
use Rattle.editing.proofs.reprinting.shown_line.Given as goal

abbrev pub invariant-loop-k : goal.invariant-loop-k
invariant-loop-k l = Showing l.x l.places.input l.places.bytes.now l.places.marks.now l.initial.shows l.initial.out l.k l.shows l.out
