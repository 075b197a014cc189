-- So far the piece is fed but for `rest`, and the line's buffer is as long as it was.
use Rattle.std.proofs.Common.{length, ◌≡◌}
use Rattle.trace.specs.Numbers.{most_line}
use Rattle.trace.proofs.stream.Pieces.{Passing}
use Rattle.tracer.proofs.pass.Given as goal

abbrev pub invariant-loop-rest : goal.invariant-loop-rest
invariant-loop-rest g l =
    record {
      fed : Passing l.initial.stream l.initial.bytes l.initial.marks l.initial.out l.initial.kept l.piece l.rest l.stream l.bytes l.marks l.out l.kept;
      room : length l.line ≡ most_line;
    }

abbrev pub decreases-loop-rest : goal.decreases-loop-rest
decreases-loop-rest g l = length l.rest
