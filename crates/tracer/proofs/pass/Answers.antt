-- `tracer::pass` meets its contract: each turn feeds what is left of the piece. Assumes nothing.
use Rattle.std.proofs.Common.{length, ◌∙◌}
use native.Mathlib.Omega.{arith}
use lib.Seq.{take_all}
use Rattle.trace.proofs.stream.Pieces.{passing_begins, passing_next, passing_done}
use Rattle.tracer.proofs.pass.Goals as goal

pub loop-rest-init : goal.loop-rest-init
loop-rest-init g c =
    let all = take_all (length c.args.piece.now) c.args.piece.now (omega arith) in
    record { fed = passing_begins (grind arith); room = grind arith }

pub loop-rest-preserved : goal.loop-rest-preserved
loop-rest-preserved g c =
    record {
      fed = passing_next c.loop-rest.invariant.fed c.feed-fed.ensures;
      room = c.feed-fed.auto.line ∙ c.loop-rest.invariant.room;
    }

pub returns : goal.returns
returns g c = passing_done c.loop-rest.invariant.fed (grind arith)
