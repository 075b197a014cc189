-- `trace::gathering::keep` meets its contract. Assumes nothing.
use lib.Seq.{set_out}
use native.Mathlib.Omega.{arith}
use mathlib.Core.Path.{sym}
use Rattle.trace.proofs.gathering.keep.Goals as goal

pub returns-else-at-lt517 : goal.returns-else-at-lt517
returns-else-at-lt517 c = sym (set_out c.args.kept.now c.args.at c.args.b (omega arith))
