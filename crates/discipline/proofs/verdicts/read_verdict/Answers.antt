-- `discipline::verdicts::read_verdict` meets its contract. Assumes nothing.
use Rattle.port.specs.State.{get}
use Rattle.discipline.proofs.verdicts.read_verdict.Goals as goal

pub returns : goal.returns
unfolding get
returns c = cc
