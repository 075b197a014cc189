-- `discipline::sending::transmit` meets its contract. Assumes nothing.
use Rattle.discipline.proofs.sending.Laws.{sent_of}
use Rattle.discipline.proofs.sending.transmit.Goals as goal

pub returns : goal.returns
returns c = sent_of _ _ _ _ _ _ _ c.transmit-count.ensures c.with_output.ensures c.says.ensures
