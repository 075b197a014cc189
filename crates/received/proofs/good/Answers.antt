-- `received::good` meets its contract. Assumes nothing.
use Rattle.received.proofs.GoodByte.{good_of}
use Rattle.received.proofs.good.Goals as goal

pub returns : goal.returns
returns c =
    good_of c.args.p _ _ _ c.args.b _ _ _ _ _ _ _ _ c.stripped.ensures c.means-meaning.ensures c.begins.ensures
    c.tells-outcome.ensures c.carries-port.ensures
