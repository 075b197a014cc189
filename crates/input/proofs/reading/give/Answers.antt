-- `input::reading::give` meets its contract. Assumes nothing.
use Rattle.input.proofs.reading.Laws.{given_of_lem}
use Rattle.input.proofs.reading.give.Goals as goal

pub returns : goal.returns
returns c =
    let at_take = c.take in
    given_of_lem c.args.i c.args.bytes.now c.args.dst.now c.args.count c.args.taken c.drop_oldest.result at_take.result
    at_take.new.dst c.requires at_take.ensures c.drop_oldest.ensures
