-- `input::reading::read_bytes` meets its contract. Assumes nothing.
use Rattle.input.proofs.reading.Laws.{bytes_reads}
use Rattle.input.proofs.reading.read_bytes.Goals as goal

pub returns : goal.returns
returns c =
    bytes_reads c.args.i c.args.bytes.now c.args.dst.now c.min-k.result c.give.result c.give.new.dst c.requires c.min-k.ensures c.give.ensures
