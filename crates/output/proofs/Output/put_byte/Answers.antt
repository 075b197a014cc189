-- `output::Output::put_byte` meets its contract. Assumes nothing.
use Rattle.output.proofs.Laws.{pushed}
use Rattle.output.proofs.Output.put_byte.Goals as goal

pub returns : goal.returns
returns c =
    pushed c.args.x c.args.self c.args.out.now c.push.new.ring c.push.result c.args.b c.next_column.result
    c.requires c.next_column.ensures c.push.ensures
