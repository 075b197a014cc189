-- `input::reading::read_line` meets its contract. Assumes nothing.
use Rattle.input.proofs.reading.Laws.{line_gives, line_reads}
use Rattle.input.proofs.reading.read_line.Goals as goal

pub give-requires : goal.give-requires
give-requires c =
    line_gives c.args.i c.args.bytes.now c.args.marks.now c.requires c.args.dst.now c.first_line-line.result
    c.first_line-line.ensures

pub returns : goal.returns
returns c =
    let at_give = c.give in
    let at-first-line = c.first_line-line in
    line_reads c.args.i c.args.bytes.now c.args.marks.now c.requires c.args.dst.now at_give.new.dst at_give.result
    at-first-line.result at-first-line.ensures at_give.ensures
