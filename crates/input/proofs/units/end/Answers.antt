-- `input::units::end` meets its contract. Assumes nothing.
use Rattle.rules.specs.Sizes.{delimiter}
use Rattle.input.proofs.Laws.{ends_line}
use Rattle.input.proofs.units.end.Goals as goal

pub returns : goal.returns
returns c =
    let a = c.add in
    ends_line c.args.i a.result c.all_ready.result c.args.bytes.now c.args.marks.now a.new.bytes a.new.marks
    (delimiter c.args.b) c.requires a.ensures c.all_ready.ensures
