-- `input::units::store` meets its contract. Assumes nothing.
use Rattle.input.specs.Contract.{unit_of}
use Rattle.input.proofs.Laws.{stores_current, stores_finished}
use Rattle.input.proofs.units.store.Goals as goal

pub returns-then-canonical : goal.returns-then-canonical
returns-then-canonical c =
    let a = c.add_unit-longer in
    stores_current c.args.i a.result c.args.bytes.now c.args.marks.now a.new.bytes a.new.marks (unit_of c.args.u)
    c.requires.same c.requires.within a.ensures c.args.canonical c.if-canonical.true

pub returns-else-canonical : goal.returns-else-canonical
returns-else-canonical c =
    let a = c.add_unit-longer in
    stores_finished c.args.i a.result c.args.bytes.now c.args.marks.now a.new.bytes a.new.marks (unit_of c.args.u)
    c.requires.same c.requires.within a.ensures c.args.canonical c.all_ready.result c.if-canonical.false c.all_ready.ensures
