-- `output::Output::show` meets its contract. Assumes nothing.
use Rattle.output.proofs.Run.{shows, shows_nothing}
use Rattle.output.proofs.Output.show.Goals as goal

pub returns-in-Some : goal.returns-in-Some
returns-in-Some c =
    shows c.args.x c.args.self c.args.out.now c.args.bytes.now c.in-Some.field-0 (c.in-Some.ensures _ _ _ (c.measure.ensures c.args.x))
    c.write.result c.write.new.out c.write.ensures

pub returns-in-None : goal.returns-in-None
returns-in-None c =
    shows_nothing c.args.x c.args.self c.fit.result c.args.out.now c.args.bytes.now (c.in-None.ensures _ _ _ (c.measure.ensures c.args.x))
    c.fit.ensures
