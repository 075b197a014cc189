-- `output::Output::transmit` meets its contract. Assumes nothing.
use Rattle.output.proofs.Sending.{sent_stopped, sent_some}
use Rattle.output.proofs.Output.transmit.Goals as goal

pub returns-then-self : goal.returns-then-self
returns-then-self c = sent_stopped c.args.self c.fit.result c.args.out.now c.args.dst.now c.if-self.true c.fit.ensures

pub returns : goal.returns
returns c =
    sent_some c.args.self c.args.out.now c.args.dst.now c.take-count.new.dst c.take-count.result c.if-self.false c.take-count.ensures
