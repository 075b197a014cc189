-- `input::Input::add` meets its contract. Assumes nothing.
use Rattle.input.proofs.Laws.{added_one}
use Rattle.input.proofs.Input.add.Goals as goal

pub returns : goal.returns
returns c =
    let at-push2 = c.push in
    let at_push = c.push-queue in
    added_one c.args.self at_push.result at-push2.result c.args.bytes.now c.args.marks.now at_push.new.ring at-push2.new.ring
    c.args.b c.args.m c.requires at_push.ensures at-push2.ensures
