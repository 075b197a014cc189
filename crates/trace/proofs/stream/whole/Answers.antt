-- `trace::stream::whole` meets its contract. Assumes nothing.
use Rattle.trace.proofs.stream.WholeInput.{running_begins, running_next, running_done}
use mathlib.Core.Path.{◌≡◌, refl}
use native.Mathlib.Omega.{arith}
use borrow.Author.Rules.{rules}
use lib.ListN.{length}
use lib.Seq.{take_all}
use Rattle.trace.proofs.stream.whole.Goals as goal

pub loop-rest-init : goal.loop-rest-init
loop-rest-init c =
    let all = take_all (length c.args.input.now) c.args.input.now (omega arith) in
    running_begins (grind arith) c.start-stream.ensures refl refl refl

pub loop-rest-preserved : goal.loop-rest-preserved
loop-rest-preserved c =
    let same = c.feed-fed.auto in
    running_next c.loop-rest.invariant same.bytes same.marks same.out c.feed-fed.ensures

pub returns : goal.returns
returns c =
    let none : length c.loop-rest.rest.now ≡ 0 = grind arith in
    search (rules, running_done c.loop-rest.invariant)
