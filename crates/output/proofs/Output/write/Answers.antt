-- `output::Output::write` meets its contract. Assumes nothing.
use Rattle.output.proofs.Run.{SoFar, start, next, full, done, wrote}
use Rattle.output.specs.expansion.Contract.{expanded_bytes}
use lib.ListN.{length}
use mathlib.Core.Path.{◌≡◌}
use native.Mathlib.Nat.{le_antisymm}
use native.Mathlib.Omega.{arith}
use Rattle.output.proofs.Output.write.Goals as goal

pub loop-count-init : goal.loop-count-init
loop-count-init c = start c.args.x c.args.self c.fit-rest.result c.args.out.now c.args.src.now c.fit-rest.ensures

pub returns-then-n-rest : goal.returns-then-n-rest
returns-then-n-rest c =
    let a = c.args in
    let l = c.loop-count in
    wrote a.x a.self c.fit-rest.result a.out.now a.src.now l.count l.rest l.out c.fit-rest.ensures l.invariant
    (full a.x c.fit-rest.result a.out.now a.src.now l.count l.rest l.out (expanded_bytes c.expand-expanded.result) l.invariant
    c.loop-count-test.true c.expand-expanded.ensures (omega arith))

pub loop-count-preserved : goal.loop-count-preserved
loop-count-preserved c =
    let a = c.args in
    let l = c.loop-count in
    next a.x c.fit-rest.result a.out.now a.src.now l.count l.rest l.out (expanded_bytes c.expand-expanded.result) l.invariant
    c.loop-count-test.true c.expand-expanded.ensures c.put-rest.result c.put-rest.new.out (omega arith) c.put-rest.ensures

pub returns : goal.returns
returns c =
    let a = c.args in
    let l = c.loop-count in
    let end : l.count ≡ length a.src.now = le_antisymm l.auto.count-end c.loop-count-test.false in
    let all : SoFar a.x c.fit-rest.result a.out.now a.src.now (length a.src.now) l.rest l.out = rw end at l.invariant in
    wrote a.x a.self c.fit-rest.result a.out.now a.src.now (length a.src.now) l.rest l.out c.fit-rest.ensures all
    (done a.x c.fit-rest.result a.out.now a.src.now l.rest l.out all)
