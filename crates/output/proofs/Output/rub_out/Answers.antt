-- `output::Output::rub_out` meets its contract. Assumes nothing.
use Rattle.rules.specs.Echo.{rubout}
use Rattle.rules.specs.Output.{queued}
use Rattle.output.specs.Contract.{get, OutputBecomes}
use Rattle.output.proofs.Run.{rubout_plain, rubout_snoc, rubout_length, queues_none, queues_more}
use Rattle.output.proofs.Laws.{range_len, fits_of, full_of}
use mathlib.Core.List.{[], ◌∷◌}
use mathlib.Core.Path.{◌≡◌}
use native.Mathlib.Nat.{le_antisymm}
use native.Mathlib.Omega.{arith}
use Rattle.output.proofs.Output.rub_out.Goals as goal

pub returns-then-size-o : goal.returns-then-size-o
returns-then-size-o c =
    let a = c.args in
    let n = range_len a.x a.self c.fit-o.result a.out.now c.fit-o.ensures in
    rw (rubout_plain a.x a.self.column a.n)
    (full_of a.x a.self c.fit-o.result a.out.now c.fit-o.ensures (rubout a.n) (omega (arith, rubout_length a.n)))

pub loop-init : goal.loop-init
loop-init c = queues_none c.args.x c.args.self c.fit-o.result c.args.out.now c.fit-o.ensures

pub rub_one-o-requires : goal.rub_one-o-requires
rub_one-o-requires c = omega (arith, rubout_length c.loop.counter)

pub loop-preserved : goal.loop-preserved
loop-preserved c =
    rw (rubout_snoc c.loop.counter)
    (queues_more c.args.x c.fit-o.result c.loop.o c.rub_one-o.result c.args.out.now (rubout c.loop.counter) c.loop.out (8 ∷ 32 ∷ 8 ∷ [])
    c.rub_one-o.new.out c.loop.invariant (omega (arith, rubout_length c.loop.counter)) c.rub_one-o.ensures)

pub returns : goal.returns
returns c =
    let a = c.args in
    let n = range_len a.x a.self c.fit-o.result a.out.now c.fit-o.ensures in
    let end : c.loop.counter ≡ a.n = le_antisymm c.loop.auto.counter-end c.loop-test.false in
    let all : OutputBecomes c.fit-o.result a.out.now (queued a.x (get c.fit-o.result a.out.now) (rubout a.n)) c.loop.o c.loop.out =
    rw end at c.loop.invariant.so in
    rw (rubout_plain a.x a.self.column a.n)
    (fits_of a.x a.self c.fit-o.result a.out.now c.fit-o.ensures c.loop.o c.loop.out (rubout a.n) (omega (arith, rubout_length a.n, n)) all)
