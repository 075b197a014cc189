-- `output::Output::put_spaces` meets its contract. Assumes nothing.
use Rattle.rules.specs.Sizes.{Output as Ruled}
use Rattle.rules.specs.Output.{queued}
use Rattle.output.proofs.Laws.{range_len, via_range}
use Rattle.output.proofs.Run.{queues_none, queues_more}
use Rattle.std.proofs.lemmas.List.{replicate-append-replicate}
use mathlib.Core.List.{[], ◌∷◌}
use mathlib.Core.Path.{◌≡◌}
use lib.ListN.{replicate, length-replicate}
use native.Mathlib.Nat.{le_antisymm}
use native.Mathlib.Omega.{arith}
use Prim.Native.Nat.{ℕ}
use Rattle.output.proofs.Output.put_spaces.Goals as goal

pub loop-init : goal.loop-init
loop-init c = queues_none c.args.x c.args.self c.fit-o.result c.args.out.now c.fit-o.ensures

pub put_byte-o-requires : goal.put_byte-o-requires
put_byte-o-requires c =
    let n = range_len c.args.x c.args.self c.fit-o.result c.args.out.now c.fit-o.ensures in
    omega (arith, c.requires, length-replicate {A = ℕ} c.loop.counter 32)

pub loop-preserved : goal.loop-preserved
loop-preserved c =
    let n = range_len c.args.x c.args.self c.fit-o.result c.args.out.now c.fit-o.ensures in
    rw (← replicate-append-replicate {A = ℕ} c.loop.counter 1 32)
    (queues_more c.args.x c.fit-o.result c.loop.o c.put_byte-o.result c.args.out.now (replicate c.loop.counter 32) c.loop.out (32 ∷ [])
    c.put_byte-o.new.out c.loop.invariant (omega (arith, c.requires, length-replicate {A = ℕ} c.loop.counter 32)) c.put_byte-o.ensures)

pub returns : goal.returns
returns c =
    let end : c.loop.counter ≡ c.args.n = le_antisymm c.loop.auto.counter-end c.loop-test.false in
    via_range c.args.self c.fit-o.result c.loop.o c.args.out.now c.loop.out (λ (w : Ruled). queued c.args.x w (replicate c.args.n 32))
    c.fit-o.ensures (rw end at c.loop.invariant.so)
