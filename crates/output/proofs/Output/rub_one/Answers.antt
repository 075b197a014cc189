-- `output::Output::rub_one` meets its contract. Assumes nothing.
use Rattle.output.proofs.Run.{queues_first, queues_more}
use mathlib.Core.List.{[], ◌∷◌}
use native.Mathlib.Omega.{arith}
use Rattle.output.proofs.Output.rub_one.Goals as goal

pub put_byte-requires-2 : goal.put_byte-requires-2
put_byte-requires-2 c =
    let o = c.args.self in
    let p = c.put_byte in
    let back = queues_first c.args.x o p.result c.args.out.now (8 ∷ []) p.new.out (omega (arith, c.requires)) p.ensures in
    omega (arith, c.requires)

pub put_byte-requires-3 : goal.put_byte-requires-3
put_byte-requires-3 c =
    let o = c.args.self in
    let p = c.put_byte in
    let q = c.put_byte-2 in
    let l = c.args.out.now in
    let back = queues_first c.args.x o p.result l (8 ∷ []) p.new.out (omega (arith, c.requires)) p.ensures in
    let blank = queues_more c.args.x o p.result q.result l (8 ∷ []) p.new.out (32 ∷ []) q.new.out back (omega (arith, c.requires)) q.ensures in
    omega (arith, c.requires)

pub returns : goal.returns
returns c =
    let o = c.args.self in
    let p = c.put_byte in
    let q = c.put_byte-2 in
    let r = c.put_byte-3 in
    let l = c.args.out.now in
    let back = queues_first c.args.x o p.result l (8 ∷ []) p.new.out (omega (arith, c.requires)) p.ensures in
    let blank = queues_more c.args.x o p.result q.result l (8 ∷ []) p.new.out (32 ∷ []) q.new.out back (omega (arith, c.requires)) q.ensures in
    (queues_more c.args.x o q.result r.result l (8 ∷ 32 ∷ []) q.new.out (8 ∷ []) r.new.out blank (omega (arith, c.requires)) r.ensures).so
