-- `output::Output::put` meets its contract. Assumes nothing.
use Rattle.output.proofs.Run.{turns, queues_first, queues_more}
use Rattle.output.proofs.Laws.{range_none}
use Rattle.output.specs.declared.expansion.Expansion.{Expansion}
use Rattle.output.specs.expansion.Contract.{expanded_bytes}
use mathlib.Core.List.{[], ◌∷◌}
use mathlib.Core.Path.{◌≡◌, ap}
use lib.ListN.{length}
use native.Mathlib.Omega.{arith}
use Rattle.output.proofs.Output.put.Goals as goal

pub put_byte-requires-in-Pair-2 : goal.put_byte-requires-in-Pair-2
put_byte-requires-in-Pair-2 c =
    let two : length (expanded_bytes c.args.expanded) ≡ 2 = ap (λ (k : Expansion). length (expanded_bytes k)) c.in-Pair.is in
    let one = c.put_byte-in-Pair in
    let first = queues_first c.args.x c.args.self one.result c.args.out.now (13 ∷ []) one.new.out (omega (arith, c.requires)) one.ensures in
    omega (arith, c.requires)

pub returns-in-Nothing : goal.returns-in-Nothing
returns-in-Nothing c =
    turns c.args.x c.args.self c.fit.result c.args.out.now c.args.out.now c.in-Nothing.is
    (range_none c.args.x c.args.self c.fit.result c.args.out.now c.fit.ensures)

pub returns-in-Pair : goal.returns-in-Pair
returns-in-Pair c =
    let two : length (expanded_bytes c.args.expanded) ≡ 2 = ap (λ (k : Expansion). length (expanded_bytes k)) c.in-Pair.is in
    let one = c.put_byte-in-Pair in
    let next = c.put_byte-in-Pair-2 in
    let first = queues_first c.args.x c.args.self one.result c.args.out.now (13 ∷ []) one.new.out (omega (arith, c.requires)) one.ensures in
    turns c.args.x c.args.self next.result c.args.out.now next.new.out c.in-Pair.is
    (queues_more c.args.x c.args.self one.result next.result c.args.out.now (13 ∷ []) one.new.out (10 ∷ []) next.new.out first
    (omega (arith, c.requires)) next.ensures).so
