-- `output::Output::bell` meets its contract. Assumes nothing.
use Rattle.output.proofs.Laws.{fits_of, full_of}
use mathlib.Core.List.{[], ◌∷◌}
use native.Mathlib.Omega.{arith}
use Rattle.output.proofs.Output.bell.Goals as goal

pub returns-then-o-n : goal.returns-then-o-n
returns-then-o-n c =
    fits_of c.args.x c.args.self c.fit-o.result c.args.out.now c.fit-o.ensures c.put_byte.result c.put_byte.new.out (7 ∷ []) (omega arith)
    c.put_byte.ensures

pub returns-else-o-n : goal.returns-else-o-n
returns-else-o-n c = full_of c.args.x c.args.self c.fit-o.result c.args.out.now c.fit-o.ensures (7 ∷ []) (omega arith)
