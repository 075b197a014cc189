-- `discipline::reads::finish` meets its contract. Assumes nothing.
use mathlib.Core.Path.{◌≡◌}
use native.Mathlib.Omega.{arith}
use Rattle.port.specs.Layers.{assembled}
use Rattle.rules.specs.declared.Waiting.TheVariants.{Idle}
use Rattle.discipline.proofs.reads.Laws.{line_given, bytes_given}
use Rattle.discipline.proofs.reads.finish.Goals as goal
use Rattle.discipline.proofs.reads.finish.Goals.{then-p, else-p}

pub returns : goal.returns
returns c =
    let left : c.with_read.result ≡ assembled c.args.p c.if-p.count.rest c.args.p.output Idle = grind arith in
    elim c.if-p.branch [
      | then-p w ↦
          line_given _ _ _ _ _ c.args.places.now.sound c.if-p.count _ _ _ w.if-p.true (rw (w.count-is, w.dst-is) w.read_line.ensures) left
          c.says.ensures
      | else-p w ↦
          bytes_given _ _ _ _ _ c.args.places.now.sound c.if-p.count _ _ _ w.if-p.false (rw (w.count-is, w.dst-is) w.read_bytes.ensures) left
          c.says.ensures
    ]
