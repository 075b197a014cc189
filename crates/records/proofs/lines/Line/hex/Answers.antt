-- `records::lines::Line::hex` meets its contract: the first bytes are laid as two digits each, and then the next. Assumes nothing.
use mathlib.Core.Path.{ap}
use mathlib.Core.List.{[], ◌∷◌}
use Prim.Native.Nat.{ℕ}
use Rattle.records.proofs.lines.Lines.{laid, laid_as}
use Rattle.records.proofs.lines.Hex.{hex_more}
use Rattle.records.proofs.lines.Line.hex.Goals as goal

pub loop-b-preserved : goal.loop-b-preserved
loop-b-preserved c =
    let w = c.loop-b in
    laid_as (hex_more c.args.bytes.now w.b-index c.loop-b-test.true)
    (laid w.invariant (laid
    (laid_as (ap (λ (d : ℕ). d ∷ []) c.hex_digit.ensures) c.byte-in-loop-b.ensures)
    (laid_as (ap (λ (d : ℕ). d ∷ []) c.hex_digit-in-loop-b.ensures) c.byte-in-loop-b-2.ensures)))
