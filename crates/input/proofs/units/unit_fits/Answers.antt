-- `input::units::unit_fits` meets its contract. Assumes nothing.
use Prim.Native.Nat.{◌-◌}
use mathlib.Core.Path.{sym, ◌∙◌}
use mathlib.Core.Bool.{false≢true}
use native.Mathlib.Omega.{arith}
use borrow.Author.Tests.{leb-true, leb-false}
use Rattle.input.proofs.Laws.{unit_fits_line, unit_fits_raw, no_line, no_room, room_left, places_left}
use Rattle.input.proofs.units.unit_fits.Goals as goal
use Rattle.input.proofs.units.unit_fits.Goals.{then-u-line, else-u-line, then-current-line, else-current-line}

pub returns-then-u-n : goal.returns-then-u-n
returns-then-u-n c =
    let a = c.args in
    let len = a.i.queue.len in
    unit_fits_line a.i a.n c.requires a.line a.u a.canonical _ c.if-canonical.true
    (elim c.if-current-line.branch [
      | then-current-line w ↦ elim c.if-u-line.branch [
        | then-u-line v ↦ room_left (len - a.i.ready) a.u a.line len a.n (leb-true _ _ (sym v.value-is ∙ w.if-current-line.true)) v.if-u-line.true
            (leb-true _ _ (sym w.value-is ∙ c.if-u-n.true))
        | else-u-line v ↦
            let le = leb-true a.u a.line (sym v.value-is ∙ w.if-current-line.true) in
            absurd (omega arith)
      ]
      | else-current-line w ↦ absurd (false≢true (sym w.if-current-line.false ∙ sym w.value-is ∙ c.if-u-n.true))
    ])

pub returns-else-u-n : goal.returns-else-u-n
returns-else-u-n c =
    let a = c.args in
    let len = a.i.queue.len in
    unit_fits_line a.i a.n c.requires a.line a.u a.canonical _ c.if-canonical.true
    (c.if-u-n.false
    ∙ elim c.if-current-line.branch [
      | then-current-line w ↦ no_room (len - a.i.ready) a.u a.line len a.n (leb-false _ _ (sym w.value-is ∙ c.if-u-n.false))
      | else-current-line w ↦ elim c.if-u-line.branch [
        | then-u-line v ↦
            let few = leb-false _ _ (sym v.value-is ∙ w.if-current-line.false) in
            no_line (len - a.i.ready) a.u a.line _ (omega arith)
        | else-u-line v ↦ no_line (len - a.i.ready) a.u a.line _ (omega arith)
      ]
    ])

pub returns-then-u-n-2 : goal.returns-then-u-n-2
returns-then-u-n-2 c =
    let a = c.args in
    unit_fits_raw a.i a.n c.requires a.line a.u a.canonical _ c.if-canonical.false (places_left a.i.queue.len a.u a.n c.if-u-n-2.true)
