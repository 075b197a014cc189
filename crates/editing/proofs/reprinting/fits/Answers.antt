-- `editing::reprinting::fits` meets its contract. Assumes nothing.
use Rattle.editing.proofs.reprinting.Laws.{fits_if}
use mathlib.Core.Path.{◌∙◌}
use Rattle.editing.proofs.reprinting.fits.Goals as goal

pub returns : goal.returns
returns c =
    let a = c.args in
    c.is_some.ensures
    ∙ fits_if a.x a.places.now.input a.places.now.bytes.now a.places.now.marks.now a.o a.size a.b c.line_measured.result c.line_measured.ensures
