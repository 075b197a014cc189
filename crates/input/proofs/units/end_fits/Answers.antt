-- `input::units::end_fits` meets its contract. Assumes nothing.
use mathlib.Core.Path.{refl}
use Rattle.input.proofs.Laws.{end_fits_of}
use Rattle.input.proofs.units.end_fits.Goals as goal

pub returns : goal.returns
returns c = end_fits_of c.args.i c.args.n c.requires _ refl
