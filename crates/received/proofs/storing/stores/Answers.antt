-- `received::storing::stores` meets its contract. Assumes nothing.
use Rattle.received.proofs.storing.Laws.{room_for, stored_of, dropped_of}
use Rattle.received.proofs.storing.stores.Goals as goal

pub kept-input-requires : goal.kept-input-requires
kept-input-requires c = room_for _ _ _ _ c.requires _ _ c.fits.ensures c.if-fits.true

pub returns-then-fits : goal.returns-then-fits
returns-then-fits c =
    stored_of _ _ _ _ c.requires _ _ _ _ _ _ _ _ c.fits.ensures c.if-fits.true c.kept-input.ensures c.shown-output.ensures
    c.stored.ensures

pub returns-else-fits : goal.returns-else-fits
returns-else-fits c = dropped_of _ _ _ _ c.requires _ _ _ _ c.fits.ensures c.if-fits.false c.overflow.ensures
