-- `received::edits::kills` meets its contract. Assumes nothing.
use Rattle.std.proofs.Common.{rules, refl}
use Rattle.rules.specs.Editing.{kill}
use Rattle.echo.specs.Contract.{killed_echo}
use Rattle.received.proofs.edits.Laws.{removed_as}
use Rattle.received.proofs.edits.kills.Goals as goal

pub returns : goal.returns
returns c =
    removed_as _ _ _ c.requires _ _ kill _ _ _ _ (killed_echo c.args.p.settings c.args.b) (λ z s b. refl) (λ k us. refl) refl
    (λ o k. search rules) c.removes.ensures
