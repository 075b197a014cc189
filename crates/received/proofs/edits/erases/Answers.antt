-- `received::edits::erases` meets its contract. Assumes nothing.
use Rattle.std.proofs.Common.{rules, refl}
use Rattle.rules.specs.Editing.{erase, word_erase}
use Rattle.echo.specs.Contract.{erased_echo}
use Rattle.received.proofs.edits.Laws.{removed_as}
use Rattle.received.proofs.edits.erases.Goals as goal

pub returns : goal.returns
returns c =
    let shows = erased_echo c.args.p.settings c.args.b in (
      removed_as _ _ _ c.requires _ _ erase _ _ _ _ shows (λ z s b. refl) (λ k us. refl) refl (λ o k. search rules) c.removes.ensures,
      removed_as _ _ _ c.requires _ _ word_erase _ _ _ _ shows (λ z s b. refl) (λ k us. refl) refl (λ o k. search rules) c.removes.ensures,
    )
