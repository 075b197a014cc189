-- `settings::has` meets its contract. Assumes nothing.
use Rattle.std.proofs.Common.{rules, tests}
use mathlib.Core.Path.{sym, ◌∙◌}
use Rattle.std.proofs.lemmas.Iterator.{YieldsList-from_slice}
use Rattle.std.proofs.lemmas.Iterator.Search.{any_from_yields_List}
use Rattle.rules.specs.Settings.{is}
use Rattle.settings.proofs.Pairs.{elem_any}
use Rattle.settings.proofs.has.Goals as goal

pub returns : goal.returns
returns c =
    let cs = c.args.specials.now in
    any_from_yields_List (is c.args.b) _ _ c.any.result c.any.ensures.ran (YieldsList-from_slice cs cc) (λ x t q k. search (rules, tests))
    ∙ sym (elem_any c.args.b cs)
