-- `settings::acceptable` meets its contract. Assumes nothing.
use mathlib.Core.Path.{◌∙◌}
use native.Mathlib.Omega.{arith}
use Rattle.settings.proofs.Pairs.{acceptable_of}
use Rattle.settings.proofs.acceptable.Goals as goal

pub returns-then-not-has : goal.returns-then-not-has
returns-then-not-has c =
    let cs = c.characters-specials in
    (grind arith) ∙ acceptable_of c.args.x cs.result cs.ensures

pub returns-else-not-has : goal.returns-else-not-has
returns-else-not-has c =
    let cs = c.characters-specials in
    (grind arith) ∙ acceptable_of c.args.x cs.result cs.ensures
