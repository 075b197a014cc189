-- `editing::classes::entry` meets its contract: the rule of the whole table (Rule, `entry_at`), whose test is computed. Assumes nothing.
use borrow.Author.Rules.{rules}
use Rattle.editing.proofs.classes.Rule.{entry_at}
use Rattle.editing.proofs.classes.entry.Goals as goal

pub returns : goal.returns
returns c = search (entry_at, rules)
