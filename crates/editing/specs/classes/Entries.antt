-- The byte that stands for a class in the table: b, l, c, o.
use Rattle.std.specs.Prelude.{ℕ}
use Rattle.rules.specs.declared.Class.{Class}
use Rattle.rules.specs.declared.Class.TheVariants.{Blank, Letter, Control, Other}

abbrev pub entry_of : Class → ℕ
entry_of Blank = 98
entry_of Letter = 108
entry_of Control = 99
entry_of Other = 111
