-- The meanings of the code as meanings of the rules, which also say what a byte shows.
use Rattle.rules.specs.declared.Settings.{Settings}
use Rattle.rules.specs.Sizes.{Sizes, State}
use Rattle.rules.specs.Editing.{erase, word_erase, kill, reprint}
use Rattle.rules.specs.Editing as rule
use Rattle.rules.specs.Echo.{echo_of, stored_echo}
use Rattle.rules.specs.Received.{literal_next, signals, stops, starts, drops, edits, ends, marks, plainly}
use Rattle.rules.specs.Received as steps
use Rattle.received.specs.declared.meaning.Edit.{Edit}
use Rattle.received.specs.declared.meaning.Edit.TheVariants.{Erase, WordErase, Kill, Reprint}
use Rattle.received.specs.declared.meaning.Meaning.{Meaning}
use Rattle.received.specs.declared.meaning.Meaning.TheVariants.{LiteralNext, Signals, Stops, Starts, Drops, Edits, Ends, Marks, Stores}

abbrev pub edit_of : Edit → rule.Edit
edit_of Erase = erase
edit_of WordErase = word_erase
edit_of Kill = kill
edit_of Reprint = reprint

abbrev pub meaning_of : Settings → Meaning → steps.Meaning
meaning_of x LiteralNext = literal_next
meaning_of x (Signals g b) = signals g (echo_of x b)
meaning_of x Stops = stops
meaning_of x Starts = starts
meaning_of x Drops = drops
meaning_of x (Edits e b) = edits (edit_of e) b
meaning_of x (Ends b) = ends b (stored_echo x b)
meaning_of x Marks = marks
meaning_of x (Stores b) = plainly x b

-- it is carried out
abbrev pub carry_of : Meaning → Sizes → State → State
carry_of m z s = (steps.carry z s (meaning_of s.settings m)).0
