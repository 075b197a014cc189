-- Document 01, 'Editing': how many units of the current line are removed. Lists of units are newest first.
use Rattle.std.specs.Prelude.{ℕ, suc, ◌+◌, min, Bool, true, false, not, ◌&&◌, cond, List, [], ◌∷◌, ◌++◌, reverse, length, drop}
use Rattle.rules.specs.Types.{Settings}
use Rattle.rules.specs.Classes.{is_blank, is_letter}
use Rattle.rules.specs.Sizes.{Place, Input}

-- The units of a line, newest first; in a unit its places are oldest first.
abbrev pub joined : Place → List (List Place) → List (List Place)
joined p [] = (p ∷ []) ∷ []
joined p (u ∷ us) = (u ++ p ∷ []) ∷ us

abbrev pub units : List Place → List (List Place)
units [] = []
units (p ∷ ps) = cond p.starts ((p ∷ []) ∷ units ps) (joined p (units ps))

-- and back: the line, newest place first
abbrev pub places_of : List (List Place) → List Place
places_of [] = []
places_of (u ∷ us) = reverse u ++ places_of us

-- the line without its n last units
abbrev pub without_units : ℕ → List Place → List Place
without_units n line = places_of (drop n (units line))

-- 'A unit of several bytes is a non-blank of the second class.'
abbrev pub single : (ℕ → Bool) → List Place → Bool
single test [] = false
single test (p ∷ []) = test p.byte
single test (p ∷ q ∷ ps) = false

abbrev pub blank : List Place → Bool
blank u = single is_blank u

-- the first class: 'letters and underscore'
abbrev pub letter : List Place → Bool
letter u = single is_letter u

-- how many units from the end pass the test, one after another
abbrev pub trailing : (List Place → Bool) → List (List Place) → ℕ
trailing test [] = 0
trailing test (u ∷ us) = cond (test u) (suc (trailing test us)) 0

-- 'WERASE removes trailing blanks (32, 9), then the run of non-blanks.'
abbrev pub word : List (List Place) → ℕ
word us =
    let blanks : ℕ = trailing blank us in
    blanks + trailing (λ u. not (blank u)) (drop blanks us)

-- 'the longest run of non-blanks of one class, letters and underscore or all others, the class being that of its last unit'
abbrev pub same_class : Bool → List Place → Bool
same_class true u = letter u
same_class false u = not (letter u) && not (blank u)

abbrev pub one_class : List (List Place) → ℕ
one_class [] = 0
one_class (u ∷ us) = trailing (same_class (letter u)) (u ∷ us)

-- 'With ALTWERASE: trailing blanks, one further unit, then' that run.
abbrev pub alternate_word : List (List Place) → ℕ
alternate_word us =
    let before : List (List Place) = drop (trailing blank us) us in
    trailing blank us + min 1 (length before) + one_class (drop 1 before)

-- What ERASE, WERASE and KILL do to the line; REPRINT removes nothing.
pub data Edit : Type 0 where
  erase : Edit
  word_erase : Edit
  kill : Edit
  reprint : Edit

-- 'ERASE removes the last unit of the current line, KILL all of it.'
abbrev pub removed : Settings → Edit → List (List Place) → ℕ
removed x erase us = min 1 (length us)
removed x word_erase us = cond x.altwerase (alternate_word us) (word us)
removed x kill us = length us
removed x reprint us = 0

abbrev pub edited : Settings → Edit → Input → Input
edited x e i =
    record {
      finished = i.finished;
      current = without_units (removed x e (units i.current)) i.current;
      literal_next = i.literal_next;
    }
