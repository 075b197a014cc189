-- The class of a unit, and what a test answers of it.
use Rattle.std.specs.Prelude.{ℕ, Bool, ◌≡◌, List, [], ◌∷◌}
use Rattle.rules.specs.Sizes.{Place}
use Rattle.rules.specs.Classes.{class_of}
use Rattle.rules.specs.declared.Class.{Class}
use Rattle.rules.specs.declared.Class.TheVariants.{Other}
use Rattle.input.specs.declared.Places.{Places}
use Rattle.editing.specs.Contract.{places_in, units_to, Cuts}
use Rattle.editing.specs.declared.Run.{Run}

-- 'A unit of several bytes is a non-blank of the second class.'
abbrev pub unit_class : List Place → Class
unit_class [] = Other
unit_class (p ∷ []) = class_of p.byte
unit_class (p ∷ q ∷ ps) = Other

-- of each class c a test answers t c
abbrev pub Answers : (Class → Bool → Type 0) → (Class → Bool) → Type 0
Answers post t = (c : Class) (r : Bool) → post c r → r ≡ t c

---- The words of Contract.antt, of stored input with its slices

abbrev pub places_of : Places → ℕ → ℕ → List Place
places_of s at end = places_in s.input s.bytes.now s.marks.now at end

abbrev pub units_of : Places → ℕ → List (List Place)
units_of s end = units_to s.input s.bytes.now s.marks.now end

abbrev pub CutsOf : Places → ℕ → ℕ → Run → Type 0
CutsOf s end n r = Cuts s.input s.bytes.now s.marks.now end n r
