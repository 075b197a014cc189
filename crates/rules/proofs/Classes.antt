-- The 256 classes as one fact over the whole table: c is a control, b a blank, l a letter or underscore, o any other.
use Prim.Native.Nat.{ℕ, zero, suc}
use mathlib.Core.Path.{◌≡◌, refl}
use mathlib.Core.List.{List, [], ◌∷◌, ◌++◌, map}
use Rattle.rules.specs.Types.{Class, Blank, Letter, Control, Other}
use Rattle.rules.specs.Classes.{class_of}
use Rattle.rules.specs.Trace.{text}

abbrev sign : Class → ℕ
sign Control = 99
sign Blank = 98
sign Letter = 108
sign Other = 111

-- n numbers from b on
abbrev from : ℕ → ℕ → List ℕ
from b zero = []
from b (suc n) = b ∷ from (suc b) n

-- a row holds 32 byte values
abbrev table : List ℕ
table =
    text "cccccccccbcccccccccccccccccccccc" ++ text "booooooooooooooooooooooooooooooo"
    ++ text "ollllllllllllllllllllllllllooool" ++ text "ollllllllllllllllllllllllllooooc"
    ++ text "oooooooooooooooooooooooooooooooo" ++ text "oooooooooooooooooooooooooooooooo"
    ++ text "oooooooooooooooooooooooooooooooo" ++ text "oooooooooooooooooooooooooooooooo"

pub every_class : map (λ b. sign (class_of b)) (from 0 256) ≡ table
every_class = refl
