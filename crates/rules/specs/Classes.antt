-- Document 01, 'Editing': 'Each of the 256 byte values has one class: blank, letter or underscore (65..90, 97..122, 95),
-- control (0..31 but 9, and 127), other.'
use Rattle.std.specs.Prelude.{ℕ, Bool, not, ◌&&◌, ◌||◌, cond, leb, eqb}
use Rattle.rules.specs.Types.{Class, Blank, Letter, Control, Other}

-- b is one of low..high
abbrev pub within : ℕ → ℕ → ℕ → Bool
within low high b = leb low b && leb b high

-- 'blanks (32, 9)'
abbrev pub is_blank : ℕ → Bool
is_blank b = eqb b 32 || eqb b 9

abbrev pub is_letter : ℕ → Bool
is_letter b = within 65 90 b || within 97 122 b || eqb b 95

abbrev pub is_control : ℕ → Bool
is_control b = within 0 31 b && not (eqb b 9) || eqb b 127

abbrev pub class_of : ℕ → Class
class_of b = cond (is_blank b) Blank (cond (is_letter b) Letter (cond (is_control b) Control Other))
