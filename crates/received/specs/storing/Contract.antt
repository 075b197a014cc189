-- What an event storing, in the rules: what it is there, whether it fits, what it shows.
use Rattle.std.specs.Prelude.{ℕ, Bool, false, List, [], ◌∷◌, length}
use Rattle.rules.specs.declared.Settings.{Settings}
use Rattle.rules.specs.Sizes.{Sizes, State, Place, Input, unit, delimiter, end_of_file}
use Rattle.rules.specs.Echo.{stored_echo}
use Rattle.rules.specs.Fit.{kept_in, stores_unit, stores_end}
use Rattle.rules.specs.Received.{doubled}
use Rattle.input.specs.Contract.{unit_of, ended_in, TellsUnit, TellsEnd}
use Rattle.port.specs.declared.Port.{Port}
use Rattle.received.specs.declared.storing.Stored.{Stored}
use Rattle.received.specs.declared.storing.Stored.TheVariants.{Byte, Silent, Delimiter, Mark}

-- the places that it takes
abbrev pub places_taken : Settings → Stored → List Place
places_taken x (Byte b) = unit false b (doubled x b)
places_taken x (Silent u) = unit_of u
places_taken x (Delimiter b) = delimiter b ∷ []
places_taken x Mark = end_of_file ∷ []

-- the bytes that it shows
abbrev pub bytes_shown : Settings → Stored → List ℕ
bytes_shown x (Byte b) = stored_echo x b
bytes_shown x (Silent u) = []
bytes_shown x (Delimiter b) = stored_echo x b
bytes_shown x Mark = []

-- the input with it
abbrev pub input_with : Settings → Input → Stored → Input
input_with x i (Byte b) = kept_in x.icanon i (unit false b (doubled x b))
input_with x i (Silent u) = kept_in x.icanon i (unit_of u)
input_with x i (Delimiter b) = ended_in i (delimiter b)
input_with x i Mark = ended_in i end_of_file

-- whether it fits in n places
abbrev pub Fits : Port → ℕ → Stored → Bool → Type 0
Fits p n (Byte b) r = TellsUnit p.input n p.line p.settings.icanon (length (unit false b (doubled p.settings b))) r
Fits p n (Silent u) r = TellsUnit p.input n p.line p.settings.icanon (length (unit_of u)) r
Fits p n (Delimiter b) r = TellsEnd p.input n r
Fits p n Mark r = TellsEnd p.input n r

-- the rules' step: it is stored, or dropped
abbrev pub storing : Stored → Sizes → State → State
storing (Byte b) z s = stores_unit z s (unit false b (doubled s.settings b)) (stored_echo s.settings b)
storing (Silent u) z s = stores_unit z s (unit_of u) []
storing (Delimiter b) z s = stores_end z s (delimiter b) (stored_echo s.settings b)
storing Mark z s = stores_end z s end_of_file []
