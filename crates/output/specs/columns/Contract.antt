-- A run of bytes that is measured.
use Rattle.std.specs.Prelude.{ℕ, ◌+◌, ◌<◌, ◌≡◌, Option, Some, None, List, [], ◌∷◌, ◌++◌, length}
use Rattle.rules.specs.declared.Settings.{Settings}
use Rattle.rules.specs.Output.{columns_after, processed}
use Rattle.output.specs.declared.columns.Measure.{Measure}

-- the run bs from column c on fits in so much room, and m is behind it: what is left, and the column
pub record Behind (x : Settings) (room c : ℕ) (bs : List ℕ) (m : Measure) : Type 0 where
  pub left : m.room + length (processed x c bs) ≡ room
  pub column : m.column ≡ columns_after x c (processed x c bs)

-- the run measured: it fits, or it does not
abbrev pub Measures : Settings → ℕ → ℕ → List ℕ → Option Measure → Type 0
Measures x room c bs (Some m) = Behind x room c bs m
Measures x room c bs None = room < length (processed x c bs)

-- the bytes e behind a run that is measured, whether it fits or not; one byte behind it
abbrev pub ExtendsBy : Settings → Option Measure → List ℕ → Option Measure → Type 0
ExtendsBy x m e r = (room c : ℕ) (bs : List ℕ) → Measures x room c bs m → Measures x room c (bs ++ e) r

abbrev pub Extends : Settings → Option Measure → ℕ → Option Measure → Type 0
Extends x m b r = ExtendsBy x m (b ∷ []) r
