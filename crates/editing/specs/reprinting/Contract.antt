-- What REPRINT shows of a line, place by place.
use Rattle.std.specs.Prelude.{ℕ, ◌+◌, ◌-◌, min, Option, cond, List, [], ◌∷◌, ◌++◌, length, get_or}
use Rattle.queue.specs.Queue.{held}
use Rattle.rules.specs.declared.Settings.{Settings}
use Rattle.rules.specs.Output.{processed}
use Rattle.rules.specs.Echo.{visible, line_echo}
use Rattle.output.specs.declared.Output.{Output}
use Rattle.output.specs.columns.Contract.{Measures}
use Rattle.output.specs.declared.columns.Measure.{Measure}
use Rattle.input.specs.declared.Input.{Input}
use Rattle.editing.specs.Contract.{units_to, shows_at}

-- what place k shows
abbrev pub place_echo : Settings → Input → List ℕ → List ℕ → ℕ → List ℕ
place_echo x i bs ms k = cond (shows_at i ms k) (visible x (get_or (held i.queue bs) k 0)) []

-- the echo of b, 10, and what the line before place k shows
unfoldable pub reprinted : Settings → Input → List ℕ → List ℕ → ℕ → ℕ → List ℕ
reprinted x i bs ms b k = (visible x b ++ (10 ∷ [])) ++ line_echo x (units_to i bs ms k)

-- all of it is measured in the room that output o has in so many bytes
abbrev pub MeasuresLine : Settings → Output → Input → List ℕ → List ℕ → ℕ → ℕ → Option Measure → Type 0
MeasuresLine x o i bs ms size b r = Measures x (size - min o.queue.len size) o.column (reprinted x i bs ms b i.queue.len) r

-- how long the queue of output o is with all of it, in so many bytes
abbrev pub needed : Settings → Output → Input → List ℕ → List ℕ → ℕ → ℕ → ℕ
needed x o i bs ms size b =
    min o.queue.len size + length (processed x o.column (reprinted x i bs ms b i.queue.len))
