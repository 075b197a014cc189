-- The units of the current line before a place, and what each function promises of them. On the right of each equation
-- stand values at entry only.
use Rattle.std.specs.Prelude.{ℕ, ◌+◌, ◌<◌, ◌≤◌, min, ◌/◌, ◌%◌, ◌≡◌, List, ◌∷◌, length, get_or, take, drop, Bool, not, ◌&&◌, ◌||◌, eqb}
use Rattle.queue.specs.Queue.{held}
use Rattle.rules.specs.Sizes.{Place}
use Rattle.rules.specs.Editing.{units, without_units}
use Rattle.input.specs.Contract.{place_of, all, get, line_to, Within}
use Rattle.input.specs.declared.Input.{Input}
use Rattle.editing.specs.declared.Run.{Run}

-- the place k, the oldest at 0
abbrev pub place_at : Input → List ℕ → List ℕ → ℕ → Place
place_at i bs ms k = place_of (get_or (held i.queue bs) k 0) (get_or (held i.queue ms) k 0)

-- the places from `at` to `end`, oldest first
abbrev pub places_in : Input → List ℕ → List ℕ → ℕ → ℕ → List Place
places_in i bs ms at end = drop at (take end (all i bs ms))

-- the units of the current line before `end`
abbrev pub units_to : Input → List ℕ → List ℕ → ℕ → List (List Place)
units_to i bs ms end = units (line_to i bs ms end)

-- The numbers are in range, and `end` stands in the current line or behind it.
pub record Line (i : Input) (ms : List ℕ) (end : ℕ) : Type 0 where
  pub within : Within i (length ms)
  pub low : i.ready ≤ end
  pub high : end ≤ i.queue.len

-- The last unit before `end` begins at `at`, whatever its bytes are.
pub record Starts (i : Input) (ms : List ℕ) (end at : ℕ) : Type 0 where
  pub low : i.ready ≤ at
  pub high : at < end
  pub unit :
      (bs : List ℕ) → length bs ≡ length ms → units_to i bs ms end ≡ places_in i bs ms at end ∷ units_to i bs ms at

-- The n last units before `end` begin at r.at.
pub record Cuts (i : Input) (bs ms : List ℕ) (end n : ℕ) (r : Run) : Type 0 where
  pub low : i.ready ≤ r.at
  pub fewer : r.units + r.at ≤ end
  pub count : r.units ≡ n
  pub rest : units_to i bs ms r.at ≡ drop n (units_to i bs ms end)

-- The n last units of the current line begin at r.at: cut there, the line is without them.
pub record Removes (i : Input) (bs ms : List ℕ) (n : ℕ) (r : Run) : Type 0 where
  pub low : i.ready ≤ r.at
  pub high : r.at ≤ i.queue.len
  pub count : r.units ≡ n
  pub line : line_to i bs ms r.at ≡ without_units n (get i bs ms).current

-- The last unit before `end`, if there is one, whatever its bytes are.
abbrev pub CutsOne : Input → List ℕ → ℕ → Run → Type 0
CutsOne i ms end r = (bs : List ℕ) → length bs ≡ length ms → Cuts i bs ms end (min 1 (length (units_to i bs ms end))) r

-- As many units of the current line as n says of them, whatever their bytes are.
abbrev pub RemovesBy : (List (List Place) → ℕ) → Input → List ℕ → Run → Type 0
RemovesBy n i ms r = (bs : List ℕ) → length bs ≡ length ms → Removes i bs ms (n (units (get i bs ms).current)) r

---- Which places of stored input REPRINT shows

-- REPRINT shows the byte at place k: it is the first of a unit of the current line, and the unit had an echo.
abbrev pub shows_at : Input → List ℕ → ℕ → Bool
shows_at i ms k =
    not (eqb (get_or (held i.queue ms) k 0 / 8 % 2) 1) && (eqb k i.ready || eqb (get_or (held i.queue ms) k 0 % 2) 1)
