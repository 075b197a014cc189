-- Stored input and its two slices as the rules' input (get), the rules' input as numbers (put), and what each function
-- promises. On the right of each equation stand values at entry only.
use Rattle.std.specs.Prelude.{ℕ, ◌+◌, ◌*◌, ◌/◌, ◌%◌, ◌≤◌, min, ◌≡◌, Bool, true, false, cond, List, [], ◌∷◌, ◌++◌, map, reverse, length, take, drop, eqb}
use Rattle.queue.specs.Ring.{stores}
use Rattle.queue.specs.Queue.{held, fitted as queue_fitted}
use Rattle.rules.specs.Sizes.{Place, Input as Ruled, used, unit}
use Rattle.rules.specs.Settings.{stored}
use Rattle.rules.specs.Fit.{end_fits, unit_fits, kept_in}
use Rattle.input.specs.declared.Input.{Input}
use Rattle.input.specs.declared.Unit.{Unit}
use Rattle.input.specs.declared.Unit.TheVariants.{Plain, Doubled, Zero, Broken}

-- A mark byte: 1 the first place of a unit, 2 the end of a line, 4 an end-of-file mark, 8 silent. Further bits mean nothing.
abbrev pub place_of : ℕ → ℕ → Place
place_of b m =
    record { byte = b; starts = eqb (m % 2) 1; ends = eqb (m / 2 % 2) 1; mark = eqb (m / 4 % 2) 1; silent = eqb (m / 8 % 2) 1 }

abbrev pub bit : Bool → ℕ
bit t = cond t 1 0

abbrev pub mark_of : Place → ℕ
mark_of p = bit p.starts + 2 * bit p.ends + 4 * bit p.mark + 8 * bit p.silent

abbrev pub byte_of : Place → ℕ
byte_of p = p.byte

-- bytes and their marks, place by place
abbrev pub places : List ℕ → List ℕ → List Place
places [] ms = []
places (b ∷ bs) [] = []
places (b ∷ bs) (m ∷ ms) = place_of b m ∷ places bs ms

-- all that is held, oldest first
unfoldable pub all : Input → List ℕ → List ℕ → List Place
all i bs ms = places (held i.queue bs) (held i.queue ms)

-- any input with any two slices of one length
unfoldable pub get : Input → List ℕ → List ℕ → Ruled
get i bs ms =
    record {
      finished = take i.ready (all i bs ms);
      current = reverse (drop i.ready (all i bs ms));
      literal_next = i.literal;
    }

-- the rules' input as numbers, its oldest place at h
abbrev pub put : Ruled → ℕ → Input
put w h = record { queue = record { head = h; len = used w }; ready = length w.finished; literal = w.literal_next }

-- the places of w behind those of v
abbrev pub added : Ruled → Ruled → List Place
added v w = drop (used v) (stored w)

-- After the call the input is w; its oldest place stays where it was, what is new stands behind what was held, and every
-- other place of both slices is as it was.
pub record InputBecomes (i : Input) (bs ms : List ℕ) (w : Ruled) (r : Input) (bs' ms' : List ℕ) : Type 0 where
  pub input : r ≡ put w (i.queue.head % length bs)
  pub bytes : bs' ≡ stores (length bs) bs (i.queue.head % length bs + used (get i bs ms)) (map byte_of (added (get i bs ms) w))
  pub marks : ms' ≡ stores (length ms) ms (i.queue.head % length ms + used (get i bs ms)) (map mark_of (added (get i bs ms) w))

-- The numbers are in range of n places. Every event begins by bringing them there.
pub record Within (i : Input) (n : ℕ) : Type 0 where
  pub head : i.queue.head % n ≡ i.queue.head
  pub len : i.queue.len ≤ n
  pub ready : i.ready ≤ i.queue.len

-- The slices have one length, and the numbers are in range.
pub record Sound (i : Input) (bs ms : List ℕ) : Type 0 where
  pub same : length bs ≡ length ms
  pub within : Within i (length bs)

-- The slices have one length, the numbers are in range, and k places are free.
pub record Room (i : Input) (bs ms : List ℕ) (k : ℕ) : Type 0 where
  pub same : length bs ≡ length ms
  pub within : Within i (length bs)
  pub room : i.queue.len + k ≤ length bs

-- Behind what was held stand the bytes b with the marks m; what is finished is as it was.
pub record Grows (i : Input) (bs ms b m : List ℕ) (r : Input) (bs' ms' : List ℕ) : Type 0 where
  pub input :
      r
      ≡ record {
        queue = record { head = i.queue.head; len = i.queue.len + length b };
        ready = i.ready;
        literal = i.literal;
      }
  pub bytes : bs' ≡ stores (length bs) bs (i.queue.head + i.queue.len) b
  pub marks : ms' ≡ stores (length ms) ms (i.queue.head + i.queue.len) m

-- The answer is the rules', whatever stands in the n places and however long the output queue is.
abbrev pub TellsEnd : Input → ℕ → Bool → Type 0
TellsEnd i n r =
    (line output : ℕ) (bs ms : List ℕ) → length bs ≡ n → length ms ≡ n
    → r ≡ end_fits (record { line = line; input = n; output = output }) (get i bs ms)

abbrev pub TellsUnit : Input → ℕ → ℕ → Bool → ℕ → Bool → Type 0
TellsUnit i n line canonical u r =
    (output : ℕ) (bs ms : List ℕ) → length bs ≡ n → length ms ≡ n
    → r ≡ unit_fits canonical (record { line = line; input = n; output = output }) (get i bs ms) u

-- the same input, its numbers within n places
abbrev pub fitted : ℕ → Input → Input
fitted n i =
    record { queue = queue_fitted n i.queue; ready = min i.ready (min i.queue.len n); literal = i.literal }

-- without the places from `at` on
abbrev pub shortened : ℕ → Input → Input
shortened at i =
    record { queue = record { head = i.queue.head; len = min i.queue.len at }; ready = i.ready; literal = i.literal }

-- the places of the current line before `end`, newest first
abbrev pub line_to : Input → List ℕ → List ℕ → ℕ → List Place
line_to i bs ms end = reverse (drop i.ready (take end (all i bs ms)))

-- the rules' input without the places from `at` on
abbrev pub cut_at : Input → List ℕ → List ℕ → ℕ → Ruled
cut_at i bs ms at = record { finished = (get i bs ms).finished; current = line_to i bs ms at; literal_next = i.literal }

-- 'Flushing input drops finished lines, the current line and "literal next".'
abbrev pub emptied : Ruled
emptied = record { finished = []; current = []; literal_next = false }

-- The current line ends with the place p: a delimiter or a mark.
abbrev pub ended_in : Ruled → Place → Ruled
ended_in w p =
    record { finished = w.finished ++ reverse (p ∷ w.current); current = []; literal_next = w.literal_next }

-- what one event stores
abbrev pub unit_of : Unit → List Place
unit_of (Plain b) = unit false b []
unit_of Doubled = unit false 255 (255 ∷ [])
unit_of Zero = unit true 0 []
unit_of (Broken b) = unit true 255 (0 ∷ b ∷ [])

-- A unit is stored whole, under ICANON or not.
abbrev pub Stores : Bool → List Place → Input → List ℕ → List ℕ → Input → List ℕ → List ℕ → Type 0
Stores canonical u i bs ms r bs' ms' = InputBecomes i bs ms (kept_in canonical (get i bs ms) u) r bs' ms'

-- The current line ends with the place p.
abbrev pub Ends : Place → Input → List ℕ → List ℕ → Input → List ℕ → List ℕ → Type 0
Ends p i bs ms r bs' ms' = InputBecomes i bs ms (ended_in (get i bs ms) p) r bs' ms'
