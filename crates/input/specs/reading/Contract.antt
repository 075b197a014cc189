-- Where the first line ends.
use Rattle.std.specs.Prelude.{ℕ, ◌≤◌, ◌+◌, ◌-◌, ◌%◌, ◌≡◌, List, ◌++◌, length, take, drop}
use Rattle.rules.specs.Sizes.{Place, Input as Ruled, used}
use Rattle.rules.specs.Reads.{Part, bytes_of, first_line, first_bytes}
use Rattle.input.specs.declared.Input.{Input}
use Rattle.input.specs.Contract.{get, put, Within}
use Rattle.input.specs.declared.reading.Line.{Line}
use Rattle.queue.specs.Queue.{held}
use Rattle.queue.specs.declared.Counted.{Counted}

-- the part p of the places ps: the bytes of the first `count`, without the first `taken`
pub record Splits (p : Part) (ps : List Place) (count taken : ℕ) : Type 0 where
  pub bytes : p.bytes ≡ bytes_of (take count ps)
  pub left : p.left ≡ drop taken ps
  pub upto : count ≤ taken
  pub all : taken ≤ length ps

-- where the first line ends, whatever its bytes are
abbrev pub TellsLine : Input → List ℕ → ℕ → Line → Type 0
TellsLine i ms n r =
    (bs : List ℕ) → length bs ≡ length ms
    → Splits (first_line n (get i bs ms).finished) (get i bs ms).finished r.count r.taken × (r.count ≤ n)

---- What a read takes from the stored input, over the numbers and the two slices
-- On the right of each equation stand values at entry only.

---- ReadsPart

-- the rules' input, of whose finished places some are left
abbrev pub leaves : Ruled → List Place → Ruled
leaves g left = record { finished = left; current = g.current; literal_next = g.literal_next }

-- places that are gone
abbrev pub gone : Ruled → Ruled → ℕ
gone g w = used g - used w

-- After a read of the part p the input is what p leaves, its oldest place behind the places that are gone; the bytes of p
-- stand first in the buffer, and behind them it is as it was.
pub record ReadsPart (i : Input) (bs ms d : List ℕ) (p : Part) (r : Counted Input) (d' : List ℕ) : Type 0 where
  pub count : r.count ≡ length p.bytes
  pub input :
      r.rest
      ≡ put (leaves (get i bs ms) p.left) ((i.queue.head + gone (get i bs ms) (leaves (get i bs ms) p.left)) % length bs)
  pub buffer : d' ≡ p.bytes ++ drop (length p.bytes) d

abbrev pub ReadsLine : Input → List ℕ → List ℕ → List ℕ → Counted Input → List ℕ → Type 0
ReadsLine i bs ms d r d' = ReadsPart i bs ms d (first_line (length d) (get i bs ms).finished) r d'

-- Marks play no part in it.
abbrev pub ReadsBytes : Input → List ℕ → List ℕ → Counted Input → List ℕ → Type 0
ReadsBytes i bs d r d' =
    (ms : List ℕ) → length bs ≡ length ms → ReadsPart i bs ms d (first_bytes (length d) (get i bs ms).finished) r d'

-- `count` bytes can be given and `taken` places be dropped
pub record Gives (i : Input) (bs d : List ℕ) (count taken : ℕ) : Type 0 where
  pub within : Within i (length bs)
  pub upto : count ≤ taken
  pub finished : taken ≤ i.ready
  pub room : count ≤ length d

pub record Given (i : Input) (bs d : List ℕ) (k taken : ℕ) (r : Counted Input) (d' : List ℕ) : Type 0 where
  pub count : r.count ≡ k
  pub input :
      r.rest
      ≡ record {
        queue = record { head = (i.queue.head + taken) % length bs; len = i.queue.len - taken };
        ready = i.ready - taken;
        literal = i.literal;
      }
  pub buffer : d' ≡ take k (held i.queue bs) ++ drop k d
