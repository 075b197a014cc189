-- An output and its slice as the rules' output (get), the rules' output as an output and a slice (put), and what each
-- function promises. On the right of each equation stand values at entry only.
use Rattle.std.specs.Prelude.{ℕ, ◌+◌, ◌-◌, ◌%◌, min, ◌≡◌, List, [], ◌++◌, length, drop, take}
use Rattle.queue.specs.Ring.{stores}
use Rattle.queue.specs.Queue.{held, fitted, laid}
use Rattle.queue.specs.declared.Counted.{Counted}
use Rattle.rules.specs.declared.Settings.{Settings}
use Rattle.rules.specs.Sizes.{Output as Ruled}
use Rattle.rules.specs.Output.{oldest, written, taken, processed, queued_whole}
use Rattle.output.specs.declared.Output.{Output}
use Rattle.output.specs.declared.columns.Measure.{Measure}
use Rattle.output.specs.columns.Contract.{Behind}

-- the output with its numbers in range of n bytes
abbrev pub in_range : ℕ → Output → Output
in_range n o = record { queue = fitted n o.queue; column = o.column; stopped = o.stopped }

-- any output with any slice
unfoldable pub get : Output → List ℕ → Ruled
get o l = record { queue = held o.queue l; column = o.column; stopped = o.stopped }

-- the rules' output, its queue laid from place h on
abbrev pub put : Ruled → ℕ → Output
put w h = record { queue = laid h w.queue; column = w.column; stopped = w.stopped }

-- After the call the output is w, laid from its old head on; every other place of the slice is as it was.
pub record OutputBecomes (o : Output) (l : List ℕ) (w : Ruled) (r : Output) (l' : List ℕ) : Type 0 where
  pub output : r ≡ put w (o.queue.head % length l)
  pub slice : l' ≡ stores (length l) l (o.queue.head % length l) w.queue

-- The oldest bytes are given into d, none while stopped; the slice is as it was.
pub record Sends (o : Output) (l d : List ℕ) (r : Counted Output) (d' : List ℕ) : Type 0 where
  pub count : r.count ≡ length (oldest (get o l) (length d))
  pub rest : r.rest ≡ put (record { queue = drop (length (oldest (get o l) (length d))) (get o l).queue; column = o.column; stopped = o.stopped })
      ((o.queue.head + length (oldest (get o l) (length d))) % length l)
  pub buffer : d' ≡ oldest (get o l) (length d) ++ drop (length (oldest (get o l) (length d))) d

-- the room that an output has in n places, before any byte
abbrev pub Begins : Output → ℕ → Measure → Type 0
Begins o n m = (x : Settings) → Behind x (n - min o.queue.len n) o.column [] m

---- What a write promises

-- how many bytes of src a write takes
abbrev pub takes : Settings → Output → List ℕ → List ℕ → ℕ
takes x o l src = taken (length l) x (length (get o l).queue) o.column src

pub record Writes (x : Settings) (o : Output) (l src : List ℕ) (r : Counted Output) (l' : List ℕ) : Type 0 where
  pub count : r.count ≡ takes x o l src
  pub rest : OutputBecomes o l (written x (get o l) (take (takes x o l src) src)) r.rest l'

---- What an echo promises

-- 'Echo passes through output processing. If one event's echo does not fit whole, none is queued.'
abbrev pub echoed : Settings → Output → List ℕ → List ℕ → Ruled
echoed x o l bs = queued_whole (length l) x (get o l) (processed x o.column bs)

abbrev pub Echoes : Settings → Output → List ℕ → List ℕ → Output → List ℕ → Type 0
Echoes x o l bs r l' = OutputBecomes o l (echoed x o l bs) r l'
