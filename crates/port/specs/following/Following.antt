-- What a received event or a flush does to what is stored, and to the queues' lengths. Proved of the rules in proofs/Laws.antt.
use Rattle.std.specs.Prelude.{ℕ, ◌≤◌, ◌≡◌, List, ◌++◌, length, take}
use Rattle.rules.specs.Sizes.{Sizes, Place, Input, State, used}
use Rattle.rules.specs.Settings.{stored}

-- From v to w: places are added behind those stored, or the newest are dropped, so that the k oldest stay.
pub data Follows (v w : Input) : Type 0 where
  grown : (u : List Place) → stored w ≡ stored v ++ u → Follows v w
  fewer : (k : ℕ) → stored w ≡ take k (stored v) → Follows v w

-- From s to t: the stored input follows, and both queues of t are within the sizes.
pub record Goes (z : Sizes) (s t : State) : Type 0 where
  pub follows : Follows s.input t.input
  pub places : used t.input ≤ z.input
  pub queue : length t.output.queue ≤ z.output
