-- What a change of ICANON makes of the stored input, over the numbers and the two slices.
-- On the right of each equation stand values at entry only.
use Rattle.std.specs.Prelude.{ℕ, ◌%◌, ◌+◌, ◌*◌, ◌/◌, ◌≡◌, true, false, Bool, List, map, length}
use Rattle.queue.specs.Ring.{stores}
use Rattle.rules.specs.Sizes.{Input as Ruled}
use Rattle.rules.specs.Settings.{changed_input}
use Rattle.input.specs.declared.Input.{Input}
use Rattle.input.specs.Contract.{get, put, byte_of, mark_of, bit}

---- New settings

-- After the call all that is stored is w, finished; it is laid from the old head on, and every other place of both slices
-- is as it was.
pub record Laid (i : Input) (bs ms : List ℕ) (w : Ruled) (r : Input) (bs' ms' : List ℕ) : Type 0 where
  pub input : r ≡ put w (i.queue.head % length bs)
  pub bytes : bs' ≡ stores (length bs) bs (i.queue.head % length bs) (map byte_of w.finished)
  pub marks : ms' ≡ stores (length ms) ms (i.queue.head % length ms) (map mark_of w.finished)

-- 'if ICANON goes off, all stored bytes become readable and end-of-file marks vanish'
abbrev pub GoesOff : Input → List ℕ → List ℕ → Input → List ℕ → List ℕ → Type 0
GoesOff i bs ms r bs' ms' = Laid i bs ms (changed_input true false (get i bs ms)) r bs' ms'

---- What is stored when ICANON goes on, over the numbers and the two slices. On the right of each equation stand values at entry
-- only.

-- 'If it goes on, the stored bytes, if any, become one finished line with no delimiter.' The bytes stay as they are.
abbrev pub GoesOn : Input → List ℕ → Input → List ℕ → Type 0
GoesOn i ms r ms' =
    (bs : List ℕ) → length bs ≡ length ms → Laid i bs ms (changed_input false true (get i bs ms)) r bs ms'

-- the mark byte m of a place of one line, its last or another
abbrev pub in_line : Bool → ℕ → ℕ
in_line last m = m % 2 + 2 * bit last + 8 * (m / 8 % 2)
