-- What a change of settings promises: the answer, the port and every byte of the slices, by the rules' `step` at the state that
-- `get` reads. `set` is lent no output slice, so the rules are asked with an empty one; `set_now` in proofs/Promises.antt says that
-- they answer the same at every output slice.
use Rattle.std.specs.Prelude.{ℕ, ◌≡◌, Bool, true, false, not, ◌&&◌, List, take, drop}
use Rattle.rules.specs.declared.Settings.{Settings}
use Rattle.rules.specs.Sizes.{State}
use Rattle.rules.specs.Refusals.{Reply}
use Rattle.input.specs.declared.Input.{Input}
use Rattle.input.specs.Contract.{fitted}
use Rattle.output.specs.declared.Output.{Output}
use Rattle.port.specs.State.{capacity, place_bytes, place_marks}
use Rattle.port.specs.Sending.{refused}
use Rattle.port.specs.declared.Port.{Port}
use Rattle.port.specs.declared.Answered.{Answered}
use Rattle.input.specs.canonical.Contract.{GoesOff, GoesOn}

-- What becomes of the stored input. ICANON before, ICANON after.
abbrev pub Changes : Bool → Bool → Input → List ℕ → List ℕ → Input → List ℕ → List ℕ → Type 0
Changes true true i bs ms r bs' ms' = (r ≡ i) × (bs' ≡ bs) × (ms' ≡ ms)
Changes true false i bs ms r bs' ms' = GoesOff i bs ms r bs' ms'
Changes false true i bs ms r bs' ms' = GoesOn i ms r ms' × (bs' ≡ bs)
Changes false false i bs ms r bs' ms' = (r ≡ i) × (bs' ≡ bs) × (ms' ≡ ms)

-- 'If IXON goes off, output resumes.' IXON before, IXON after.
abbrev pub resumed : Bool → Bool → Output → Output
resumed was is o = record { queue = o.queue; column = o.column; stopped = o.stopped && not (was && not is) }

-- the port with other settings, input and output
abbrev pub with_settings : Port → Settings → Input → Output → Port
with_settings p x i o =
    record { settings = x; line = p.line; input = i; output = o; foreground = p.foreground; hung = p.hung; waiting = p.waiting }

-- The new settings hold. Behind the places of the input, where one slice is longer than the other, every byte is as it was.
pub record Changed (p : Port) (bs ms : List ℕ) (x : Settings) (r : Port) (bs' ms' : List ℕ) : Type 0 where
  pub port : r ≡ with_settings p x r.input (resumed p.settings.ixon x.ixon p.output)
  pub input :
      Changes p.settings.icanon x.icanon (fitted (capacity bs ms) p.input) (place_bytes bs ms) (place_marks bs ms)
      r.input (take (capacity bs ms) bs') (take (capacity bs ms) ms')
  pub bytes : drop (capacity bs ms) bs' ≡ drop (capacity bs ms) bs
  pub marks : drop (capacity bs ms) ms' ≡ drop (capacity bs ms) ms

-- 'A refusal returns its number and count 0; port and buffers keep every byte.'
abbrev pub SetLeaves : Bool → Port → List ℕ → List ℕ → Settings → Port → List ℕ → List ℕ → Type 0
SetLeaves true p bs ms x r bs' ms' = (r ≡ p) × (bs' ≡ bs) × (ms' ≡ ms)
SetLeaves false p bs ms x r bs' ms' = Changed p bs ms x r bs' ms'

pub record Sets (p : Port) (bs ms : List ℕ) (x : Settings) (w : State × Reply) (r : Answered) (bs' ms' : List ℕ) : Type 0 where
  pub answer : r.answer ≡ w.1.answer
  pub leaves : SetLeaves (refused w.1.answer) p bs ms x r.port bs' ms'
