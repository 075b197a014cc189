-- A write that goes on from the rest: what it promises, by the promises of write and transmit.
use Rattle.std.specs.Prelude.{ℕ, ◌+◌, ◌≡◌, List, drop}
use Rattle.port.specs.declared.Port.{Port}
use Rattle.discipline.specs.declared.sending.Moved.{Moved}
use Rattle.port.specs.Sending.{Outcomes, after_write, after_transmit}

---- A write that goes on from the rest: as much of src as the port takes, then what transmit gives into d, then the rest

abbrev pub first : Port → List ℕ → List ℕ → Outcomes
first p os src = after_write p os src

abbrev pub second : Port → List ℕ → List ℕ → List ℕ → Outcomes
second p os src d = after_transmit (first p os src).port (first p os src).slice d

abbrev pub third : Port → List ℕ → List ℕ → List ℕ → Outcomes
third p os src d =
    after_write (second p os src d).port (second p os src d).slice (drop (first p os src).answer.count src)

pub record MovesThrough (p : Port) (os src d : List ℕ) (r : Moved) (os' d' : List ℕ) : Type 0 where
  pub port : r.port ≡ (third p os src d).port
  pub slice : os' ≡ (third p os src d).slice
  pub buffer : d' ≡ (second p os src d).lent
  pub written : r.written ≡ (first p os src).answer.count + (third p os src d).answer.count
  pub given : r.given ≡ (second p os src d).answer.count
