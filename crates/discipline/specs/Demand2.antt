-- Demand 2: from a fresh port, call after call, the answers are those of the rules' run.
use Rattle.std.specs.Prelude.{ℕ, ◌≡◌, List, [], ◌∷◌, length}
use Rattle.rules.specs.declared.Answer.{Answer}
use Rattle.rules.specs.Sizes.{Sizes, State, base}
use Rattle.rules.specs.Refusals.{Reply, lent_after}
use Rattle.rules.specs.Settings.{fresh}
use Rattle.rules.specs.Step.{Asked, run}
use Rattle.port.specs.Sending as port
use Rattle.port.specs.declared.Port.{Port}
use Rattle.discipline.specs.Contract.{Stepped, held}
use Rattle.port.specs.declared.Answered.{Answered}

-- What the caller of one call sees: the answer, and the buffer that it lent.
pub record Seen : Type 0 where
  pub answer : Answer
  pub lent : List ℕ

-- One call by `step`, with what is seen of it, and then the rest on the port and the slices that it left.
pub record Made (p : Port) (bs ms os : List ℕ) (a : Asked) (v : Seen) (Rest : Port → List ℕ → List ℕ → List ℕ → Type 0) : Type 0 where
  pub answered : Answered
  pub bytes : List ℕ
  pub marks : List ℕ
  pub out : List ℕ
  pub step : Stepped p (held bs ms os a.lent) a.call answered (held bytes marks out v.lent)
  pub answer : v.answer ≡ answered.answer
  pub rest : Rest answered.port bytes marks out

-- A caller makes the calls of a list one after another, each with a buffer of its own, and sees this.
abbrev pub Makes : List Asked → List Seen → Port → List ℕ → List ℕ → List ℕ → Type 0
Makes [] [] p bs ms os = Unit {0}
Makes [] (v ∷ seen) p bs ms os = ⊥
Makes (a ∷ more) [] p bs ms os = ⊥
Makes (a ∷ more) (v ∷ seen) p bs ms os = Made p bs ms os a v (Makes more seen)

-- what the replies to a list of calls show
abbrev pub seen_of : List Asked → List Reply → List Seen
seen_of [] rs = []
seen_of (a ∷ more) [] = []
seen_of (a ∷ more) (r ∷ rs) = record { answer = r.answer; lent = lent_after a.lent r } ∷ seen_of more rs

-- what the rules' run shows
abbrev pub shows : Sizes → State → List Asked → List Seen
shows z s calls = seen_of calls (run z s calls)

-- The answers and buffers are those of the rules' run, call after call from a fresh port.
abbrev pub Demand2 : Type 0
Demand2 =
    (bs ms os : List ℕ) (calls : List Asked) (seen : List Seen) → length bs ≡ 1024 → length ms ≡ 1024 → length os ≡ 2048
    → Makes calls seen port.fresh bs ms os → seen ≡ shows base fresh calls
