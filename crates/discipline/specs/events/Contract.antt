-- What a received event promises: the rules' step, and every byte of port and slices. And what a flush choice is.
use Rattle.std.specs.Prelude.{ℕ, ◌≡◌, ◌≢◌, List, [], Result, MatchResult}
use Rattle.rules.specs.declared.Refusal.{Refusal}
use Rattle.rules.specs.declared.Refusal.TheVariants.{OutOfRange}
use Rattle.discipline.specs.declared.events.Queues.{Queues}
use Rattle.discipline.specs.declared.events.Queues.TheVariants.{Input, Output, Both}
use Rattle.rules.specs.declared.Event.{Event}
use Rattle.rules.specs.declared.Call.TheVariants.{Receive}
use Rattle.port.specs.declared.Port.{Port}
use Rattle.port.specs.declared.Answered.{Answered}
use Rattle.port.specs.Calls.{Calls, step_of}

abbrev pub Receives : Port → List ℕ → List ℕ → List ℕ → Event → Answered → List ℕ → List ℕ → List ℕ → Type 0
Receives p bs ms os e r bs' ms' os' = Calls p bs ms os (step_of p bs ms os (Receive e) []) r bs' ms' os'

---- 'a flush choice'

-- '1 input, 2 output, 3 both'
abbrev pub choice_of : Queues → ℕ
choice_of Input = 1
choice_of Output = 2
choice_of Both = 3

-- the queues of a choice; or 'a flush choice not 1, 2 or 3' is refusal 2
abbrev pub Chooses : ℕ → Result Queues Refusal → Type 0
Chooses choice r =
    MatchResult r (λ queues. choice_of queues ≡ choice) (λ e. (e ≡ OutOfRange) × (choice ≢ 1) × (choice ≢ 2) × (choice ≢ 3))
