-- The wrong ports of 'How tight the promises are', each as a step of its own: the list of examples is false of each.
use Prim.Native.Nat.{suc}
use mathlib.Core.Path.{refl}
use mathlib.Core.Bool.{Bool, true, false, ◌||◌}
use mathlib.Core.List.{[]}
use lib.ListN.{length}
use lib.Dec.{ltb}
use Rattle.rules.specs.declared.Event.{Event}
use Rattle.rules.specs.declared.Call.{Call}
use Rattle.rules.specs.declared.Call.TheVariants.{Set, Receive, Read, Write, Transmit, Flush, Cancel, Foreground, ReadVerdict, WriteVerdict}
use Rattle.rules.specs.declared.Call.TheVariants.{SettingsVerdict}
use Rattle.rules.specs.declared.Refusal.TheVariants.{Nothing}
use Rattle.rules.specs.declared.Outcome.TheVariants.{Ok, Wait}
use Rattle.rules.specs.Sizes.{Sizes, State}
use Rattle.rules.specs.Settings.{fresh}
use Rattle.rules.specs.Refusals.{Reply, says, gives, refuses}
use Rattle.rules.specs.Output.{expand, column_after}
use Rattle.rules.specs.Step.{Asked, step_of, bytes_in}
use Rattle.rules.proofs.Check.{Port, Holds, refuted}
use Rattle.rules.proofs.Examples.{examples}

-- What is put in the place of the right answer to a read, an event, a write.
abbrev instead : {A : Type 0} → A → (Event → A) → A → A → Call → A
instead read event write right (Set x) = right
instead read event write right (Receive e) = event e
instead read event write right (Read nonblocking) = read
instead read event write right Write = write
instead read event write right Transmit = right
instead read event write right (Flush choice) = right
instead read event write right Cancel = right
instead read event write right (Foreground g o) = right
instead read event write right (ReadVerdict p) = right
instead read event write right (WriteVerdict p) = right
instead read event write right (SettingsVerdict p) = right

abbrev as_port : (Sizes → State → Asked → State × Reply) → Port
as_port ask = record { Memory = State; start = fresh; ask = ask }

-- refuses every read
abbrev refuses_reads : Sizes → State → Asked → State × Reply
refuses_reads z s a =
    let right : State × Reply = step_of z s a in
    instead (refuses s Nothing) (λ e. right) right right a.call

-- answers 0 to every read
abbrev reads_nothing : Sizes → State → Asked → State × Reply
reads_nothing z s a =
    let right : State × Reply = step_of z s a in
    instead (s, gives []) (λ e. right) right right a.call

-- ignores events
abbrev ignores_events : Sizes → State → Asked → State × Reply
ignores_events z s a =
    let right : State × Reply = step_of z s a in
    instead right (λ e. (s, says Ok (bytes_in e))) right right a.call

-- a write's count is not the bytes taken: one too many, where it takes any
abbrev one_more : Reply → Reply
one_more r = says r.answer.outcome (suc r.answer.count)

abbrev miscounts : Sizes → State → Asked → State × Reply
miscounts z s a =
    let right : State × Reply = step_of z s a in
    instead right (λ e. right) (right.0, one_more right.1) right a.call

-- handles its first line and then only looks busy: once a read has given bytes, every read waits
abbrev busy_on : Bool → Sizes → State → Asked → State × Reply
busy_on false z s a = step_of z s a
busy_on true z s a =
    let right : State × Reply = step_of z s a in
    instead (s, says Wait 0) (λ e. right) right right a.call

abbrev looks_busy : Sizes → State × Bool → Asked → (State × Bool) × Reply
looks_busy z m a =
    let r : State × Reply = busy_on m.1 z m.0 a in
    ((r.0, m.1 || ltb 0 (length r.1.given)), r.1)

pub refuses_reads_is_wrong : Holds (as_port refuses_reads) examples → ⊥
unfolding expand column_after
refuses_reads_is_wrong = refuted (as_port refuses_reads) examples refl

pub reads_nothing_is_wrong : Holds (as_port reads_nothing) examples → ⊥
unfolding expand column_after
reads_nothing_is_wrong = refuted (as_port reads_nothing) examples refl

pub ignores_events_is_wrong : Holds (as_port ignores_events) examples → ⊥
unfolding expand column_after
ignores_events_is_wrong = refuted (as_port ignores_events) examples refl

pub miscounts_is_wrong : Holds (as_port miscounts) examples → ⊥
unfolding expand column_after
miscounts_is_wrong = refuted (as_port miscounts) examples refl

abbrev busy_port : Port
busy_port = record { Memory = State × Bool; start = (fresh, false); ask = looks_busy }

pub looks_busy_is_wrong : Holds busy_port examples → ⊥
unfolding expand column_after
looks_busy_is_wrong = refuted busy_port examples refl
