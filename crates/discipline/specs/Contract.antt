-- What `step` promises: the rules' step, and every byte of port, slices and buffer.
use Rattle.std.specs.Prelude.{ℕ, ◌≡◌, List, []}
use Rattle.rules.specs.declared.Call.{Call}
use Rattle.rules.specs.declared.Call.TheVariants.{Set, Receive, Read, Write, Transmit, Flush, Cancel, Foreground, ReadVerdict, WriteVerdict}
use Rattle.rules.specs.declared.Call.TheVariants.{SettingsVerdict}
use Rattle.rules.specs.Refusals.{lent_after}
use Rattle.port.specs.Sending.{result, after_write, after_transmit}
use Rattle.port.specs.declared.Port.{Port}
use Rattle.port.specs.declared.Answered.{Answered}
use Rattle.port.specs.Calls.{step_of, Calls, Asks, grouped, cancelled, unchanged, Now}
use Rattle.discipline.specs.changes.Contract.{Sets}
use Rattle.discipline.specs.reads.Contract.{Reads}

-- the three slices (input bytes, input marks, output) and the lent buffer
pub record Held : Type 0 where
  pub bytes : List ℕ
  pub marks : List ℕ
  pub out : List ℕ
  pub lent : List ℕ

-- Every byte, by the call: the promise of its own function, and what that function was not lent is as it was.
abbrev pub Exact : Port → Held → Call → Answered → Held → Type 0
Exact p h (Set x) r k =
    Sets p h.bytes h.marks x (step_of p h.bytes h.marks [] (Set x) []) r k.bytes k.marks × (k.out ≡ h.out) × (k.lent ≡ h.lent)
Exact p h (Receive e) r k =
    Calls p h.bytes h.marks h.out (step_of p h.bytes h.marks h.out (Receive e) []) r k.bytes k.marks k.out × (k.lent ≡ h.lent)
Exact p h (Read nonblocking) r k =
    Reads p h.bytes h.marks h.lent nonblocking r k.lent × (k.bytes ≡ h.bytes) × (k.marks ≡ h.marks) × (k.out ≡ h.out)
Exact p h Write r k = (result r k.out k.lent ≡ after_write p h.out h.lent) × (k.bytes ≡ h.bytes) × (k.marks ≡ h.marks)
Exact p h Transmit r k = (result r k.out k.lent ≡ after_transmit p h.out h.lent) × (k.bytes ≡ h.bytes) × (k.marks ≡ h.marks)
Exact p h (Flush choice) r k = Asks p h.bytes h.marks h.out (step_of p h.bytes h.marks h.out (Flush choice) []) r × (k ≡ h)
Exact p h Cancel r k = (r ≡ cancelled p (step_of p [] [] [] Cancel [])) × (k ≡ h)
Exact p h (Foreground group orphaned) r k = (r ≡ grouped p (step_of p [] [] [] (Foreground group orphaned) [])) × (k ≡ h)
Exact p h (ReadVerdict who) r k = (r ≡ unchanged p (step_of p [] [] [] (ReadVerdict who) [])) × (k ≡ h)
Exact p h (WriteVerdict who) r k = (r ≡ unchanged p (step_of p [] [] [] (WriteVerdict who) [])) × (k ≡ h)
Exact p h (SettingsVerdict who) r k = (r ≡ unchanged p (step_of p [] [] [] (SettingsVerdict who) [])) × (k ≡ h)

-- The rules' step: its answer, the lent buffer after it, its next state, at the same sizes; and every byte.
pub record Stepped (p : Port) (h : Held) (call : Call) (r : Answered) (k : Held) : Type 0 where
  pub answer : r.answer ≡ (step_of p h.bytes h.marks h.out call h.lent).1.answer
  pub buffer : k.lent ≡ lent_after h.lent (step_of p h.bytes h.marks h.out call h.lent).1
  pub now : Now p h.bytes h.marks h.out (step_of p h.bytes h.marks h.out call h.lent).0 r.port k.bytes k.marks k.out
  pub exact : Exact p h call r k

abbrev pub held : List ℕ → List ℕ → List ℕ → List ℕ → Held
held bs ms os lent = record { bytes = bs; marks = ms; out = os; lent = lent }

abbrev pub Steps : Port → List ℕ → List ℕ → List ℕ → Call → List ℕ → Answered → List ℕ → List ℕ → List ℕ → List ℕ → Type 0
Steps p bs ms os call lent r bs' ms' os' lent' = Stepped p (held bs ms os lent) call r (held bs' ms' os' lent')
