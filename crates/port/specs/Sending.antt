-- What the calls on the output promise: the answer, the port and every byte of the slices, by the rules. A write and a
-- transmit are lent the output's slice alone, so the rules are asked at a state whose input is empty; `for_any_input` and
-- `transmits_for_any_input` in crates/discipline/proofs/sending/Promises.antt say that they answer the same at every input.
use Rattle.std.specs.Prelude.{ℕ, ◌+◌, ◌%◌, Bool, true, false, cond, List, [], length, None}
use Rattle.queue.specs.Ring.{stores}
use Rattle.rules.specs.declared.Answer.{Answer}
use Rattle.rules.specs.declared.Outcome.{Outcome}
use Rattle.rules.specs.declared.Outcome.TheVariants.{Ok, Wait, Reports, Judged, Refused}
use Rattle.rules.specs.Sizes.{State, Output as Ruled}
use Rattle.rules.specs.Refusals.{Reply, lent_after}
use Rattle.rules.specs.Output as rule
use Rattle.output.specs.Contract.{put}
use Rattle.port.specs.State.{sizes, get, with_output}
use Rattle.port.specs.declared.Port.{Port}
use Rattle.port.specs.declared.Answered.{Answered}
use Rattle.queue.specs.Queue.{laid}
use Rattle.rules.specs.Settings.{defaults}
use Rattle.rules.specs.declared.Waiting.TheVariants.{Idle}

abbrev pub is_refusal : Outcome → Bool
is_refusal Ok = false
is_refusal Wait = false
is_refusal (Reports g) = false
is_refusal (Judged v) = false
is_refusal (Refused r) = true

abbrev pub refused : Answer → Bool
refused a = is_refusal a.outcome

-- A port, the slice of its output and a lent buffer, after a call; and the answer.
pub record Outcomes : Type 0 where
  pub port : Port
  pub slice : List ℕ
  pub lent : List ℕ
  pub answer : Answer

-- the output becomes w, its oldest byte at place h
abbrev pub becomes : Port → List ℕ → Ruled → ℕ → List ℕ → Answer → Outcomes
becomes p os w h lent a =
    record { port = with_output p (put w h); slice = stores (length os) os h w.queue; lent = lent; answer = a }

-- a refusal leaves everything as it was
abbrev pub keeps : Port → List ℕ → List ℕ → Answer → Outcomes
keeps p os lent a = record { port = p; slice = os; lent = lent; answer = a }

abbrev pub after_write_by : State × Reply → Port → List ℕ → List ℕ → Outcomes
after_write_by r p os src =
    cond (refused r.1.answer) (keeps p os src r.1.answer)
    (becomes p os r.0.output (p.output.queue.head % length os) src r.1.answer)

-- a write of src: 'its count is the bytes taken'
unfoldable pub after_write : Port → List ℕ → List ℕ → Outcomes
after_write p os src = after_write_by (rule.write (sizes p [] [] os) (get p [] [] os) src) p os src

-- a transmit into d: what is handed out, then d's own bytes
unfoldable pub after_transmit : Port → List ℕ → List ℕ → Outcomes
after_transmit p os d =
    let r : State × Reply = rule.transmit (get p [] [] os) (length d) in
    becomes p os r.0.output ((p.output.queue.head + r.1.answer.count) % length os) (lent_after d r.1) r.1.answer

-- what a function gives, as such a record
abbrev pub result : Answered → List ℕ → List ℕ → Outcomes
result r os lent = record { port = r.port; slice = os; lent = lent; answer = r.answer }

-- 'Flushing output empties its queue; column and "stopped" stay', in n bytes.
abbrev pub flushed : Port → ℕ → Port
flushed p n =
    with_output p (put (record { queue = []; column = p.output.column; stopped = p.output.stopped }) (p.output.queue.head % n))

---- A fresh port: document 01's line, default settings, nothing held

abbrev pub fresh : Port
fresh =
    record {
      settings = defaults;
      line = 254;
      input = record { queue = laid 0 []; ready = 0; literal = false };
      output = record { queue = laid 0 []; column = 0; stopped = false };
      foreground = None;
      hung = false;
      waiting = Idle;
    }
