-- `step`, by the call: what each function promises is the rules' step. Assumes nothing.
use mathlib.Core.Path.{◌≡◌, refl, sym, ap, ap₂, subst, ◌∙◌}
use mathlib.Core.Bool.{Bool, true, false, cond, ◌&&◌, ◌||◌}
use mathlib.Core.List.{List, []}
use Prim.Native.Nat.{ℕ}
use lib.ListN.{length}
use lib.Dec.{eqb, ltb}
use Rattle.rules.specs.declared.Call.{Call}
use Rattle.rules.specs.declared.Call.TheVariants.{Set, Receive, Read, Write, Transmit, Flush, Cancel, Foreground, ReadVerdict, WriteVerdict}
use Rattle.rules.specs.declared.Call.TheVariants.{SettingsVerdict}
use Rattle.rules.specs.declared.Event.{Event}
use Rattle.rules.specs.declared.Process.{Process}
use Rattle.rules.specs.declared.Settings.{Settings}
use Rattle.rules.specs.declared.Verdict.{Verdict}
use Rattle.rules.specs.Sizes.{State}
use Rattle.rules.specs.Refusals.{Reply, lent_after}
use Rattle.rules.specs.Flushing as flushing
use Rattle.rules.specs.Output as rule
use Rattle.rules.specs.Step.{set_on, a_read_waits}
use Rattle.rules.specs.Settings.{acceptable}
use Rattle.rules.specs.Verdicts as verdict
use Rattle.port.specs.State.{capacity, sizes, get}
use Rattle.port.specs.Sending.{Outcomes, refused, after_write, after_transmit, result}
use Rattle.port.specs.declared.Port.{Port}
use Rattle.port.specs.declared.Answered.{Answered}
use Rattle.discipline.proofs.sending.Laws.{size_written}
use Rattle.discipline.proofs.sending.Promises.{for_any_input, state_written, transmits_for_any_input, state_transmitted}
use Rattle.port.specs.Calls.{step_of, Calls, Asks, grouped, cancelled, unchanged}
use Rattle.discipline.proofs.events.Promises.{received_now, flushed_now}
use Rattle.discipline.proofs.verdicts.Promises.{grouped_now, read_judged, write_judged, settings_judged}
use Rattle.discipline.specs.changes.Contract.{Sets}
use Rattle.discipline.proofs.changes.Promises.{set_now}
use Rattle.discipline.specs.reads.Contract.{Reads}
use Rattle.discipline.proofs.reads.Promises.{read_now, cancelled_now}
use Rattle.discipline.specs.Contract.{Held, Stepped, Steps}

-- in the arm of one call
pub called : {c k : Call} (p : Port) (h : Held) (r : Answered) (j : Held) → c ≡ k → Stepped p h k r j → Stepped p h c r j
called p h r j e s = subst (λ (y : Call). Stepped p h y r j) (sym e) s

---- What a write hands back

either_of : (P : Outcomes → Type 0) (t : Bool) {x y : Outcomes} → P x → P y → P (cond t x y)
either_of P true a b = a
either_of P false a b = b

module _ (p : Port) (os src : List ℕ) where
  abbrev w : State × Reply
  w = rule.write (sizes p [] [] os) (get p [] [] os) src

  written_answer : (after_write p os src).answer ≡ w.1.answer
  unfolding after_write
  written_answer = either_of (λ (o : Outcomes). o.answer ≡ w.1.answer) (refused w.1.answer) refl refl

  written_lent : (after_write p os src).lent ≡ src
  unfolding after_write
  written_lent = either_of (λ (o : Outcomes). o.lent ≡ src) (refused w.1.answer) refl refl

  written_line : (after_write p os src).port.line ≡ p.line
  unfolding after_write
  written_line = either_of (λ (o : Outcomes). o.port.line ≡ p.line) (refused w.1.answer) refl refl

-- and its reply hands out nothing
write_silent : (p : Port) (bs ms os src : List ℕ) → lent_after src (step_of p bs ms os Write src).1 ≡ src
write_silent p bs ms os src = by s.hung_up (ltb 0 (length src) && eqb n 0)
  where
    s : State
    s = get p bs ms os

    n : ℕ
    n = rule.taken (length os) s.settings (length s.output.queue) s.output.column src

    by : (a b : Bool) → lent_after src (rule.written_on a b s src n).1 ≡ src
    by true b = refl
    by false true = refl
    by false false = refl

module _ (p : Port) (bs ms os lent : List ℕ) (r : Answered) where
  -- calls that hand out nothing leave the buffer alone
  set_silent : (x : Settings) (a b : Bool) (s : State) → lent_after lent (set_on a b s x).1 ≡ lent
  set_silent x true b s = refl
  set_silent x false true s = refl
  set_silent x false false s = refl

  pub steps_set : (x : Settings) (bs' ms' : List ℕ) → Sets p bs ms x (step_of p bs ms [] (Set x) []) r bs' ms'
      → Steps p bs ms os (Set x) lent r bs' ms' os lent
  steps_set x bs' ms' e =
      let n = set_now p bs ms os x r bs' ms' e in
      record {
        answer = n.1;
        buffer = sym (set_silent x (a_read_waits (get p bs ms os).waiting) (acceptable x) (get p bs ms os));
        now = n.0;
        exact = (e, refl, refl);
      }

  pub steps_receive : (e : Event) (bs' ms' os' : List ℕ) → Calls p bs ms os (step_of p bs ms os (Receive e) []) r bs' ms' os'
      → Steps p bs ms os (Receive e) lent r bs' ms' os' lent
  steps_receive e bs' ms' os' c =
      record { answer = c.answer; buffer = refl; now = received_now p bs ms os e r bs' ms' os' c; exact = (c, refl) }

  pub steps_read : (nonblocking : Bool) (lent' : List ℕ) → Reads p bs ms lent nonblocking r lent' → Steps p bs ms os (Read nonblocking) lent r bs ms os lent'
  steps_read nonblocking lent' t =
      let n = read_now p bs ms os lent nonblocking r lent' t in
      record { answer = n.answer; buffer = n.buffer; now = n.now; exact = (t, refl, refl, refl) }

  ---- A write and a transmit

  pub steps_write : (os' lent' : List ℕ) → result r os' lent' ≡ after_write p os lent → Steps p bs ms os Write lent r bs ms os' lent'
  steps_write os' lent' e =
      let port : r.port ≡ (after_write p os lent).port = ap (λ (y : Outcomes). y.port) e in
      let slice : os' ≡ (after_write p os lent).slice = ap (λ (y : Outcomes). y.slice) e in
      record {
        answer = ap (λ (y : Outcomes). y.answer) e ∙ written_answer p os lent ∙ ap (λ (y : Reply). y.answer) (sym (for_any_input p bs ms os lent));
        buffer = ap (λ (y : Outcomes). y.lent) e ∙ written_lent p os lent ∙ sym (write_silent p bs ms os lent);
        now =
            record {
              state = ap₂ (λ (y : Port) (l : List ℕ). get y bs ms l) port slice ∙ state_written p bs ms os lent;
              sizes =
                  ap₂ (λ (k n : ℕ). record { line = k; input = capacity bs ms; output = n }) (ap (λ (y : Port). y.line) port ∙ written_line p os lent)
                  (ap length slice ∙ size_written p os lent);
            };
        exact = (e, refl, refl);
      }

  pub steps_transmit : (lent' : List ℕ) → result r os lent' ≡ after_transmit p os lent → Steps p bs ms os Transmit lent r bs ms os lent'
  unfolding after_transmit
  steps_transmit lent' e =
      let port : r.port ≡ (after_transmit p os lent).port = ap (λ (y : Outcomes). y.port) e in
      let slice : os ≡ (after_transmit p os lent).slice = ap (λ (y : Outcomes). y.slice) e in
      record {
        answer = ap (λ (y : Outcomes). y.answer) e ∙ ap (λ (y : Reply). y.answer) (sym (transmits_for_any_input p bs ms os (length lent)));
        buffer = ap (λ (y : Outcomes). y.lent) e ∙ ap (lent_after lent) (sym (transmits_for_any_input p bs ms os (length lent)));
        now =
            record {
              state = ap₂ (λ (y : Port) (l : List ℕ). get y bs ms l) port slice ∙ state_transmitted p bs ms os lent;
              sizes = ap (λ (y : Port). sizes y bs ms os) port;
            };
        exact = (e, refl, refl);
      }

  flush_silent : (a b c : Bool) (s : State) → lent_after lent (flushing.flushed_on a b c s).1 ≡ lent
  flush_silent true b c s = refl
  flush_silent false true c s = refl
  flush_silent false false true s = refl
  flush_silent false false false s = refl

  pub steps_flush : (choice : ℕ) → Asks p bs ms os (step_of p bs ms os (Flush choice) []) r → Steps p bs ms os (Flush choice) lent r bs ms os lent
  steps_flush choice a =
      record {
        answer = a.answer;
        buffer = sym (flush_silent (eqb choice 1) (eqb choice 2) (eqb choice 3) (get p bs ms os));
        now = flushed_now p bs ms os choice r a;
        exact = (a, refl);
      }

  pub steps_cancel : r ≡ cancelled p (step_of p [] [] [] Cancel []) → Steps p bs ms os Cancel lent r bs ms os lent
  steps_cancel e = let n = cancelled_now p bs ms os r e in record { answer = n.1; buffer = refl; now = n.0; exact = (e, refl) }

  group_silent : (t : Bool) (s : State) (group : ℕ) (orphaned : Bool) → lent_after lent (verdict.foreground_on t s group orphaned).1 ≡ lent
  group_silent true s group orphaned = refl
  group_silent false s group orphaned = refl

  pub steps_foreground : (group : ℕ) (orphaned : Bool) → r ≡ grouped p (step_of p [] [] [] (Foreground group orphaned) [])
      → Steps p bs ms os (Foreground group orphaned) lent r bs ms os lent
  steps_foreground group orphaned e =
      let n = grouped_now p bs ms os group orphaned r e in
      record { answer = n.1; buffer = sym (group_silent (verdict.too_large group) (get p bs ms os) group orphaned); now = n.0; exact = (e, refl) }

  judged_silent : (t : Bool) (s : State) (v : Verdict) → lent_after lent (verdict.judged_on t s v).1 ≡ lent
  judged_silent true s v = refl
  judged_silent false s v = refl

  module _ (who : Process) where
    abbrev t : Bool
    t = verdict.too_large who.group || eqb who.group 0

    pub steps_read_verdict : r ≡ unchanged p (step_of p [] [] [] (ReadVerdict who) []) → Steps p bs ms os (ReadVerdict who) lent r bs ms os lent
    steps_read_verdict e =
        let n = read_judged p bs ms os who r e in
        record {
          answer = n.1;
          buffer = sym (judged_silent t (get p bs ms os) (verdict.read_verdict (get p bs ms os).foreground who));
          now = n.0;
          exact = (e, refl);
        }

    pub steps_write_verdict : r ≡ unchanged p (step_of p [] [] [] (WriteVerdict who) []) → Steps p bs ms os (WriteVerdict who) lent r bs ms os lent
    steps_write_verdict e =
        let n = write_judged p bs ms os who r e in
        record {
          answer = n.1;
          buffer = sym (judged_silent t (get p bs ms os) (verdict.write_verdict (get p bs ms os).settings.tostop (get p bs ms os).foreground who));
          now = n.0;
          exact = (e, refl);
        }

    pub steps_settings_verdict : r ≡ unchanged p (step_of p [] [] [] (SettingsVerdict who) []) → Steps p bs ms os (SettingsVerdict who) lent r bs ms os lent
    steps_settings_verdict e =
        let n = settings_judged p bs ms os who r e in
        record {
          answer = n.1;
          buffer = sym (judged_silent t (get p bs ms os) (verdict.settings_verdict (get p bs ms os).foreground who));
          now = n.0;
          exact = (e, refl);
        }
