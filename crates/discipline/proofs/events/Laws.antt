-- One lemma for each way out of a call. Assumes nothing.
use mathlib.Core.Path.{◌≡◌, sym, ap, ap₂, subst, ◌∙◌, refl}
use mathlib.Core.List.{List, [], ◌++◌}
use Prim.Native.Nat.{ℕ}
use lib.ListN.{length, take, drop}
use Rattle.rules.specs.declared.Call.TheVariants.{Receive}
use Rattle.rules.specs.declared.Event.{Event}
use Rattle.rules.specs.declared.Outcome.{Outcome}
use Rattle.rules.specs.Sizes.{Sizes, State}
use Rattle.rules.specs.Received as steps
use Rattle.rules.specs.Step.{bytes_in}
use Rattle.port.specs.State.{capacity, place_bytes, place_marks, sizes, get}
use Rattle.port.specs.declared.Port.{Port}
use Rattle.port.specs.declared.Answered.{Answered}
use Rattle.port.specs.Layers.{state, sizes_of, Becomes, Ranged, Turns}
use Rattle.received.specs.Contract.{Answers}
use Rattle.received.specs.declared.Reported.{Reported}
use Rattle.port.proofs.Calls.{bytes_long, within, leaves_of, there, here, ranged_ranged, turned_of}
use Rattle.port.specs.Calls.{step_of, Calls, ranged, Asks}
use Rattle.rules.specs.declared.Outcome.TheVariants.{Ok}
use Rattle.rules.specs.Flushing as flushing
use Rattle.output.specs.Contract as output
use Rattle.port.specs.Sending.{flushed}
use Rattle.port.proofs.Layers.{as_assembled, input_stays}

module _ (p : Port) (bs ms os : List ℕ) where
  abbrev N : ℕ
  N = capacity bs ms

  pub received_of : (e : Event) (q : Port) (n c : ℕ) (r : Reported) (a : Answered) (cs ns os' : List ℕ) → n ≡ N → q ≡ ranged p n (length os)
      → length cs ≡ length (take n bs) → length ns ≡ length (take n ms)
      → Answers q (take n bs) (take n ms) os (steps.received (sizes_of q (length (take n bs)) (length os)) (state q (take n bs) (take n ms) os) e) r cs ns os'
      → c ≡ bytes_in e → a ≡ record { port = r.port; answer = record { outcome = r.outcome; count = c } }
      → Calls p bs ms os (step_of p bs ms os (Receive e) []) a (cs ++ drop n bs) (ns ++ drop n ms) os'
  received_of e q n c r a cs ns os' en eq lc ln h hc ha =
      subst (λ (y : Answered). Calls p bs ms os (step_of p bs ms os (Receive e) []) y (cs ++ drop n bs) (ns ++ drop n ms) os') (sym ha)
      (subst (λ (k : ℕ). Calls p bs ms os (step_of p bs ms os (Receive e) []) (record { port = r.port; answer = record { outcome = r.outcome; count = c } })
      (cs ++ drop k bs) (ns ++ drop k ms) os')
      (sym en) from)
    where
      z : Sizes
      z = sizes_of (within p bs ms os) (length (place_bytes bs ms)) (length os)

      s : State
      s = state (within p bs ms os) (place_bytes bs ms) (place_marks bs ms) os

      same : steps.received z s e ≡ steps.received (sizes p bs ms os) (get p bs ms os) e
      same = ap₂ (λ (y : Sizes) (v : State). steps.received y v e) (there p bs ms os) (here p bs ms os)

      -- what the event comes to on the port y and the first k places
      By : Port → ℕ → Type 0
      By y k =
          Answers y (take k bs) (take k ms) os (steps.received (sizes_of y (length (take k bs)) (length os)) (state y (take k bs) (take k ms) os) e)
          r cs ns os'

      given : Answers (within p bs ms os) (place_bytes bs ms) (place_marks bs ms) os (steps.received z s e) r cs ns os'
      given =
          subst (λ (k : ℕ). By (ranged p k (length os)) N) (sym (bytes_long bs ms))
          (subst (λ (k : ℕ). By (ranged p k (length os)) k) en (subst (λ (y : Port). By y n) eq h))

      long : length cs ≡ length (place_bytes bs ms)
      long = subst (λ (k : ℕ). length cs ≡ length (take k bs)) en lc

      wide : length ns ≡ length (place_marks bs ms)
      wide = subst (λ (k : ℕ). length ns ≡ length (take k ms)) en ln

      from : Calls p bs ms os (step_of p bs ms os (Receive e) []) (record { port = r.port; answer = record { outcome = r.outcome; count = c } })
          (cs ++ drop N bs) (ns ++ drop N ms) os'
      from =
          record {
            answer =
                ap (λ (o : Outcome). record { outcome = o; count = c }) (given.outcome ∙ ap (λ (y : State × Outcome). y.1) same)
                ∙ ap (λ (k : ℕ). record { outcome = (steps.received (sizes p bs ms os) (get p bs ms os) e).1; count = k }) hc;
            leaves =
                leaves_of p bs ms os (steps.received (sizes p bs ms os) (get p bs ms os) e).0 r.port cs ns os' long wide
                (subst (λ (y : State). Becomes (within p bs ms os) (place_bytes bs ms) (place_marks bs ms) os y r.port cs ns os')
                (ap (λ (y : State × Outcome). y.0) same) given.port);
          }

---- One lemma for each way out of `flush`

-- the output alone
flushed_output : (q t : Port) (n : ℕ) (os : List ℕ) → Ranged q n (length os) → t ≡ flushed q (length os) → Turns q n os (λ z s. flushing.flush_output s) t os
unfolding output.get
flushed_output q t n os g et bs ms eb em =
    as_assembled q (flushed q (length os)) t bs ms os bs ms os (flushing.flush_output (state q bs ms os)) et
    (record {
      input = input_stays q.input bs ms (eb ∙ sym em) (rw eb g.input);
      output = record { output = refl; slice = refl };
      settings = refl;
      line = refl;
      foreground = refl;
      hung = refl;
      waiting = refl;
    })

module _ (p : Port) (bs ms os : List ℕ) (q : Port) (n : ℕ) (en : n ≡ capacity bs ms) (eq : q ≡ ranged p n (length os)) where
  module _ (choice : ℕ) (t : Port) (a : Answered) where
    abbrev s : State
    s = get p bs ms os

    pub flush_1 : choice ≡ 1 → Turns q n os (λ z s. flushing.flush_input s) t os → a ≡ record { port = t; answer = record { outcome = Ok; count = 0 } }
        → Asks p bs ms os (flushing.flushed s choice) a
    flush_1 e h ea = rw e (turned_of p bs ms os q n en eq flushing.flush_input t a h ea)

    pub flush_2 : choice ≡ 2 → t ≡ flushed q (length os) → a ≡ record { port = t; answer = record { outcome = Ok; count = 0 } }
        → Asks p bs ms os (flushing.flushed s choice) a
    flush_2 e et ea =
        rw e
        (turned_of p bs ms os q n en eq flushing.flush_output t a (flushed_output q t n os (ranged_ranged p bs ms os q n en eq) et) ea)

    pub flush_3 : choice ≡ 3 → Turns q n os (λ z s. flushing.flush_both s) t os → a ≡ record { port = t; answer = record { outcome = Ok; count = 0 } }
        → Asks p bs ms os (flushing.flushed s choice) a
    flush_3 e h ea = rw e (turned_of p bs ms os q n en eq flushing.flush_both t a h ea)
