-- The state after a call is the rules' next state, at the same sizes.
-- Assumes nothing.
use mathlib.Core.Path.{◌≡◌, refl, ap, ◌∙◌}
use mathlib.Core.Bool.{Bool, true, false, ◌||◌}
use mathlib.Core.List.{List, []}
use Prim.Native.Nat.{ℕ}
use Rattle.rules.specs.declared.Call.TheVariants.{Foreground, ReadVerdict, WriteVerdict, SettingsVerdict}
use Rattle.rules.specs.Verdicts as verdict
use Rattle.port.specs.State.{sizes, get}
use Rattle.port.specs.declared.Port.{Port}
use Rattle.port.specs.declared.Answered.{Answered}
use Rattle.port.specs.Calls.{step_of, grouped, Now, unchanged}
use lib.Dec.{eqb}
use Rattle.rules.specs.declared.Process.{Process}
use Rattle.rules.specs.declared.Verdict.{Verdict}

module _ (p : Port) (bs ms os : List ℕ) where
  pub grouped_now : (group : ℕ) (orphaned : Bool) (r : Answered) → r ≡ grouped p (step_of p [] [] [] (Foreground group orphaned) [])
      → Now p bs ms os (step_of p bs ms os (Foreground group orphaned) []).0 r.port bs ms os
      × (r.answer ≡ (step_of p bs ms os (Foreground group orphaned) []).1.answer)
  unfolding get
  grouped_now group orphaned r e = (
    record {
      state = ap (λ (y : Answered). get y.port bs ms os) e ∙ (by (verdict.too_large group)).0;
      sizes = ap (λ (y : Answered). sizes y.port bs ms os) e;
    },
    ap (λ (y : Answered). y.answer) e ∙ (by (verdict.too_large group)).1,
  )
    where
      by : (t : Bool)
          → (get (grouped p (verdict.foreground_on t (get p [] [] []) group orphaned)).port bs ms os ≡ (verdict.foreground_on t (get p bs ms os) group
          orphaned).0)
          × ((verdict.foreground_on t (get p [] [] []) group orphaned).1.answer ≡ (verdict.foreground_on t (get p bs ms os) group orphaned).1.answer)
      by true = (refl, refl)
      by false = (refl, refl)

  ---- A verdict

  -- a verdict v, the same whatever the slices are
  judged_now : (who : Process) (v : Verdict) (r : Answered) → r ≡ unchanged p (verdict.judged (get p [] [] []) who v)
      → Now p bs ms os (verdict.judged (get p bs ms os) who v).0 r.port bs ms os × (r.answer ≡ (verdict.judged (get p bs ms os) who v).1.answer)
  judged_now who v r e = (
    record {
      state = ap (λ (y : Answered). get y.port bs ms os) e ∙ (by (verdict.too_large who.group || eqb who.group 0)).0;
      sizes = ap (λ (y : Answered). sizes y.port bs ms os) e;
    },
    ap (λ (y : Answered). y.answer) e ∙ (by (verdict.too_large who.group || eqb who.group 0)).1,
  )
    where
      by : (t : Bool)
          → (get p bs ms os ≡ (verdict.judged_on t (get p bs ms os) v).0)
          × ((verdict.judged_on t (get p [] [] []) v).1.answer ≡ (verdict.judged_on t (get p bs ms os) v).1.answer)
      by true = (refl, refl)
      by false = (refl, refl)

  module _ (who : Process) (r : Answered) where
    pub read_judged : r ≡ unchanged p (step_of p [] [] [] (ReadVerdict who) [])
        → Now p bs ms os (step_of p bs ms os (ReadVerdict who) []).0 r.port bs ms os × (r.answer ≡ (step_of p bs ms os (ReadVerdict who) []).1.answer)
    unfolding get
    read_judged e = judged_now who (verdict.read_verdict p.foreground who) r e

    pub write_judged : r ≡ unchanged p (step_of p [] [] [] (WriteVerdict who) [])
        → Now p bs ms os (step_of p bs ms os (WriteVerdict who) []).0 r.port bs ms os × (r.answer ≡ (step_of p bs ms os (WriteVerdict who) []).1.answer)
    unfolding get
    write_judged e = judged_now who (verdict.write_verdict p.settings.tostop p.foreground who) r e

    pub settings_judged : r ≡ unchanged p (step_of p [] [] [] (SettingsVerdict who) [])
        → Now p bs ms os (step_of p bs ms os (SettingsVerdict who) []).0 r.port bs ms os
        × (r.answer ≡ (step_of p bs ms os (SettingsVerdict who) []).1.answer)
    unfolding get
    settings_judged e = judged_now who (verdict.settings_verdict p.foreground who) r e
