-- Demand 2 is a theorem: by induction over the calls, from the promise of `step` alone. Assumes nothing.
use Prim.Native.Nat.{ℕ, min}
use mathlib.Core.Path.{◌≡◌, refl, ap, ap₂, ◌∙◌}
use mathlib.Core.List.{List, [], ◌∷◌}
use Rattle.rules.specs.declared.Answer.{Answer}
use Rattle.rules.specs.Sizes.{Sizes, State}
use Rattle.rules.specs.Refusals.{Reply, lent_after}
use Rattle.rules.specs.Settings.{fresh}
use Rattle.rules.specs.Step.{Asked, step_of}
use Rattle.port.specs.State.{sizes, get}
use Rattle.port.specs.Sending as port
use Rattle.port.specs.declared.Port.{Port}
use Rattle.port.proofs.Fresh.{fresh_state}
use Rattle.discipline.specs.Demand2.{Seen, Makes, shows, Demand2}

-- from any port: what is seen is the rules' run from what the port and its slices are
pub makes_run : (calls : List Asked) (seen : List Seen) (p : Port) (bs ms os : List ℕ) → Makes calls seen p bs ms os
    → seen ≡ shows (sizes p bs ms os) (get p bs ms os) calls
makes_run [] [] p bs ms os m = refl
makes_run [] (v ∷ seen) p bs ms os m = absurd m
makes_run (a ∷ more) [] p bs ms os m = absurd m
makes_run (a ∷ more) (v ∷ seen) p bs ms os m =
    let z : Sizes = sizes p bs ms os in
    let w : State × Reply = step_of z (get p bs ms os) a in
    let now = m.step.now in
    let later : seen ≡ shows z w.0 more =
    makes_run more seen m.answered.port m.bytes m.marks m.out m.rest
    ∙ ap (λ (y : Sizes). shows y (get m.answered.port m.bytes m.marks m.out) more) now.sizes
    ∙ ap (λ (y : State). shows z y more) now.state in
    let this : v ≡ record { answer = w.1.answer; lent = lent_after a.lent w.1 } =
    ap₂ (λ (x : Answer) (l : List ℕ). record { answer = x; lent = l }) (m.answer ∙ m.step.answer) m.step.buffer in
    ap₂ (λ (x : Seen) (l : List Seen). x ∷ l) this later

pub demand_2 : Demand2
demand_2 bs ms os calls seen eb em eo m =
    makes_run calls seen port.fresh bs ms os m
    ∙ ap (λ (y : State). shows (sizes port.fresh bs ms os) y calls) (fresh_state bs ms os)
    ∙ ap (λ (y : Sizes). shows y fresh calls)
    (ap₂ (λ (a b : ℕ). record { line = 254; input = a; output = b }) (ap₂ min eb em) eo)
