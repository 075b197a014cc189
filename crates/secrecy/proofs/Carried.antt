-- Whatever answers each call as the rules do has demand 3 too: a port by its promise, and what calls it.
use mathlib.Core.Path.{◌≡◌, refl, ap, ap₂, ◌∙◌}
use mathlib.Core.List.{List, [], ◌∷◌}
use Rattle.rules.specs.Sizes.{Sizes, State}
use Rattle.rules.specs.Refusals.{Reply}
use Rattle.rules.specs.Step.{Asked, step_of, run}
use Rattle.secrecy.specs.Statement.{Each, Quiet, MayDiffer, Alike}
use Rattle.secrecy.proofs.Theorem.{secrecy}

abbrev pub answers : {Memory : Type 0} → (Memory → Asked → Memory × Reply) → Memory → List Asked → List Reply
answers ask m [] = []
answers ask m (a ∷ l) = (ask m a).1 ∷ answers ask (ask m a).0 l

-- The promise: get reads what is remembered as a state of the rules; the state after a call and the reply are the rules'.
module _ {Memory : Type 0} (z : Sizes) (get : Memory → State) (ask : Memory → Asked → Memory × Reply)
    (next : (m : Memory) (a : Asked) → get (ask m a).0 ≡ (step_of z (get m) a).0)
    (said : (m : Memory) (a : Asked) → (ask m a).1 ≡ (step_of z (get m) a).1) where
  pub follows : (m : Memory) (l : List Asked) → answers ask m l ≡ run z (get m) l
  follows m [] = refl
  follows m (a ∷ l) = ap₂ ◌∷◌ (said m a) (follows (ask m a).0 l ∙ ap (λ (s : State). run z s l) (next m a))

  pub carried : (m : Memory) (one other : List Asked) → Quiet (get m).settings → Each (MayDiffer (get m).settings) one other
      → Each (Alike (get m).settings one other) (answers ask m one) (answers ask m other)
  carried m one other q ds = rw (follows m one, follows m other) (secrecy z (get m) one other q ds)
