-- A checker of examples for any port: the rules, and wrong ones.
use Prim.Native.Nat.{ℕ, ◌+◌}
use mathlib.Core.Path.{◌≡◌, refl, ap₂}
use mathlib.Core.Bool.{false}
use mathlib.Core.List.{List, [], ◌∷◌}
use lib.ListN.{length}
use lib.Dec.{eqb}
use borrow.Author.Tests.{eqb-false}
use Rattle.rules.specs.Types.{Settings, Set}
use Rattle.rules.specs.Sizes.{Sizes, State}
use Rattle.rules.specs.Settings.{fresh}
use Rattle.rules.specs.Refusals.{Reply}
use Rattle.rules.specs.Step.{Asked, step_of}

-- Anything that answers calls: what it remembers, what it remembers when fresh, and its step.
pub record Port : Type 1 where
  pub Memory : Type 0
  pub start : Memory
  pub ask : Sizes → Memory → Asked → Memory × Reply

abbrev pub the_rules : Port
the_rules = record { Memory = State; start = fresh; ask = step_of }

-- Settings, calls, and the answers expected of the calls.
pub record Example : Type 0 where
  pub sizes : Sizes
  pub settings : Settings
  pub calls : List Asked
  pub expected : List Reply

abbrev pub answers_from : (p : Port) → Sizes → p.Memory → List Asked → List Reply
answers_from p z m [] = []
answers_from p z m (a ∷ more) = (p.ask z m a).1 ∷ answers_from p z (p.ask z m a).0 more

-- from a fresh port, after the settings are set
abbrev pub answers : Port → Example → List Reply
answers p e =
    answers_from p e.sizes (p.ask e.sizes p.start (record { call = Set e.settings; lent = [] })).0 e.calls

abbrev pub Holds : Port → List Example → Type 0
Holds p [] = Unit {0}
Holds p (e ∷ es) = (answers p e ≡ e.expected) × Holds p es

---- A port is refuted by a number: the sum of its counts and of the bytes that it hands out

abbrev weigh : List Reply → ℕ
weigh [] = 0
weigh (r ∷ rs) = r.answer.count + length r.sent + length r.given + weigh rs

abbrev weigh_all : Port → List Example → ℕ
weigh_all p [] = 0
weigh_all p (e ∷ es) = weigh (answers p e) + weigh_all p es

abbrev weigh_expected : List Example → ℕ
weigh_expected [] = 0
weigh_expected (e ∷ es) = weigh e.expected + weigh_expected es

same_weight : (p : Port) (es : List Example) → Holds p es → weigh_all p es ≡ weigh_expected es
same_weight p [] h = refl
same_weight p (e ∷ es) h = ap₂ (λ (l : List Reply) (n : ℕ). weigh l + n) h.0 (same_weight p es h.1)

pub refuted : (p : Port) (es : List Example) → eqb (weigh_all p es) (weigh_expected es) ≡ false → Holds p es → ⊥
refuted p es t h = eqb-false (weigh_all p es) (weigh_expected es) t (same_weight p es h)
