-- Short runs for Needed and Faults, and how a pair of them is told apart: by a number.
use Prim.Native.Nat.{ℕ, ◌+◌}
use mathlib.Core.Path.{◌≡◌, refl}
use mathlib.Core.Bool.{false, not, ◌&&◌, ◌||◌}
use mathlib.Core.List.{List, [], ◌∷◌}
use lib.ListN.{replicate}
use lib.Dec.{eqb}
use borrow.Author.Tests.{eqb-false}
use Rattle.secrecy.specs.Types.{Settings, Good, Receive, Read, Transmit}
use Rattle.rules.specs.Sizes.{State, fresh_with}
use Rattle.rules.specs.Settings.{elem, settings_of, default_flags}
use Rattle.rules.specs.Refusals.{Reply}
use Rattle.rules.specs.Step.{Asked}
use Rattle.secrecy.specs.Statement.{Each, none, more, Alike}

---- Settings and calls

-- ECHO clear and WERASE disabled; EOL is 5 and EOL2 6; the rest as by default, but for flags set besides
abbrev pub quiet_but : List ℕ → ℕ → Settings
quiet_but flags werase =
    settings_of (λ i. elem i flags || elem i default_flags && not (eqb i 20))
    (4 ∷ 5 ∷ 6 ∷ 127 ∷ werase ∷ 21 ∷ 18 ∷ 3 ∷ 28 ∷ 26 ∷ 17 ∷ 19 ∷ 22 ∷ 1 ∷ 0 ∷ [])

abbrev pub quiet : List ℕ → State
quiet flags = fresh_with (quiet_but flags 255)

abbrev pub receives : ℕ → Asked
receives b = record { call = Receive (Good b); lent = [] }

abbrev pub reads : Asked
reads = record { call = Read false; lent = replicate 9 0 }

abbrev pub transmits : Asked
transmits = record { call = Transmit; lent = replicate 99 0 }

---- What no plain byte may change, and its weight

pub record Seen (r t : Reply) : Type 0 where
  pub answer : r.answer ≡ t.answer
  pub sent : r.sent ≡ t.sent

pub seen : {x : Settings} {one other : List Asked} {l m : List Reply} → Each (Alike x one other) l m → Each Seen l m
seen none = none
seen (more a rest) = more (record { answer = a.answer; sent = a.sent }) (seen rest)

abbrev sum : List ℕ → ℕ
sum [] = 0
sum (b ∷ bs) = b + sum bs

abbrev pub weigh : List Reply → ℕ
weigh [] = 0
weigh (r ∷ rs) = r.answer.count + sum r.sent + weigh rs

same_weight : {l m : List Reply} → Each Seen l m → weigh l ≡ weigh m
same_weight none = refl
same_weight (more {a} {b} {l} {m} s rest) =
    λ i. (s.answer i).count + sum (s.sent i) + same_weight rest i

pub refuted : (l m : List Reply) → eqb (weigh l) (weigh m) ≡ false → Each Seen l m → ⊥
refuted l m t e = eqb-false (weigh l) (weigh m) t (same_weight e)
