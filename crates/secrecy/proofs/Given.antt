-- Only a read gives bytes: the reply to any other call gives none. The same bytes are delivered alike. Assumes nothing.
use Prim.Native.Nat.{ℕ}
use native.Mathlib.Omega.{arith}
use mathlib.Core.Path.{◌≡◌, refl, ap}
use mathlib.Core.List.{List, [], ◌∷◌, ◌++◌}
use lib.ListN.{length}
use Rattle.secrecy.specs.Types.{Settings, Call, Set, Receive, Read, Write, Transmit, Flush, Cancel, Foreground, ReadVerdict, WriteVerdict}
use Rattle.secrecy.specs.Types.{SettingsVerdict}
use Rattle.rules.specs.Sizes.{Sizes, State}
use Rattle.rules.specs.Refusals.{Reply}
use Rattle.rules.specs.Step.{Asked, step}
use Rattle.rules.proofs.Handed.{HandsNone, none_handed}
use Rattle.secrecy.specs.Statement.{Each, none, more, NoRead, Delivered, equal}

-- the reply gives no byte
abbrev pub NoneGiven : State × Reply → Type 0
NoneGiven r = r.1.given ≡ []

last_none : (a b : List ℕ) → (a ++ b) ≡ [] → b ≡ []
last_none [] b e = e
last_none (x ∷ a) b e = absurd (omega (arith, ap length e))

module _ (s : State) where
  handed_none : (z : Sizes) (c : Call) (l : List ℕ) → HandsNone c → NoneGiven (step z s c l)
  handed_none z c l k = last_none (step z s c l).1.sent (step z s c l).1.given (none_handed s z c l k)

  pub none_given : (z : Sizes) (c : Call) (l : List ℕ) → NoRead c → NoneGiven (step z s c l)
  none_given z (Set x) l k = handed_none z (Set x) l tt
  none_given z (Receive e) l k = handed_none z (Receive e) l tt
  none_given z (Read nonblocking) l k = absurd k
  none_given z Write l k = handed_none z Write l tt
  none_given z Transmit l k = refl
  none_given z (Flush choice) l k = handed_none z (Flush choice) l tt
  none_given z Cancel l k = handed_none z Cancel l tt
  none_given z (Foreground group orphaned) l k = handed_none z (Foreground group orphaned) l tt
  none_given z (ReadVerdict p) l k = handed_none z (ReadVerdict p) l tt
  none_given z (WriteVerdict p) l k = handed_none z (WriteVerdict p) l tt
  none_given z (SettingsVerdict p) l k = handed_none z (SettingsVerdict p) l tt

-- the same bytes, delivered in both runs
pub same_delivered : (x : Settings) (one other : List Asked) (l : List ℕ) → Each (Delivered x one other) l l
same_delivered x one other [] = none
same_delivered x one other (b ∷ l) = more equal (same_delivered x one other l)
