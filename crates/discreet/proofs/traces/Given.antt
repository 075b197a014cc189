-- Only a record of kind 8 is answered with bytes that a read gives. Assumes nothing.
use Prim.Native.Nat.{ℕ}
use mathlib.Core.Path.{◌≡◌, refl}
use mathlib.Core.List.{List}
use Rattle.rules.specs.declared.Call.{Call}
use Rattle.rules.specs.declared.Call.TheVariants.{Set, Receive, Read, Write, Transmit, Flush, Cancel, Foreground, ReadVerdict, WriteVerdict, SettingsVerdict}
use Rattle.rules.specs.Sizes.{Sizes, State}
use Rattle.rules.specs.Trace.{Decoded, well_formed, malformed, decode, answered}
use Rattle.rules.specs.Asked.{ReadBy, Asked}
use Rattle.rules.proofs.Asked.{asked_of}
use Rattle.secrecy.specs.Statement.{NoRead}
use Rattle.secrecy.proofs.Given.{NoneGiven, none_given}

module _ (kind : ℕ) (other : kind ≡ 8 → ⊥) where
  no_read : (c : Call) → ReadBy kind c → NoRead c
  no_read (Set x) r = tt
  no_read (Receive e) r = tt
  no_read (Read nonblocking) r = absurd (other r)
  no_read Write r = tt
  no_read Transmit r = tt
  no_read (Flush choice) r = tt
  no_read Cancel r = tt
  no_read (Foreground group orphaned) r = tt
  no_read (ReadVerdict p) r = tt
  no_read (WriteVerdict p) r = tt
  no_read (SettingsVerdict p) r = tt

  answered_none : (z : Sizes) (s : State) (body : List ℕ) (d : Decoded) → Asked kind body d → NoneGiven (answered z s d)
  answered_none z s body (well_formed a) k = none_given s z a.call a.lent (no_read a.call k.read)
  answered_none z s body malformed k = refl

pub record_gives_none : (z : Sizes) (s : State) (kind : ℕ) (body : List ℕ) → (kind ≡ 8 → ⊥) → NoneGiven (answered z s (decode kind body))
record_gives_none z s kind body other = answered_none kind other z s body (decode kind body) (asked_of kind body)
