-- Only a read and a transmit hand out bytes: the reply to any other call has none. Assumes nothing.
use Prim.Native.Nat.{ℕ}
use mathlib.Core.Path.{◌≡◌, refl}
use mathlib.Core.Bool.{Bool, true, false, ◌&&◌, ◌||◌}
use mathlib.Core.List.{List, []}
use lib.ListN.{length}
use lib.Dec.{eqb, ltb}
use Rattle.rules.specs.Types.{Settings, Call, Set, Receive, Read, Write, Transmit, Flush, Cancel, Foreground, ReadVerdict, WriteVerdict}
use Rattle.rules.specs.Types.{SettingsVerdict, Verdict}
use Rattle.rules.specs.Sizes.{Sizes, State}
use Rattle.rules.specs.Settings.{acceptable}
use Rattle.rules.specs.Refusals.{Reply, handed}
use Rattle.rules.specs.Flushing.{flushed_on}
use Rattle.rules.specs.Output.{taken, written_on}
use Rattle.rules.specs.Verdicts.{too_large, foreground_on, judged_on, read_verdict, write_verdict, settings_verdict}
use Rattle.rules.specs.Step.{a_read_waits, set_on, step}

-- the call is neither a read nor a transmit
abbrev pub HandsNone : Call → Type 0
HandsNone (Set x) = Unit {0}
HandsNone (Receive e) = Unit {0}
HandsNone (Read nonblocking) = ⊥
HandsNone Write = Unit {0}
HandsNone Transmit = ⊥
HandsNone (Flush choice) = Unit {0}
HandsNone Cancel = Unit {0}
HandsNone (Foreground group orphaned) = Unit {0}
HandsNone (ReadVerdict p) = Unit {0}
HandsNone (WriteVerdict p) = Unit {0}
HandsNone (SettingsVerdict p) = Unit {0}

-- the reply hands out no byte
abbrev NoneHanded : State × Reply → Type 0
NoneHanded r = handed r.1 ≡ []

module _ (s : State) where
  set_none : (a b : Bool) (x : Settings) → NoneHanded (set_on a b s x)
  set_none true b x = refl
  set_none false true x = refl
  set_none false false x = refl

  write_none : (a b : Bool) (l : List ℕ) (n : ℕ) → NoneHanded (written_on a b s l n)
  write_none true b l n = refl
  write_none false true l n = refl
  write_none false false l n = refl

  flush_none : (a b c : Bool) → NoneHanded (flushed_on a b c s)
  flush_none true b c = refl
  flush_none false true c = refl
  flush_none false false true = refl
  flush_none false false false = refl

  group_none : (a : Bool) (group : ℕ) (orphaned : Bool) → NoneHanded (foreground_on a s group orphaned)
  group_none true group orphaned = refl
  group_none false group orphaned = refl

  judged_none : (a : Bool) (v : Verdict) → NoneHanded (judged_on a s v)
  judged_none true v = refl
  judged_none false v = refl

  pub none_handed : (z : Sizes) (c : Call) (l : List ℕ) → HandsNone c → NoneHanded (step z s c l)
  none_handed z (Set x) l k = set_none (a_read_waits s.waiting) (acceptable x) x
  none_handed z (Receive e) l k = refl
  none_handed z (Read nonblocking) l k = absurd k
  none_handed z Write l k =
      let n : ℕ = taken z.output s.settings (length s.output.queue) s.output.column l in
      write_none s.hung_up (ltb 0 (length l) && eqb n 0) l n
  none_handed z Transmit l k = absurd k
  none_handed z (Flush choice) l k = flush_none (eqb choice 1) (eqb choice 2) (eqb choice 3)
  none_handed z Cancel l k = refl
  none_handed z (Foreground group orphaned) l k = group_none (too_large group) group orphaned
  none_handed z (ReadVerdict p) l k = judged_none (too_large p.group || eqb p.group 0) (read_verdict s.foreground p)
  none_handed z (WriteVerdict p) l k = judged_none (too_large p.group || eqb p.group 0) (write_verdict s.settings.tostop s.foreground p)
  none_handed z (SettingsVerdict p) l k = judged_none (too_large p.group || eqb p.group 0) (settings_verdict s.foreground p)
