-- No call but a change of settings changes the settings.
use Prim.Native.Nat.{ℕ}
use mathlib.Core.Path.{◌≡◌, refl}
use mathlib.Core.Bool.{Bool, true, false, ◌||◌}
use mathlib.Core.List.{List, [], ◌∷◌}
use lib.ListN.{length}
use lib.Dec.{eqb}
use Rattle.secrecy.specs.Types.{Event, Good, Parity, Framing, Break, Tick, Hangup, Call, Set, Receive, Read, Write, Transmit, Flush, Cancel}
use Rattle.secrecy.specs.Types.{Foreground, ReadVerdict, WriteVerdict, SettingsVerdict, Verdict}
use Rattle.rules.specs.Sizes.{Sizes, Place, State, unit, delimiter, end_of_file, with_input, with_literal_next}
use Rattle.rules.specs.Flushing.{flushed_on}
use Rattle.rules.specs.Editing.{Edit, erase, word_erase, kill, reprint, units}
use Rattle.rules.specs.Fit.{unit_fits, end_fits, overflow_on, unit_on, stores_unit, end_on, stores_end}
use Rattle.rules.specs.Received.{Meaning, literal_next, signals, stops, starts, drops, edits, ends, marks, stores, step1, step2, step3, flushed_unless}
use Rattle.rules.specs.Received.{edit_on, carry, good, break_on, broken_on, parity_on, hangup_on, event, received_on}
use Rattle.rules.specs.Output.{written_on}
use Rattle.rules.specs.Reads.{is_empty, done_on, ruled_on, clashes, read_on}
use Rattle.rules.specs.Verdicts.{too_large, foreground_on, judged_on, read_verdict, write_verdict, settings_verdict}
use Rattle.rules.specs.Step.{step}
use Rattle.secrecy.specs.Statement.{KeepsSettings}

-- the state t has the settings of s
abbrev pub Keeps : State → State → Type 0
Keeps s t = t.settings ≡ s.settings

module _ (z : Sizes) (s : State) where
  overflow_keeps : (t : Bool) → Keeps s (overflow_on t z s)
  overflow_keeps true = refl
  overflow_keeps false = refl

  unit_on_keeps : (t : Bool) (u : List Place) (echo : List ℕ) → Keeps s (unit_on t z s u echo)
  unit_on_keeps true u echo = refl
  unit_on_keeps false u echo = overflow_keeps s.settings.imaxbel

  pub unit_keeps : (u : List Place) (echo : List ℕ) → Keeps s (stores_unit z s u echo)
  unit_keeps u echo = unit_on_keeps (unit_fits s.settings.icanon z s.input (length u)) u echo

  end_on_keeps : (t : Bool) (p : Place) (echo : List ℕ) → Keeps s (end_on t z s p echo)
  end_on_keeps true p echo = refl
  end_on_keeps false p echo = overflow_keeps s.settings.imaxbel

  end_keeps : (p : Place) (echo : List ℕ) → Keeps s (stores_end z s p echo)
  end_keeps p echo = end_on_keeps (end_fits z s.input) p echo

  edit_keeps : (us : List (List Place)) (e : Edit) (b : ℕ) → Keeps s (edit_on us z s e b)
  edit_keeps [] erase b = refl
  edit_keeps [] word_erase b = refl
  edit_keeps [] kill b = refl
  edit_keeps [] reprint b = refl
  edit_keeps (u ∷ us) e b = refl

  flush_keeps : (t : Bool) → Keeps s (flushed_unless t s)
  flush_keeps true = refl
  flush_keeps false = refl

  carry_keeps : (m : Meaning) → Keeps s (carry z s m).0
  carry_keeps literal_next = refl
  carry_keeps (signals g echo) = flush_keeps s.settings.noflsh
  carry_keeps stops = refl
  carry_keeps starts = refl
  carry_keeps drops = refl
  carry_keeps (edits e b) = edit_keeps (units s.input.current) e b
  carry_keeps (ends b echo) = end_keeps (delimiter b) echo
  carry_keeps marks = end_keeps end_of_file []
  carry_keeps (stores b more echo) = unit_keeps (unit false b more) echo

module _ (z : Sizes) (s : State) where
  good_keeps : (b : ℕ) → Keeps s (good z s b).0
  good_keeps b =
      carry_keeps z (with_input (step2 s) (with_literal_next s.input false)) (step3 s.settings s.input.literal_next (step1 s.settings b))

  break_keeps : (i b p : Bool) → Keeps s (break_on i b p z s).0
  break_keeps true b p = refl
  break_keeps false true p = refl
  break_keeps false false true = unit_keeps z s (unit true 255 (0 ∷ 0 ∷ [])) []
  break_keeps false false false = unit_keeps z s (unit true 0 []) []

  broken_keeps : (i p : Bool) (b : ℕ) → Keeps s (broken_on i p z s b).0
  broken_keeps true p b = refl
  broken_keeps false true b = unit_keeps z s (unit true 255 (0 ∷ b ∷ [])) []
  broken_keeps false false b = unit_keeps z s (unit true 0 []) []

  parity_keeps : (t : Bool) (b : ℕ) → Keeps s (parity_on t z s b).0
  parity_keeps true b = broken_keeps s.settings.ignpar s.settings.parmrk b
  parity_keeps false b = good_keeps b

  hangup_keeps : (t : Bool) → Keeps s (hangup_on t s).0
  hangup_keeps true = refl
  hangup_keeps false = refl

  event_keeps : (e : Event) → Keeps s (event z s e).0
  event_keeps (Good b) = good_keeps b
  event_keeps (Parity b) = parity_keeps s.settings.inpck b
  event_keeps (Framing b) = broken_keeps s.settings.ignpar s.settings.parmrk b
  event_keeps Break = break_keeps s.settings.ignbrk s.settings.brkint s.settings.parmrk
  event_keeps Tick = refl
  event_keeps Hangup = hangup_keeps s.settings.clocal

  received_keeps : (t : Bool) (e : Event) → Keeps s (received_on t z s e).0
  received_keeps true e = refl
  received_keeps false e = event_keeps e

  ruled_keeps : (a b c : Bool) (n : ℕ) → Keeps s (ruled_on a b c s n).0
  ruled_keeps true true c n = refl
  ruled_keeps true false c n = refl
  ruled_keeps false b true n = refl
  ruled_keeps false b false n = refl

  read_keeps : (a b c nonblocking : Bool) (n : ℕ) → Keeps s (read_on a b c s nonblocking n).0
  read_keeps true b c nonblocking n = refl
  read_keeps false true c nonblocking n = refl
  read_keeps false false true nonblocking n = refl
  read_keeps false false false nonblocking n =
      ruled_keeps nonblocking (is_empty s.input.finished) (done_on s.settings.icanon s n) n

  write_keeps : (a b : Bool) (bs : List ℕ) (n : ℕ) → Keeps s (written_on a b s bs n).0
  write_keeps true b bs n = refl
  write_keeps false true bs n = refl
  write_keeps false false bs n = refl

  flushed_keeps : (a b c : Bool) → Keeps s (flushed_on a b c s).0
  flushed_keeps true b c = refl
  flushed_keeps false true c = refl
  flushed_keeps false false true = refl
  flushed_keeps false false false = refl

  foreground_keeps : (t : Bool) (group : ℕ) (orphaned : Bool) → Keeps s (foreground_on t s group orphaned).0
  foreground_keeps true group orphaned = refl
  foreground_keeps false group orphaned = refl

  judged_keeps : (t : Bool) (v : Verdict) → Keeps s (judged_on t s v).0
  judged_keeps true v = refl
  judged_keeps false v = refl

  pub step_keeps : (c : Call) (lent : List ℕ) → KeepsSettings c → Keeps s (step z s c lent).0
  step_keeps (Set x) lent k = absurd k
  step_keeps (Receive e) lent k = received_keeps s.hung_up e
  step_keeps (Read nonblocking) lent k =
      read_keeps s.hung_up (clashes s.waiting nonblocking (length lent)) (eqb (length lent) 0) nonblocking (length lent)
  step_keeps Write lent k = write_keeps s.hung_up _ lent _
  step_keeps Transmit lent k = refl
  step_keeps (Flush choice) lent k = flushed_keeps (eqb choice 1) (eqb choice 2) (eqb choice 3)
  step_keeps Cancel lent k = refl
  step_keeps (Foreground group orphaned) lent k = foreground_keeps (too_large group) group orphaned
  step_keeps (ReadVerdict p) lent k = judged_keeps (too_large p.group || eqb p.group 0) (read_verdict s.foreground p)
  step_keeps (WriteVerdict p) lent k = judged_keeps (too_large p.group || eqb p.group 0) (write_verdict s.settings.tostop s.foreground p)
  step_keeps (SettingsVerdict p) lent k = judged_keeps (too_large p.group || eqb p.group 0) (settings_verdict s.foreground p)
