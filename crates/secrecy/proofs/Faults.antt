-- The faults that demand 3 is for, each as a step of its own: a short pair of runs breaks the demand.
use Prim.Native.Nat.{ℕ}
use mathlib.Core.Path.{◌≡◌, refl}
use mathlib.Core.Bool.{Bool, true, false}
use mathlib.Core.List.{List, [], ◌∷◌, reverse}
use lib.ListN.{length, take}
use lib.Dec.{eqb}
use Rattle.secrecy.specs.Types.{Settings, Call, Set, Receive, Read, Write, Transmit, Flush, Cancel, Foreground, ReadVerdict, WriteVerdict}
use Rattle.secrecy.specs.Types.{SettingsVerdict}
use Rattle.rules.specs.Sizes.{Sizes, Place, State, base, with_output}
use Rattle.rules.specs.Refusals.{Reply}
use Rattle.rules.specs.Editing.{units}
use Rattle.rules.specs.Echo.{rubout, line_echo, shown}
use Rattle.rules.specs.Output.{expand, column_after, columns_after}
use Rattle.rules.specs.Reads.{bytes_of}
use Rattle.rules.specs.Step.{Asked, step_of, run}
use Rattle.secrecy.specs.Statement.{none, more, KeepsSettings, Plain, good, same, differ, Secret}
use Rattle.secrecy.specs.Reports.{byte_in}
use Rattle.secrecy.proofs.Weigh.{quiet, receives, transmits, weigh, refuted, seen}

abbrev pub Step : Type 0
Step = Sizes → State → Asked → State × Reply

abbrev pub run_of : Step → Sizes → State → List Asked → List Reply
run_of step z s [] = []
run_of step z s (a ∷ l) = (step z s a).1 ∷ run_of step z (step z s a).0 l

-- the run of the right step is the rules' own
pub right : (z : Sizes) (s : State) (l : List Asked) → run_of step_of z s l ≡ run z s l
right z s [] = refl
right z s (a ∷ l) = λ i. (step_of z s a).1 ∷ right z (step_of z s a).0 l i

---- Something more is shown when the character comes, whatever ECHO is

abbrev also_on : Bool → Sizes → State × Reply → List ℕ → State × Reply
also_on true z r bs = (shown z r.0 bs, r.1)
also_on false z r bs = r

abbrev also : (Settings → ℕ) → (Settings → List (List Place) → List ℕ) → Step
also character shows z s a =
    also_on (eqb (byte_in a.call) (character s.settings)) z (step_of z s a) (shows s.settings (units s.input.current))

-- ERASE shows 8,32,8 for each byte that the unit shows as; version 3 did so
abbrev pub rubs_out : Step
rubs_out = also (λ x. x.erase) (λ x us. rubout (length (line_echo x (take 1 us))))

-- REPRINT shows the line
abbrev pub reprints : Step
reprints = also (λ x. x.reprint) line_echo

---- A write starts at the column that the current line would have come to

abbrev is_write : Call → Bool
is_write (Set x) = false
is_write (Receive e) = false
is_write (Read nonblocking) = false
is_write Write = true
is_write Transmit = false
is_write (Flush choice) = false
is_write Cancel = false
is_write (Foreground group orphaned) = false
is_write (ReadVerdict p) = false
is_write (WriteVerdict p) = false
is_write (SettingsVerdict p) = false

abbrev starts_on : Bool → State → State
starts_on true s =
    with_output s
    (record {
      queue = s.output.queue;
      column = columns_after s.settings s.output.column (bytes_of (reverse s.input.current));
      stopped = s.output.stopped;
    })
starts_on false s = s

abbrev pub counts_columns : Step
counts_columns z s a = step_of z (starts_on (is_write a.call) s) a

---- Each breaks demand 3

-- a plain byte m or n, one further call, a transmit
breaks : (step : Step) (flags : List ℕ) (m n : ℕ) (a : Asked)
    → (quiet flags).settings.echo ≡ false → Plain (quiet flags).settings m → Plain (quiet flags).settings n → KeepsSettings a.call
    → eqb (weigh (run_of step base (quiet flags) (receives m ∷ a ∷ transmits ∷ []))) (weigh (run_of step base (quiet flags) (receives n ∷ a ∷ transmits ∷ [])))
    ≡ false
    → Secret (run_of step) → ⊥
breaks step flags m n a e p q k t h =
    refuted _ _ t
    (seen (h base (quiet flags) (receives m ∷ a ∷ transmits ∷ []) (receives n ∷ a ∷ transmits ∷ []) (record { no_echo = e; no_word_erase = refl })
    (more (differ m n (good p) (good q)) (more (same refl k) (more (same refl tt) none)))))

-- byte 1 shows as two bytes, 97 as one
pub rubs_out_is_wrong : Secret (run_of rubs_out) → ⊥
unfolding expand column_after
rubs_out_is_wrong = breaks rubs_out [] 1 97 (receives 127) refl refl refl tt refl

pub reprints_is_wrong : Secret (run_of reprints) → ⊥
unfolding expand column_after
reprints_is_wrong = breaks reprints [] 97 98 (receives 18) refl refl refl tt refl

-- after a tab the write of a tab under TAB3 takes eight spaces, after 97 seven
pub counts_columns_is_wrong : Secret (run_of counts_columns) → ⊥
unfolding expand column_after
counts_columns_is_wrong =
    breaks counts_columns (15 ∷ []) 9 97 (record { call = Write; lent = 9 ∷ [] }) refl refl refl tt refl
