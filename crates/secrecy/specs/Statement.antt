-- Demand 3, as it is to be read: two runs that differ in plain bytes received answer alike, but for the bytes that a read
-- delivers. All that is to be believed stands here and in rules. It is proved of the rules in proofs/Theorem.antt; that each
-- premise is needed, in proofs/Needed.antt; that it rules out known faults, in proofs/Faults.antt.
use Rattle.std.specs.Prelude.{ℕ, ◌≡◌, false, List, [], ◌∷◌, get_or}
use Rattle.secrecy.specs.Types.{Settings, Good, Parity, Call, Set, Receive, Read, Write, Transmit, Flush, Cancel, Foreground, ReadVerdict}
use Rattle.secrecy.specs.Types.{WriteVerdict, SettingsVerdict}
use Rattle.rules.specs.Sizes.{Sizes, State}
use Rattle.rules.specs.Settings.{elem, characters, enabled_of}
use Rattle.rules.specs.Refusals.{Reply}
use Rattle.rules.specs.Received.{step1}
use Rattle.rules.specs.Step.{Asked}

---- Words

-- two lists of the same length, R of the two at each place
pub data Each {A : Type 0} (R : A → A → Type 0) : List A → List A → Type 0 where
  none : Each R [] []
  more : {a b : A} {l m : List A} → R a b → Each R l m → Each R (a ∷ l) (b ∷ m)

-- the i-th call, from 0; past the end, one that brings no byte
abbrev pub nth : List Asked → ℕ → Call
nth calls i = (get_or calls i (record { call = Cancel; lent = [] })).call

-- a call that is no change of settings
abbrev pub KeepsSettings : Call → Type 0
KeepsSettings (Set x) = ⊥
KeepsSettings (Receive e) = Unit {0}
KeepsSettings (Read nonblocking) = Unit {0}
KeepsSettings Write = Unit {0}
KeepsSettings Transmit = Unit {0}
KeepsSettings (Flush choice) = Unit {0}
KeepsSettings Cancel = Unit {0}
KeepsSettings (Foreground group orphaned) = Unit {0}
KeepsSettings (ReadVerdict p) = Unit {0}
KeepsSettings (WriteVerdict p) = Unit {0}
KeepsSettings (SettingsVerdict p) = Unit {0}

-- a call that is no read; demand 3 of callers (crate discreet) cites it
abbrev pub NoRead : Call → Type 0
NoRead (Set x) = Unit {0}
NoRead (Receive e) = Unit {0}
NoRead (Read nonblocking) = ⊥
NoRead Write = Unit {0}
NoRead Transmit = Unit {0}
NoRead (Flush choice) = Unit {0}
NoRead Cancel = Unit {0}
NoRead (Foreground group orphaned) = Unit {0}
NoRead (ReadVerdict p) = Unit {0}
NoRead (WriteVerdict p) = Unit {0}
NoRead (SettingsVerdict p) = Unit {0}

---- The premises

-- ECHO clear, WERASE disabled
pub record Quiet (x : Settings) : Type 0 where
  pub no_echo : x.echo ≡ false
  pub no_word_erase : x.werase ≡ 255

abbrev pub reserved : Settings → List ℕ
reserved x = 10 ∷ 13 ∷ 255 ∷ enabled_of (characters x)

-- A plain byte: after any strip to seven bits it is not 10, 13, 255 or an enabled special character.
abbrev pub Plain : Settings → ℕ → Type 0
Plain x b = elem (step1 x b) (reserved x) ≡ false

-- The call brings b as a good byte, and b is plain. A parity-error byte is a good byte with INPCK clear.
pub data Brings (x : Settings) : Call → ℕ → Type 0 where
  good : {b : ℕ} → Plain x b → Brings x (Receive (Good b)) b
  parity : {b : ℕ} → x.inpck ≡ false → Plain x b → Brings x (Receive (Parity b)) b

-- A call of one run, and the call at the same place of the other: the same, or both bring a plain byte.
pub data MayDiffer (x : Settings) (a b : Asked) : Type 0 where
  same : a ≡ b → KeepsSettings a.call → MayDiffer x a b
  differ : (m n : ℕ) → Brings x a.call m → Brings x b.call n → MayDiffer x a b

---- The conclusion

-- A byte that a read gives in one run, and the byte at the same place in the other: the same; or in both runs the byte of
-- the i-th call, after any strip to seven bits, where the i-th calls bring two bytes that differ.
pub data Delivered (x : Settings) (one other : List Asked) : ℕ → ℕ → Type 0 where
  equal : {b : ℕ} → Delivered x one other b b
  of_event : {m n : ℕ} (i : ℕ) → Brings x (nth one i) m → Brings x (nth other i) n → (m ≡ n → ⊥)
      → Delivered x one other (step1 x m) (step1 x n)

-- Outcome (a signal, a verdict, a refusal are outcomes), count and transmitted bytes are the same.
pub record Alike (x : Settings) (one other : List Asked) (r t : Reply) : Type 0 where
  pub answer : r.answer ≡ t.answer
  pub sent : r.sent ≡ t.sent
  pub given : Each (Delivered x one other) r.given t.given

---- Demand 3 of whatever answers a list of calls from a state: any sizes, any state, any calls, call by call

abbrev pub Secret : (Sizes → State → List Asked → List Reply) → Type 0
Secret answers =
    (z : Sizes) (s : State) (one other : List Asked)
    → Quiet s.settings → Each (MayDiffer s.settings) one other
    → Each (Alike s.settings one other) (answers z s one) (answers z s other)
