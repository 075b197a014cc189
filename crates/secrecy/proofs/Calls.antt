-- One call commutes with a renaming of stored bytes that leaves the bytes of the call alone, and all below 256.
use Prim.Native.Nat.{ℕ, ◌<◌, ◌≤◌}
use native.Mathlib.Omega.{arith}
use mathlib.Core.Path.{◌≡◌, refl, sym, ap, ap₂, ◌∙◌}
use mathlib.Core.Bool.{Bool, true, false, ◌||◌}
use mathlib.Core.List.{List, [], ◌∷◌, map}
use lib.ListN.{length}
use lib.Dec.{eqb}
use Rattle.secrecy.specs.Types.{Settings, Event, Good, Parity, Framing, Break, Tick, Hangup, Call, Set, Receive, Read, Write, Transmit, Flush}
use Rattle.secrecy.specs.Types.{Cancel, Foreground, ReadVerdict, WriteVerdict, SettingsVerdict, Verdict, Ok}
use Rattle.rules.specs.Sizes.{Sizes, State, unit, with_input, with_literal_next}
use Rattle.rules.specs.Refusals.{says}
use Rattle.rules.specs.Fit.{stores_unit}
use Rattle.rules.specs.Received.{stores, step1, step2, step3, carry, good, silently, break_on, broken_on, parity_on, event, received_on}
use Rattle.rules.specs.Verdicts.{too_large, judged_on, read_verdict, write_verdict, settings_verdict}
use Rattle.rules.specs.Step.{reports, step}
use Rattle.rules.proofs.Truth.{either}
use Rattle.secrecy.specs.Statement.{KeepsSettings, Quiet, Plain, Brings, good as brought, parity}
use Rattle.secrecy.proofs.Rename.{state, both, outcome, silently_to, carry_to, read_to, hangup_on_to, written_on_to, flushed_on_to, foreground_on_to}
use Rattle.secrecy.proofs.Meanings.{plain_stores, blind, meaning_left}

strip_below : (x : Settings) (b n : ℕ) → b < n → step1 x b < n
strip_below x b n h = either (λ (c : ℕ). c < n) x.istrip (omega arith) h

-- the byte of an event, taken as good or not; of a call
abbrev any_byte : Event → ℕ
any_byte (Good b) = b
any_byte (Parity b) = b
any_byte (Framing b) = b
any_byte Break = 0
any_byte Tick = 0
any_byte Hangup = 0

abbrev pub weight : Call → ℕ
weight (Set x) = 0
weight (Receive e) = any_byte e
weight (Read nonblocking) = 0
weight Write = 0
weight Transmit = 0
weight (Flush choice) = 0
weight Cancel = 0
weight (Foreground group orphaned) = 0
weight (ReadVerdict p) = 0
weight (WriteVerdict p) = 0
weight (SettingsVerdict p) = 0

-- what every good byte does before its meaning is carried out
abbrev pub cleared : State → State
cleared s = with_input (step2 s) (with_literal_next s.input false)

-- a good byte that shows nothing is stored as n; a hung-up port ignores it
abbrev pub hidden_on : Bool → Sizes → State → ℕ → State
hidden_on true z s n = s
hidden_on false z s n = stores_unit z (cleared s) (unit false n []) []

-- f leaves all numbers below top alone
module _ (f : ℕ → ℕ) (top : ℕ) (large : 256 ≤ top) (left : (n : ℕ) → n < top → f n ≡ n) (z : Sizes) (s : State) (q : Quiet s.settings) where
  zero_left : f 0 ≡ 0
  zero_left = left 0 (omega arith)

  good_to : (b : ℕ) → b < top → good z (state f s) b ≡ outcome f (good z s b)
  good_to b h =
      let x : Settings = s.settings in
      let c : ℕ = step1 x b in
      let l : Bool = s.input.literal_next in
      ap (carry z (state f (cleared s))) (sym (meaning_left f (λ n k. left n (omega arith)) x l c (left c (strip_below x b top h))))
      ∙ carry_to f z (cleared s) (step3 x l c) zero_left q.no_echo (blind x l c q.no_word_erase)

  silent_to : (b : ℕ) (more : List ℕ) → f b ≡ b → map f more ≡ more → silently z (state f s) b more ≡ outcome f (silently z s b more)
  silent_to b more e d =
      ap (λ (t : State). (t, Ok))
      (ap₂ (λ (n : ℕ) (l : List ℕ). stores_unit z (state f s) (unit true n l) []) (sym e) (sym d) ∙ silently_to f z s true b more [])

  after_zero : (b : ℕ) → b < top → map f (0 ∷ b ∷ []) ≡ 0 ∷ b ∷ []
  after_zero b h = ap₂ (λ (n k : ℕ). n ∷ k ∷ []) zero_left (left b h)

  break_to : (i b p : Bool) → break_on i b p z (state f s) ≡ outcome f (break_on i b p z s)
  break_to true b p = refl
  break_to false true p = refl
  break_to false false true = silent_to 255 (0 ∷ 0 ∷ []) (left 255 (omega arith)) (after_zero 0 (omega arith))
  break_to false false false = silent_to 0 [] zero_left refl

  broken_to : (i p : Bool) (b : ℕ) → b < top → broken_on i p z (state f s) b ≡ outcome f (broken_on i p z s b)
  broken_to true p b h = refl
  broken_to false true b h = silent_to 255 (0 ∷ b ∷ []) (left 255 (omega arith)) (after_zero b h)
  broken_to false false b h = silent_to 0 [] zero_left refl

  parity_to : (t : Bool) (b : ℕ) → b < top → parity_on t z (state f s) b ≡ outcome f (parity_on t z s b)
  parity_to true b h = broken_to s.settings.ignpar s.settings.parmrk b h
  parity_to false b h = good_to b h

  event_to : (e : Event) → any_byte e < top → event z (state f s) e ≡ outcome f (event z s e)
  event_to (Good b) h = good_to b h
  event_to (Parity b) h = parity_to s.settings.inpck b h
  event_to (Framing b) h = broken_to s.settings.ignpar s.settings.parmrk b h
  event_to Break h = break_to s.settings.ignbrk s.settings.brkint s.settings.parmrk
  event_to Tick h = refl
  event_to Hangup h = hangup_on_to f s.settings.clocal s

  received_to : (t : Bool) (e : Event) → any_byte e < top → received_on t z (state f s) e ≡ outcome f (received_on t z s e)
  received_to true e h = refl
  received_to false e h = event_to e h

  judged_to : (t : Bool) (v : Verdict) → judged_on t (state f s) v ≡ both f (judged_on t s v)
  judged_to true v = refl
  judged_to false v = refl

  pub step_to : (c : Call) (lent : List ℕ) → KeepsSettings c → weight c < top → step z (state f s) c lent ≡ both f (step z s c lent)
  step_to (Set x) lent k h = absurd k
  step_to (Receive e) lent k h = ap (reports e) (received_to s.hung_up e h)
  step_to (Read nonblocking) lent k h = read_to f s nonblocking (length lent)
  step_to Write lent k h = written_on_to f s.hung_up _ s lent _
  step_to Transmit lent k h = refl
  step_to (Flush choice) lent k h = flushed_on_to f (eqb choice 1) (eqb choice 2) (eqb choice 3) s
  step_to Cancel lent k h = refl
  step_to (Foreground group orphaned) lent k h = foreground_on_to f (too_large group) s group orphaned
  step_to (ReadVerdict p) lent k h = judged_to (too_large p.group || eqb p.group 0) (read_verdict s.foreground p)
  step_to (WriteVerdict p) lent k h = judged_to (too_large p.group || eqb p.group 0) (write_verdict s.settings.tostop s.foreground p)
  step_to (SettingsVerdict p) lent k h = judged_to (too_large p.group || eqb p.group 0) (settings_verdict s.foreground p)

  -- A plain byte is stored as the number n, where f makes n the byte again.
  module _ (n : ℕ) where
    plain_to : (b : ℕ) → Plain s.settings b → f n ≡ step1 s.settings b
        → good z (state f s) b ≡ outcome f (stores_unit z (cleared s) (unit false n []) [], Ok)
    plain_to b p e =
        ap (carry z (state f (cleared s)))
        (plain_stores s.settings s.input.literal_next (step1 s.settings b) q.no_echo p ∙ ap (λ (c : ℕ). stores c [] []) (sym e))
        ∙ carry_to f z (cleared s) (stores n [] []) zero_left q.no_echo tt

    hidden_to : (t : Bool) (b : ℕ) → Plain s.settings b → f n ≡ step1 s.settings b
        → reports (Good b) (received_on t z (state f s) (Good b)) ≡ both f (hidden_on t z s n, says Ok 1)
    hidden_to true b p e = refl
    hidden_to false b p e = ap (reports (Good b)) (plain_to b p e)

    parity_good : (t : Bool) (b : ℕ) → s.settings.inpck ≡ false
        → reports (Parity b) (received_on t z (state f s) (Parity b)) ≡ reports (Good b) (received_on t z (state f s) (Good b))
    parity_good true b i = refl
    parity_good false b i = ap (λ (c : Bool). reports (Good b) (parity_on c z (state f s) b)) i

    pub brings_to : {c : Call} {b : ℕ} (lent : List ℕ) → Brings s.settings c b → f n ≡ step1 s.settings b
        → step z (state f s) c lent ≡ both f (hidden_on s.hung_up z s n, says Ok 1)
    brings_to lent (brought p) e = hidden_to s.hung_up _ p e
    brings_to lent (parity i p) e = parity_good s.hung_up _ i ∙ hidden_to s.hung_up _ p e
