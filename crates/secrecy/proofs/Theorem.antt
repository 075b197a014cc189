-- Demand 3 of the rules. The run is made once with a large number in the place of each plain byte; every real run is that
-- one, renamed.
use Prim.Native.Nat.{ℕ, zero, suc, ◌+◌, ◌-◌, ◌<◌, ◌≤◌}
use native.Mathlib.Omega.{arith}
use mathlib.Core.Path.{◌≡◌, refl, sym, ap, ap₂, subst, ◌∙◌}
use mathlib.Core.Bool.{Bool, true, false, not, ◌&&◌, cond, false≢true}
use mathlib.Core.List.{List, [], ◌∷◌, map, map-map}
use lib.Dec.{ltb, eqb}
use borrow.Author.Tests.{lt-ltb, le-ltb, eqb-true, eqb-false, not-true}
use Rattle.secrecy.specs.Types.{Settings, Event, Good, Parity, Framing, Break, Tick, Hangup, Call, Set, Receive, Read, Write, Transmit, Flush}
use Rattle.secrecy.specs.Types.{Cancel, Foreground, ReadVerdict, WriteVerdict, SettingsVerdict, Ok}
use Rattle.rules.specs.Sizes.{Sizes, Place, State, unit, with_input}
use Rattle.rules.specs.Settings.{elem}
use Rattle.rules.specs.Refusals.{Reply, says}
use Rattle.rules.specs.Received.{step1}
use Rattle.rules.specs.Step.{Asked, step_of, run}
use Rattle.rules.proofs.Truth.{and_true}
use Rattle.secrecy.specs.Statement.{Each, none, more, nth, KeepsSettings, Quiet, reserved, Brings, good, parity, MayDiffer, same, differ}
use Rattle.secrecy.specs.Statement.{Delivered, equal, of_event, Alike, Secret}
use Rattle.secrecy.specs.Reports.{Given, fixed, of_call, Report, byte_in, byte_of, reply_of, OneReport}
use Rattle.secrecy.proofs.Rename.{renamed, state, reply, both}
use Rattle.secrecy.proofs.Keeps.{Keeps, unit_keeps, step_keeps}
use Rattle.secrecy.proofs.Calls.{weight, cleared, hidden_on, step_to, brings_to}

---- The calls that bring a plain byte

abbrev is_plain : Settings → ℕ → Bool
is_plain x b = not (elem (step1 x b) (reserved x))

abbrev hides_event : Settings → Event → Bool
hides_event x (Good b) = is_plain x b
hides_event x (Parity b) = not x.inpck && is_plain x b
hides_event x (Framing b) = false
hides_event x Break = false
hides_event x Tick = false
hides_event x Hangup = false

abbrev hides : Settings → Call → Bool
hides x (Receive e) = hides_event x e
hides x (Set y) = false
hides x (Read nonblocking) = false
hides x Write = false
hides x Transmit = false
hides x (Flush choice) = false
hides x Cancel = false
hides x (Foreground group orphaned) = false
hides x (ReadVerdict p) = false
hides x (WriteVerdict p) = false
hides x (SettingsVerdict p) = false

event_brings : (x : Settings) (e : Event) → hides_event x e ≡ true → Brings x (Receive e) (byte_in (Receive e))
event_brings x (Good b) h = good (not-true _ h)
event_brings x (Parity b) h =
    let p : (not x.inpck ≡ true) × (is_plain x b ≡ true) = and_true _ _ h in
    parity (not-true _ p.0) (not-true _ p.1)
event_brings x (Framing b) h = absurd (false≢true h)
event_brings x Break h = absurd (false≢true h)
event_brings x Tick h = absurd (false≢true h)
event_brings x Hangup h = absurd (false≢true h)

hides_brings : (x : Settings) (c : Call) → hides x c ≡ true → Brings x c (byte_in c)
hides_brings x (Receive e) h = event_brings x e h
hides_brings x (Set y) h = absurd (false≢true h)
hides_brings x (Read nonblocking) h = absurd (false≢true h)
hides_brings x Write h = absurd (false≢true h)
hides_brings x Transmit h = absurd (false≢true h)
hides_brings x (Flush choice) h = absurd (false≢true h)
hides_brings x Cancel h = absurd (false≢true h)
hides_brings x (Foreground group orphaned) h = absurd (false≢true h)
hides_brings x (ReadVerdict p) h = absurd (false≢true h)
hides_brings x (WriteVerdict p) h = absurd (false≢true h)
hides_brings x (SettingsVerdict p) h = absurd (false≢true h)

brings_hides : (x : Settings) {c : Call} {b : ℕ} → Brings x c b → hides x c ≡ true
brings_hides x (good p) = ap not p
brings_hides x (parity i p) = rw (i, p)

brings_byte : (x : Settings) {c : Call} {b : ℕ} → Brings x c b → byte_in c ≡ b
brings_byte x (good p) = refl
brings_byte x (parity i p) = refl

brings_keeps : (x : Settings) {c : Call} {b : ℕ} → Brings x c b → KeepsSettings c
brings_keeps x (good p) = tt
brings_keeps x (parity i p) = tt

---- The run on numbers: a plain byte is stored as the number n, the next call's as the next number

abbrev coded_on : Bool → Sizes → State → ℕ → Asked → State × Reply
coded_on true z s n a = (hidden_on s.hung_up z s n, says Ok 1)
coded_on false z s n a = step_of z s a

abbrev coded : Sizes → State → ℕ → Asked → State × Reply
coded z s n a = coded_on (hides s.settings a.call) z s n a

abbrev coded_run : Sizes → State → ℕ → List Asked → List Reply
coded_run z s n [] = []
coded_run z s n (a ∷ l) = (coded z s n a).1 ∷ coded_run z (coded z s n a).0 (suc n) l

hidden_keeps : (t : Bool) (z : Sizes) (s : State) (n : ℕ) → Keeps s (hidden_on t z s n)
hidden_keeps true z s n = refl
hidden_keeps false z s n = unit_keeps z (cleared s) (unit false n []) []

coded_on_keeps : (t : Bool) (z : Sizes) (s : State) (n : ℕ) (a : Asked) → KeepsSettings a.call → Keeps s (coded_on t z s n a).0
coded_on_keeps true z s n a k = hidden_keeps s.hung_up z s n
coded_on_keeps false z s n a k = step_keeps z s a.call a.lent k

differ_keeps : (x : Settings) (a b : Asked) → MayDiffer x a b → KeepsSettings a.call
differ_keeps x a b (same e k) = k
differ_keeps x a b (differ m n p q) = brings_keeps x p

abbrev total : List Asked → ℕ
total [] = 0
total (a ∷ l) = weight a.call + total l

---- One call

module _ (f : ℕ → ℕ) (top : ℕ) (large : 256 ≤ top) (left : (n : ℕ) → n < top → f n ≡ n) (z : Sizes) where
  module _ (s : State) (q : Quiet s.settings) (n : ℕ) where
    same_to : (t : Bool) (a : Asked) → hides s.settings a.call ≡ t → KeepsSettings a.call → weight a.call < top
        → f n ≡ step1 s.settings (byte_in a.call) → step_of z (state f s) a ≡ both f (coded_on t z s n a)
    same_to true a h k w e = brings_to f top large left z s q n a.lent (hides_brings s.settings a.call h) e
    same_to false a h k w e = step_to f top large left z s q a.call a.lent k w

    one_to : (a b : Asked) → MayDiffer s.settings a b → weight a.call < top → f n ≡ step1 s.settings (byte_in b.call)
        → step_of z (state f s) b ≡ both f (coded z s n a)
    one_to a b (same d k) w e =
        ap (step_of z (state f s)) (sym d)
        ∙ same_to (hides s.settings a.call) a refl k w (e ∙ ap (λ (c : Asked). step1 s.settings (byte_in c.call)) (sym d))
    one_to a b (differ m k p r) w e =
        brings_to f top large left z s q n b.lent r (e ∙ ap (step1 s.settings) (brings_byte s.settings r))
        ∙ ap (λ (t : Bool). both f (coded_on t z s n a)) (sym (brings_hides s.settings p))

  ---- All calls

  run_to : (x : Settings) → Quiet x → (s : State) (n : ℕ) {one other : List Asked} → s.settings ≡ x → Each (MayDiffer x) one other
      → ((j : ℕ) → f (n + j) ≡ step1 x (byte_in (nth other j))) → total one < top
      → run z (state f s) other ≡ map (reply f) (coded_run z s n one)
  run_to x q s n e none h w = refl
  run_to x q s n e (more {a} {b} {l} {m} d ds) h w =
      let here : n + 0 ≡ n = omega arith in
      let g : step_of z (state f s) b ≡ both f (coded z s n a)
      = one_to s (subst Quiet (sym e) q) n a b (subst (λ (y : Settings). MayDiffer y a b) (sym e) d) (omega arith)
      (subst (λ (y : Settings). f n ≡ step1 y (byte_in b.call)) (sym e) (rw here at (h 0))) in
      let k : (coded z s n a).0.settings ≡ s.settings
      = coded_on_keeps (hides s.settings a.call) z s n a (differ_keeps x a b d) in
      ap₂ ◌∷◌ (ap (λ (r : State × Reply). r.1) g)
      (ap (λ (r : State × Reply). run z r.0 m) g
      ∙ run_to x q (coded z s n a).0 (suc n) (k ∙ e) ds
      (λ j. let next : n + suc j ≡ suc n + j = omega arith in rw next at (h (suc j))) (omega arith))

---- Numbers below top stand for themselves, the number top + i for the byte of the i-th call

abbrev decode : ℕ → ℕ → Given
decode top n = cond (ltb n top) (fixed n) (of_call (n - top))

abbrev report : ℕ → Reply → Report
report top r = record { answer = r.answer; sent = r.sent; given = map (decode top) r.given }

module _ (x : Settings) (calls : List Asked) (top : ℕ) where
  abbrev name : ℕ → ℕ
  name n = byte_of x calls (decode top n)

  name_small : (n : ℕ) → n < top → name n ≡ n
  name_small n h = rw (lt-ltb n top h)

  name_large : (j : ℕ) → name (top + j) ≡ step1 x (byte_in (nth calls j))
  name_large j =
      let a : ltb (top + j) top ≡ false = le-ltb (top + j) top (omega arith) in
      let b : top + j - top ≡ j = omega arith in
      rw (a, b)

  reports_to : (l : List Reply) → map (reply name) l ≡ map (reply_of x calls) (map (report top) l)
  reports_to [] = refl
  reports_to (r ∷ l) =
      ap₂ ◌∷◌
      (ap (λ (g : List ℕ). record { answer = r.answer; sent = r.sent; given = g }) (sym (map-map (byte_of x calls) (decode top) r.given)))
      (reports_to l)

abbrev heap : List Place → ℕ
heap [] = 0
heap (p ∷ l) = p.byte + heap l

places_left : (f : ℕ → ℕ) (top : ℕ) → ((n : ℕ) → n < top → f n ≡ n) → (l : List Place) → heap l < top → renamed f l ≡ l
places_left f top left [] h = refl
places_left f top left (p ∷ l) h =
    ap₂ ◌∷◌
    (ap (λ (b : ℕ). record { byte = b; starts = p.starts; ends = p.ends; mark = p.mark; silent = p.silent }) (left p.byte (omega arith)))
    (places_left f top left l (omega arith))

state_left : (f : ℕ → ℕ) (top : ℕ) → ((n : ℕ) → n < top → f n ≡ n) → (s : State) → heap s.input.finished < top → heap s.input.current < top
    → state f s ≡ s
state_left f top left s h k =
    ap₂ (λ (l m : List Place). with_input s (record { finished = l; current = m; literal_next = s.input.literal_next }))
    (places_left f top left s.input.finished h) (places_left f top left s.input.current k)

-- above every byte of the state and of the calls
abbrev above : State → List Asked → ℕ
above s calls = 256 + heap s.input.finished + heap s.input.current + total calls

abbrev reports_of : Sizes → State → List Asked → List Report
reports_of z s one = map (report (above s one)) (coded_run z s (above s one) one)

pub reports_fit : (z : Sizes) (s : State) (one other : List Asked) → Quiet s.settings → Each (MayDiffer s.settings) one other
    → run z s other ≡ map (reply_of s.settings other) (reports_of z s one)
reports_fit z s one other q ds =
    let x : Settings = s.settings in
    let top : ℕ = above s one in
    let f : ℕ → ℕ = name x other top in
    ap (λ (t : State). run z t other) (sym (state_left f top (name_small x other top) s (omega arith) (omega arith)))
    ∙ run_to f top (omega arith) (name_small x other top) z x q s top refl ds (name_large x other top) (omega arith)
    ∙ reports_to x other top (coded_run z s top one)

unfoldable pub one_report : OneReport run
one_report z s one q = (reports_of z s one, λ other ds. reports_fit z s one other q ds)

---- Two runs, in words

each_itself : {x : Settings} {one other : List Asked} → Each (MayDiffer x) one other → Each (MayDiffer x) one one
each_itself none = none
each_itself (more (same e k) ds) = more (same refl k) (each_itself ds)
each_itself (more (differ m n p q) ds) = more (differ m m p p) (each_itself ds)

-- what is known of the i-th calls
data Here (x : Settings) (c d : Call) : Type 0 where
  alike : c ≡ d → Here x c d
  brought : (m n : ℕ) → Brings x c m → Brings x d n → Here x c d

here_now : {x : Settings} {a b : Asked} → MayDiffer x a b → Here x a.call b.call
here_now (same e k) = alike (ap (λ (c : Asked). c.call) e)
here_now (differ m n p q) = brought m n p q

here : {x : Settings} {one other : List Asked} → Each (MayDiffer x) one other → (i : ℕ) → Here x (nth one i) (nth other i)
here none i = alike refl
here (more d ds) zero = here_now d
here (more d ds) (suc i) = here ds i

module _ (x : Settings) (one other : List Asked) where
  two_bytes : (i m n : ℕ) (t : Bool) → eqb m n ≡ t → Brings x (nth one i) m → Brings x (nth other i) n → Delivered x one other (step1 x m) (step1 x n)
  two_bytes i m n true e p q = rw (eqb-true m n e) equal
  two_bytes i m n false e p q = of_event i p q (eqb-false m n e)

  here_delivered : (i : ℕ) → Here x (nth one i) (nth other i)
      → Delivered x one other (step1 x (byte_in (nth one i))) (step1 x (byte_in (nth other i)))
  here_delivered i (alike e) = rw e equal
  here_delivered i (brought m n p q) =
      rw (brings_byte x p, brings_byte x q) (two_bytes i m n (eqb m n) refl p q)

  module _ (ds : Each (MayDiffer x) one other) where
    delivered : (g : Given) → Delivered x one other (byte_of x one g) (byte_of x other g)
    delivered (fixed b) = equal
    delivered (of_call i) = here_delivered i (here ds i)

    all_delivered : (gs : List Given) → Each (Delivered x one other) (map (byte_of x one) gs) (map (byte_of x other) gs)
    all_delivered [] = none
    all_delivered (g ∷ gs) = more (delivered g) (all_delivered gs)

    all_alike : (rs : List Report) → Each (Alike x one other) (map (reply_of x one) rs) (map (reply_of x other) rs)
    all_alike [] = none
    all_alike (r ∷ rs) = more (record { answer = refl; sent = refl; given = all_delivered r.given }) (all_alike rs)

-- DEMAND 3
pub secrecy : Secret run
secrecy z s one other q ds =
    rw (reports_fit z s one one q (each_itself ds), reports_fit z s one other q ds)
    (all_alike s.settings one other ds (reports_of z s one))
