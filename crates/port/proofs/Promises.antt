-- What the promises are worth: no second result meets one, and the state after a call is the rules' next state, at the same sizes.
-- Assumes nothing.
use mathlib.Core.Path.{◌≡◌, sym, ap, ap₂, subst, ◌∙◌}
use mathlib.Core.Bool.{Bool, true, false}
use mathlib.Core.List.{List, ◌++◌}
use Prim.Native.Nat.{ℕ, ◌≤◌, min}
use native.Mathlib.Omega.{arith}
use lib.ListN.{length, take, drop, length-append, take-append-drop}
use Rattle.rules.specs.declared.Answer.{Answer}
use Rattle.std.specs.Prelude.{Option}
use Rattle.rules.specs.declared.Group.{Group}
use Rattle.rules.specs.declared.Settings.{Settings}
use Rattle.rules.specs.declared.Waiting.{Waiting}
use Rattle.rules.specs.Sizes.{State, Input as RuledInput, Output as RuledOutput, used}
use Rattle.rules.specs.Refusals.{Reply}
use Rattle.input.specs.Contract as input
use Rattle.input.specs.declared.Input.{Input}
use Rattle.input.proofs.Laws.{After, get_grown, get_fewer, used_least}
use Rattle.output.specs.Contract as output
use Rattle.output.proofs.Laws as queued
use Rattle.port.specs.State.{capacity, place_bytes, place_marks, sizes, get}
use Rattle.port.specs.Sending.{refused}
use Rattle.port.specs.declared.Port.{Port}
use Rattle.port.specs.declared.Answered.{Answered}
use Rattle.port.proofs.Layers.{one_port}
use Rattle.port.specs.following.Following.{Follows, grown, fewer, Goes}
use Rattle.port.specs.Calls.{Leaves, Calls, Keeps, Asks, Now}
use Rattle.port.proofs.Calls.{bytes_long, both_long}

---- No second result

pub whole : (n : ℕ) (a b : List ℕ) → take n a ≡ take n b → drop n a ≡ drop n b → a ≡ b
whole n a b t d = sym (take-append-drop n a) ∙ ap₂ (λ (x y : List ℕ). x ++ y) t d ∙ take-append-drop n b

one_left : {p : Port} {bs ms os : List ℕ} {w : State} {r q : Port} {bs' ms' os' cs ns qs : List ℕ} → Leaves p bs ms os w r bs' ms' os'
    → Leaves p bs ms os w q cs ns qs → (r ≡ q) × (bs' ≡ cs) × (ms' ≡ ns) × (os' ≡ qs)
one_left {p} {bs} {ms} {os} {w} {r} {q} {bs'} {ms'} {os'} {cs} {ns} {qs} h k =
    let s = one_port h.port k.port in (
      s.0,
      whole (capacity bs ms) bs' cs s.1 (h.bytes ∙ sym k.bytes),
      whole (capacity bs ms) ms' ns s.2 (h.marks ∙ sym k.marks),
      s.3,
    )

pub same_answered : (r q : Answered) → r.port ≡ q.port → r.answer ≡ q.answer → r ≡ q
same_answered r q e f = ap₂ (λ (y : Port) (a : Answer). record { port = y; answer = a }) e f

pub one_call : {p : Port} {bs ms os : List ℕ} {w : State × Reply} {r q : Answered} {bs' ms' os' cs ns qs : List ℕ} → Calls p bs ms os w r bs' ms' os'
    → Calls p bs ms os w q cs ns qs → (r ≡ q) × (bs' ≡ cs) × (ms' ≡ ns) × (os' ≡ qs)
one_call {r = r} {q = q} h k =
    let s = one_left h.leaves k.leaves in
    (same_answered r q s.0 (h.answer ∙ sym k.answer), s.1, s.2, s.3)

one_kept : (t : Bool) (p : Port) (bs ms os : List ℕ) (w : State) (r q : Port) → Keeps t p bs ms os w r → Keeps t p bs ms os w q → r ≡ q
one_kept true p bs ms os w r q h k = h ∙ sym k
one_kept false p bs ms os w r q h k = (one_left h k).0

pub one_asked : {p : Port} {bs ms os : List ℕ} {w : State × Reply} {r q : Answered} → Asks p bs ms os w r → Asks p bs ms os w q → r ≡ q
one_asked {p} {bs} {ms} {os} {w} {r} {q} h k =
    same_answered r q (one_kept (refused w.1.answer) p bs ms os w.0 r.port q.port h.keeps k.keeps) (h.answer ∙ sym k.answer)

---- The state after

followed : (i r : Input) (bs ms bs' ms' : List ℕ) (w : RuledInput) → length bs ≡ length ms → Follows (input.get i bs ms) w → used w ≤ length bs
    → input.InputBecomes i bs ms w r bs' ms' → After w bs ms r bs' ms'
followed i r bs ms bs' ms' w e (grown u es) le b = get_grown i bs ms w e u r bs' ms' es le b
followed i r bs ms bs' ms' w e (fewer k es) le b = get_fewer i bs ms w e k es r bs' ms' b

pub same_state : (x x' : Settings) (i i' : RuledInput) (o o' : RuledOutput) (g g' : Option Group) (h h' : Bool) (t t' : Waiting)
    → x ≡ x' → i ≡ i' → o ≡ o' → g ≡ g' → h ≡ h' → t ≡ t'
    → ◌≡◌ {A = State} (record { settings = x; input = i; output = o; foreground = g; hung_up = h; waiting = t })
    (record { settings = x'; input = i'; output = o'; foreground = g'; hung_up = h'; waiting = t' })
same_state x x' i i' o o' g g' h h' t t' ex ei eo eg eh et = cc

pub long_again : (n : ℕ) (a b : List ℕ) → length (take n a) ≡ length (take n b) → drop n a ≡ drop n b → length a ≡ length b
long_again n a b t d =
    omega (
      arith,
      ap length (take-append-drop n a),
      length-append (take n a) (drop n a),
      ap length (take-append-drop n b),
      length-append (take n b) (drop n b),
      t,
      ap length d,
    )

pub left_now : (p r : Port) (bs ms os bs' ms' os' : List ℕ) (w : State) → Goes (sizes p bs ms os) (get p bs ms os) w → Leaves p bs ms os w r bs' ms' os'
    → Now p bs ms os w r bs' ms' os'
unfolding get
left_now p r bs ms os bs' ms' os' w goes left =
    let N : ℕ = capacity bs ms in
    let b = left.port in
    let a : After w.input (take N bs) (take N ms) r.input (take N bs') (take N ms') =
    followed p.input r.input (take N bs) (take N ms) (take N bs') (take N ms') w.input (both_long bs ms) goes.follows
    (subst (λ (k : ℕ). used w.input ≤ k) (sym (bytes_long bs ms)) goes.places) b.input in
    let lb : length bs' ≡ length bs = long_again N bs' bs a.bytes left.bytes in
    let lm : length ms' ≡ length ms = long_again N ms' ms a.marks left.marks in
    let lo : length os' ≡ length os = queued.same_size p.output r.output os os' w.output b.output in
    let n : capacity bs' ms' ≡ N = ap₂ min lb lm in
    record {
      state =
          same_state r.settings w.settings (input.get r.input (place_bytes bs' ms') (place_marks bs' ms')) w.input
          (output.get r.output os') w.output r.foreground w.foreground r.hung w.hung_up r.waiting w.waiting
          b.settings (ap (λ (k : ℕ). input.get r.input (take k bs') (take k ms')) n ∙ a.meaning)
          (queued.get_after p.output r.output os os' w.output b.output goes.queue) b.foreground b.hung b.waiting;
      sizes =
          ap (λ (k : ℕ). record { line = k; input = capacity bs' ms'; output = length os' }) b.line
          ∙ ap₂ (λ (k m : ℕ). record { line = p.line; input = k; output = m }) n lo;
    }

-- what get reads is within the sizes
module _ (p : Port) (bs ms os : List ℕ) where
  pub within_places : used (get p bs ms os).input ≤ (sizes p bs ms os).input
  unfolding get
  within_places =
      omega (arith, used_least p.input (place_bytes bs ms) (place_marks bs ms) (both_long bs ms), bytes_long bs ms)

  pub within_queue : length (get p bs ms os).output.queue ≤ (sizes p bs ms os).output
  unfolding get
  within_queue = queued.get_room p.output os
