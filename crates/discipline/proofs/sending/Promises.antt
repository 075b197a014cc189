-- What the promise of a write is worth: the rules answer the same whatever the input is, and the state after a call is the
-- rules' next state. Assumes nothing.
use mathlib.Core.Path.{◌≡◌, refl, sym, ◌∙◌}
use mathlib.Core.Bool.{Bool, true, false, ◌&&◌}
use mathlib.Core.List.{List, []}
use Prim.Native.Nat.{ℕ, ◌%◌, ◌+◌}
use lib.ListN.{length, take, length-drop}
use lib.Dec.{ltb, eqb}
use Rattle.rules.specs.Output as rule
use Rattle.rules.proofs.OutputLaws.{taken_fits}
use Rattle.output.specs.Contract as output
use Rattle.output.proofs.Laws as law
use Rattle.port.specs.State.{sizes, get}
use Rattle.port.specs.Sending.{after_write_by, after_write, after_transmit}
use Rattle.port.specs.declared.Port.{Port}
use Rattle.port.proofs.Results.{get_with}
use native.Mathlib.Omega.{arith}
use Rattle.discipline.specs.declared.sending.Moved.{Moved}
use Rattle.discipline.specs.sending.Contract.{MovesThrough}

---- Whatever the input is

pub for_any_input : (p : Port) (bs ms os src : List ℕ)
    → (rule.write (sizes p bs ms os) (get p bs ms os) src).1 ≡ (rule.write (sizes p [] [] os) (get p [] [] os) src).1
unfolding get
for_any_input p bs ms os src = by p.hung (ltb 0 (length src) && eqb n 0)
  where
    n : ℕ
    n = rule.taken (length os) p.settings (length (output.get p.output os).queue) (output.get p.output os).column src

    by : (a b : Bool) → (rule.written_on a b (get p bs ms os) src n).1 ≡ (rule.written_on a b (get p [] [] os) src n).1
    by true b = refl
    by false true = refl
    by false false = refl

---- The state after

pub state_written : (p : Port) (bs ms os src : List ℕ)
    → get (after_write p os src).port bs ms (after_write p os src).slice ≡ (rule.write (sizes p bs ms os) (get p bs ms os) src).0
unfolding after_write get
state_written p bs ms os src = by p.hung (ltb 0 (length src) && eqb n 0)
  where
    n : ℕ
    n = rule.taken (length os) p.settings (length (output.get p.output os).queue) (output.get p.output os).column src

    by : (a b : Bool)
        → get (after_write_by (rule.written_on a b (get p [] [] os) src n) p os src).port bs ms
        (after_write_by (rule.written_on a b (get p [] [] os) src n) p os src).slice
        ≡ (rule.written_on a b (get p bs ms os) src n).0
    by true b = refl
    by false true = refl
    by false false =
        get_with p bs ms os (rule.written p.settings (output.get p.output os) (take n src)) (p.output.queue.head % length os)
        (taken_fits (length os) p.settings (output.get p.output os) src (law.get_room p.output os))

---- What the promise of a transmit is worth: the rules answer the same whatever the input is, and the state after a call is the
-- rules' next state. Assumes nothing.

pub transmits_for_any_input : (p : Port) (bs ms os : List ℕ) (n : ℕ) → (rule.transmit (get p bs ms os) n).1 ≡ (rule.transmit (get p [] [] os) n).1
unfolding get
transmits_for_any_input p bs ms os n = refl

pub state_transmitted : (p : Port) (bs ms os d : List ℕ)
    → get (after_transmit p os d).port bs ms (after_transmit p os d).slice ≡ (rule.transmit (get p bs ms os) (length d)).0
unfolding after_transmit get
state_transmitted p bs ms os d =
    let k : ℕ = length (rule.oldest (output.get p.output os) (length d)) in
    get_with p bs ms os (rule.transmit (get p [] [] os) (length d)).0.output ((p.output.queue.head + k) % length os)
    (omega (arith, length-drop k (output.get p.output os).queue, law.get_room p.output os))

---- No second result meets the promise

pub one_move : (p : Port) (os src d : List ℕ) (r q : Moved) (m k e f : List ℕ) → MovesThrough p os src d r m e → MovesThrough p os src d q k f
    → (r ≡ q) × (m ≡ k) × (e ≡ f)
one_move p os src d r q m k e f a b = (
  (λ i. record {
    port = (a.port ∙ sym b.port) i;
    written = (a.written ∙ sym b.written) i;
    given = (a.given ∙ sym b.given) i;
  }),
  a.slice ∙ sym b.slice,
  a.buffer ∙ sym b.buffer,
)
