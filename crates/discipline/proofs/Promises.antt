-- No second answer, port, slice or buffer meets the promise of `step`. Assumes nothing.
use mathlib.Core.Path.{◌≡◌, sym, ◌∙◌}
use Rattle.rules.specs.declared.Call.{Call}
use Rattle.rules.specs.declared.Call.TheVariants.{Set, Receive, Read, Write, Transmit, Flush, Cancel, Foreground, ReadVerdict, WriteVerdict}
use Rattle.rules.specs.declared.Call.TheVariants.{SettingsVerdict}
use Rattle.port.specs.Sending.{after_write, after_transmit}
use Rattle.port.specs.declared.Port.{Port}
use Rattle.port.specs.declared.Answered.{Answered}
use Rattle.port.proofs.Results.{one_answer}
use Rattle.port.proofs.Promises.{one_call, one_asked}
use Rattle.discipline.proofs.changes.Promises.{one_set}
use Rattle.discipline.proofs.reads.Promises.{one_taken}
use Rattle.discipline.specs.Contract.{Held, Exact, Stepped, held}

held_is : (k j : Held) → k.bytes ≡ j.bytes → k.marks ≡ j.marks → k.out ≡ j.out → k.lent ≡ j.lent → k ≡ j
held_is k j a b c d = λ i. held (a i) (b i) (c i) (d i)

pub one_exact : (p : Port) (h : Held) (call : Call) (r q : Answered) (k j : Held) → Exact p h call r k → Exact p h call q j → (r ≡ q) × (k ≡ j)
one_exact p h (Set x) r q k j a b =
    let s = one_set a.0 b.0 in (s.0, held_is k j s.1 s.2 (a.1 ∙ sym b.1) (a.2 ∙ sym b.2))
one_exact p h (Receive e) r q k j a b =
    let s = one_call a.0 b.0 in (s.0, held_is k j s.1 s.2 s.3 (a.1 ∙ sym b.1))
one_exact p h (Read nonblocking) r q k j a b =
    let s = one_taken a.0 b.0 in (s.0, held_is k j (a.1 ∙ sym b.1) (a.2 ∙ sym b.2) (a.3 ∙ sym b.3) s.1)
one_exact p h Write r q k j a b =
    let s = one_answer (after_write p h.out h.lent) r q k.out j.out k.lent j.lent a.0 b.0 in
    (s.0, held_is k j (a.1 ∙ sym b.1) (a.2 ∙ sym b.2) s.1 s.2)
one_exact p h Transmit r q k j a b =
    let s = one_answer (after_transmit p h.out h.lent) r q k.out j.out k.lent j.lent a.0 b.0 in
    (s.0, held_is k j (a.1 ∙ sym b.1) (a.2 ∙ sym b.2) s.1 s.2)
one_exact p h (Flush choice) r q k j a b = (one_asked a.0 b.0, a.1 ∙ sym b.1)
one_exact p h Cancel r q k j a b = (a.0 ∙ sym b.0, a.1 ∙ sym b.1)
one_exact p h (Foreground group orphaned) r q k j a b = (a.0 ∙ sym b.0, a.1 ∙ sym b.1)
one_exact p h (ReadVerdict who) r q k j a b = (a.0 ∙ sym b.0, a.1 ∙ sym b.1)
one_exact p h (WriteVerdict who) r q k j a b = (a.0 ∙ sym b.0, a.1 ∙ sym b.1)
one_exact p h (SettingsVerdict who) r q k j a b = (a.0 ∙ sym b.0, a.1 ∙ sym b.1)

pub one_step : (p : Port) (h : Held) (call : Call) (r q : Answered) (k j : Held) → Stepped p h call r k → Stepped p h call q j → (r ≡ q) × (k ≡ j)
one_step p h call r q k j a b = one_exact p h call r q k j a.exact b.exact
