-- What stays, what is put together, and that no second port and slices fit a promise. Assumes nothing.
use mathlib.Core.Path.{◌≡◌, refl, sym, ap, subst, ◌∙◌}
use mathlib.Core.List.{List}
use Prim.Native.Nat.{ℕ, min}
use native.Mathlib.Omega.{arith}
use lib.ListN.{length}
use Rattle.rules.specs.Sizes.{State, Place, Input as RuledInput}
use Rattle.input.specs.Contract as input
use Rattle.input.specs.declared.Input.{Input}
use Rattle.input.proofs.Laws as stored
use Rattle.output.specs.Contract as output
use Rattle.output.specs.declared.Output.{Output}
use Rattle.output.proofs.Laws as queued
use Rattle.port.specs.declared.Port.{Port}
use Rattle.port.specs.Layers.{state, Ready, Becomes}

-- an output in range that stays as it is
pub output_stays : (o : Output) (os : List ℕ) → o ≡ output.in_range (length os) o → output.OutputBecomes o os (output.get o os) o os
output_stays o os e =
    let b : output.OutputBecomes o os (output.get o os) (output.in_range (length os) o) os = queued.stays o os in
    record { output = e ∙ b.output; slice = b.slice }

-- an input in range that stays as it is
pub input_stays : (i : Input) (bs ms : List ℕ) → length bs ≡ length ms → input.Within i (length bs) → input.InputBecomes i bs ms (input.get i bs ms) i bs ms
unfolding input.get
input_stays i bs ms e w =
    let c : input.InputBecomes i bs ms (input.cut_at i bs ms i.queue.len) (input.shortened i.queue.len i) bs ms =
    stored.cut_becomes i bs ms e i.queue.len w w.ready in
    let k : min i.queue.len i.queue.len ≡ i.queue.len = omega arith in
    let r : input.shortened i.queue.len i ≡ i =
    ap (λ (n : ℕ). record { queue = record { head = i.queue.head; len = n }; ready = i.ready; literal = i.literal }) k in
    let m : input.cut_at i bs ms i.queue.len ≡ input.get i bs ms =
    ap (λ (l : List Place). record { finished = (input.get i bs ms).finished; current = l; literal_next = i.literal }) (stored.line_whole i bs ms e w) in
    subst (λ (y : RuledInput). input.InputBecomes i bs ms y i bs ms) m
    (subst (λ (y : Input). input.InputBecomes i bs ms (input.cut_at i bs ms i.queue.len) y bs ms) r c)

-- the port is what was put together
pub as_assembled : (p q r : Port) (bs ms os bs' ms' os' : List ℕ) (w : State) → r ≡ q → Becomes p bs ms os w q bs' ms' os'
    → Becomes p bs ms os w r bs' ms' os'
as_assembled p q r bs ms os bs' ms' os' w e b = subst (λ (y : Port). Becomes p bs ms os w y bs' ms' os') (sym e) b

-- the state by another name
pub as_state : (p r : Port) (bs ms os bs' ms' os' : List ℕ) (w v : State) → w ≡ v → Becomes p bs ms os w r bs' ms' os' → Becomes p bs ms os v r bs' ms' os'
as_state p r bs ms os bs' ms' os' w v e b = subst (λ (y : State). Becomes p bs ms os y r bs' ms' os') e b

---- No second port and slices fit a promise

same_port : (r s : Port) → r.settings ≡ s.settings → r.line ≡ s.line → r.input ≡ s.input → r.output ≡ s.output → r.foreground ≡ s.foreground
    → r.hung ≡ s.hung → r.waiting ≡ s.waiting → r ≡ s
same_port r s a b c d e f g =
    let j : ◌≡◌ {A = Port} (record {
      settings = r.settings;
      line = r.line;
      input = r.input;
      output = r.output;
      foreground = r.foreground;
      hung =
          r.hung;
      waiting = r.waiting;
    }) (record {
      settings = s.settings;
      line = s.line;
      input = s.input;
      output = s.output;
      foreground =
          s.foreground;
      hung = s.hung;
      waiting = s.waiting;
    }) = cc in
    j

pub one_port : {p : Port} {bs ms os : List ℕ} {w : State} {r s : Port} {bs' ms' os' cs ns qs : List ℕ} → Becomes p bs ms os w r bs' ms' os'
    → Becomes p bs ms os w s cs ns qs → (r ≡ s) × (bs' ≡ cs) × (ms' ≡ ns) × (os' ≡ qs)
one_port h k =
    let i = stored.one_input h.input k.input in (
      same_port _ _ (h.settings ∙ sym k.settings) (h.line ∙ sym k.line) i.0 (h.output.output ∙ sym k.output.output)
          (h.foreground ∙ sym k.foreground) (h.hung ∙ sym k.hung) (h.waiting ∙ sym k.waiting),
      i.1,
      i.2,
      h.output.slice ∙ sym k.output.slice,
    )

---- A port that stays

-- nothing happens
pub stays : (p : Port) (bs ms os : List ℕ) → Ready p bs ms os → Becomes p bs ms os (state p bs ms os) p bs ms os
stays p bs ms os g =
    record {
      input = input_stays p.input bs ms g.same g.ranged.input;
      output = output_stays p.output os g.ranged.output;
      settings = refl;
      line = refl;
      foreground = refl;
      hung = refl;
      waiting = refl;
    }
