-- One lemma for each way out of the functions that flush. Assumes nothing.
use mathlib.Core.Path.{◌≡◌, refl, sym, ap, ◌∙◌}
use mathlib.Core.Bool.{Bool, true, false}
use mathlib.Core.List.{List, [], ◌∷◌}
use Prim.Native.Nat.{ℕ, ◌%◌, ◌≤◌}
use native.Mathlib.Nat.{mod-mod}
use lib.ListN.{length}
use Rattle.rules.specs.declared.Settings.{Settings}
use Rattle.rules.specs.declared.Waiting.{Waiting}
use Rattle.rules.specs.Sizes.{Sizes, State, Output as RuledOutput, with_input, with_literal_next, with_stopped}
use Rattle.rules.specs.Flushing as flushing
use Rattle.rules.specs.Fit as fit
use Rattle.rules.specs.Output as rule
use Rattle.rules.specs.Echo.{shown, echo_of}
use Rattle.queue.specs.Ring.{stores}
use Rattle.input.specs.Contract as input
use Rattle.input.specs.declared.Input.{Input}
use Rattle.input.proofs.Laws as stored
use Rattle.output.specs.Contract as output
use Rattle.output.specs.declared.Output.{Output}
use Rattle.output.proofs.Laws as queued
use Rattle.output.specs.Contract.{Echoes}
use Rattle.port.specs.State.{with_output}
use Rattle.port.specs.declared.Port.{Port}
use Rattle.port.specs.Layers.{state, sizes_of, Ranged, Becomes, Turns, assembled, Ready}
use Rattle.port.proofs.Layers.{output_stays, input_stays, as_assembled, as_state, stays}
use Rattle.rules.specs.Received as steps
use Rattle.received.specs.flushing.Contract.{literal_to, stop_to}
use native.Mathlib.Omega.{arith}
use Rattle.output.proofs.Laws.{get_room}
use Rattle.port.specs.Sending.{flushed}

module _ (p : Port) (n : ℕ) (os : List ℕ) (g : Ranged p n (length os)) where
  pub flushed_of : (i : Input) (w : Waiting) (r : Port) → i ≡ input.put input.emptied (p.input.queue.head % n)
      → w ≡ flushing.timer_flushed (flushing.between_bytes p.settings) p.waiting → r ≡ assembled p i p.output w
      → Turns p n os (λ z s. flushing.flush_input s) r os
  flushed_of i w r ei ew er bs ms eb em =
      let f : input.InputBecomes p.input bs ms input.emptied (input.put input.emptied (p.input.queue.head % length bs)) bs ms =
      stored.flush_becomes p.input bs ms (eb ∙ sym em) in
      as_assembled p (assembled p i p.output w) r bs ms os bs ms os (flushing.flush_input (state p bs ms os)) er
      (record {
        input = record { input = ei ∙ ap (λ (k : ℕ). input.put input.emptied (p.input.queue.head % k)) (sym eb); bytes = f.bytes; marks = f.marks };
        output = output_stays p.output os g.output;
        settings = refl;
        line = refl;
        foreground = refl;
        hung = refl;
        waiting = ew;
      })

  pub bell_of : (o : Output) (r : Port) (os' : List ℕ) → p.settings.imaxbel ≡ true
      → output.OutputBecomes p.output os (rule.queued_whole (length os) p.settings (output.get p.output os) (7 ∷ [])) o os'
      → r ≡ assembled p p.input o p.waiting → Turns p n os fit.overflow r os'
  bell_of o r os' t b er bs ms eb em =
      let z : Sizes = sizes_of p n (length os) in
      let v : State = state p bs ms os in
      as_state p r bs ms os bs ms os' (fit.overflow_on true z v) (fit.overflow z v) (ap (λ (y : Bool). fit.overflow_on y z v) (sym t))
      (as_assembled p (assembled p p.input o p.waiting) r bs ms os bs ms os' (fit.overflow_on true z v) er
      (record {
        input = input_stays p.input bs ms (eb ∙ sym em) (rw eb g.input);
        output = b;
        settings = refl;
        line = refl;
        foreground = refl;
        hung = refl;
        waiting = refl;
      }))

  pub flushes_of : (r : Port) → p.settings.imaxbel ≡ false → Turns p n os (λ z s. flushing.flush_input s) r os → Turns p n os fit.overflow r os
  flushes_of r t b bs ms eb em =
      let z : Sizes = sizes_of p n (length os) in
      let v : State = state p bs ms os in
      as_state p r bs ms os bs ms os (flushing.flush_input v) (fit.overflow z v) (ap (λ (y : Bool). fit.overflow_on y z v) (sym t)) (b bs ms eb em)

---- A port that then shows something

-- the output of w is in the slice, and then the bytes e are echoed behind it
shown_behind : (x : Settings) (a b o : Output) (os os' e : List ℕ) (w : RuledOutput) → length w.queue ≤ length os → output.OutputBecomes a os w b os
    → Echoes x b os e o os'
    → output.OutputBecomes a os (rule.queued_whole (length os) x w (rule.processed x w.column e)) o os'
shown_behind x a b o os os' e w le h k =
    let n : ℕ = length os in
    let v : RuledOutput = rule.queued_whole n x (output.get b os) (rule.processed x b.column e) in
    let same : v ≡ rule.queued_whole n x w (rule.processed x w.column e) =
    ap (λ (y : RuledOutput). rule.queued_whole n x y (rule.processed x b.column e)) (queued.get_after a b os os w h le)
    ∙ ap (λ (y : ℕ). rule.queued_whole n x w (rule.processed x y e)) (queued.column_after_lem a b os os w h) in
    let head : b.queue.head % n ≡ a.queue.head % n =
    ap (λ (y : ℕ). y % n) (queued.head_after a b os os w h) ∙ mod-mod a.queue.head n in
    queued.becomes a o os os' v (rule.queued_whole n x w (rule.processed x w.column e)) same
    (record { output = k.output ∙ ap (output.put v) head; slice = k.slice ∙ ap (λ (y : ℕ). stores n os y v.queue) head })

-- the port q is the state w and its slices are as they were; then the bytes e are echoed
pub then_shown : (p q r : Port) (bs ms os os' e : List ℕ) (w : State) (o : Output) (n : ℕ) → Becomes p bs ms os w q bs ms os
    → length w.output.queue ≤ length os
    → Echoes w.settings q.output os e o os' → r ≡ with_output q o → Becomes p bs ms os (shown (sizes_of p n (length os)) w e) r bs ms os'
then_shown p q r bs ms os os' e w o n b le k er =
    as_assembled p (with_output q o) r bs ms os bs ms os' (shown (sizes_of p n (length os)) w e) er
    (record {
      input = b.input;
      output = shown_behind w.settings p.output q.output o os os' e w.output le b.output k;
      settings = b.settings;
      line = b.line;
      foreground = b.foreground;
      hung = b.hung;
      waiting = b.waiting;
    })

---- 'Literal next', and stopped output

module _ (p : Port) (bs ms os : List ℕ) (g : Ready p bs ms os) where
  literal_becomes : (l : Bool) → input.InputBecomes p.input bs ms (with_literal_next (input.get p.input bs ms) l) (literal_to l p.input) bs ms
  literal_becomes l =
      let b = input_stays p.input bs ms g.same g.ranged.input in
      record { input = ap (literal_to l) b.input; bytes = b.bytes; marks = b.marks }

  stop_becomes : (t : Bool) → output.OutputBecomes p.output os (with_stopped (output.get p.output os) t) (stop_to t p.output) os
  stop_becomes t =
      let b = output_stays p.output os g.ranged.output in
      record { output = ap (stop_to t) b.output; slice = b.slice }

  pub literal_of : (r : Port) (l : Bool) → r ≡ assembled p (literal_to l p.input) p.output p.waiting
      → Becomes p bs ms os (with_input (state p bs ms os) (with_literal_next (input.get p.input bs ms) l)) r bs ms os
  literal_of r l er =
      as_assembled p (assembled p (literal_to l p.input) p.output p.waiting) r bs ms os bs ms os
      (with_input (state p bs ms os) (with_literal_next (input.get p.input bs ms) l)) er
      (record {
        input = literal_becomes l;
        output = output_stays p.output os g.ranged.output;
        settings = refl;
        line = refl;
        foreground = refl;
        hung = refl;
        waiting = refl;
      })

  pub stopped_of : (r : Port) (t : Bool) → r ≡ with_output p (stop_to t p.output) → Becomes p bs ms os (steps.stopped_to t (state p bs ms os)) r bs ms os
  stopped_of r t er =
      as_assembled p (with_output p (stop_to t p.output)) r bs ms os bs ms os (steps.stopped_to t (state p bs ms os)) er
      (record {
        input = input_stays p.input bs ms g.same g.ranged.input;
        output = stop_becomes t;
        settings = refl;
        line = refl;
        foreground = refl;
        hung = refl;
        waiting = refl;
      })

pub ready_for : (p : Port) (n : ℕ) (bs ms os : List ℕ) → Ranged p n (length os) → length bs ≡ n → length ms ≡ n → Ready p bs ms os
ready_for p n bs ms os g eb em = record { same = eb ∙ sym em; ranged = rw eb g }

---- Flushing, and a signal

module _ (p : Port) (n : ℕ) (os : List ℕ) where
  pub flushed_both : (q r : Port) → Turns p n os (λ z s. flushing.flush_input s) q os → r ≡ flushed q (length os)
      → Turns p n os (λ z s. flushing.flush_both s) r os
  flushed_both q r t er bs ms eb em =
      let b = t bs ms eb em in
      let m : ℕ = length os in
      let empty : RuledOutput = record { queue = []; column = (output.get p.output os).column; stopped = (output.get p.output os).stopped } in
      let h : ℕ = p.output.queue.head % m in
      let o : (flushed q m).output ≡ output.put empty h =
      ap (λ (y : Output). output.put (record { queue = []; column = y.column; stopped = y.stopped }) (y.queue.head % m)) b.output.output
      ∙ ap (output.put empty) (mod-mod p.output.queue.head m) in
      as_assembled p (flushed q m) r bs ms os bs ms os (flushing.flush_both (state p bs ms os)) er
      (record {
        input = b.input;
        output = record { output = o; slice = refl };
        settings = b.settings;
        line = b.line;
        foreground = b.foreground;
        hung = b.hung;
        waiting = b.waiting;
      })

  pub unless_kept : (kept : Bool) → Ranged p n (length os) → kept ≡ true → Turns p n os (λ z s. steps.flushed_unless kept s) p os
  unless_kept kept g e bs ms eb em =
      let s : State = state p bs ms os in
      as_state p p bs ms os bs ms os s (steps.flushed_unless kept s) (ap (λ (y : Bool). steps.flushed_unless y s) (sym e))
      (stays p bs ms os (ready_for p n bs ms os g eb em))

  pub unless_flushed : (kept : Bool) (r : Port) → kept ≡ false → Turns p n os (λ z s. flushing.flush_both s) r os
      → Turns p n os (λ z s. steps.flushed_unless kept s) r os
  unless_flushed kept r e t bs ms eb em =
      let s : State = state p bs ms os in
      as_state p r bs ms os bs ms os (flushing.flush_both s) (steps.flushed_unless kept s)
      (ap (λ (y : Bool). steps.flushed_unless y s) (sym e)) (t bs ms eb em)

  -- flushed or not, then the echo
  pub signals_of : (b : ℕ) (q r : Port) (o : Output) (os' : List ℕ) → Turns p n os (λ z s. steps.flushed_unless p.settings.noflsh s) q os
      → Echoes p.settings q.output os (echo_of p.settings b) o os' → r ≡ with_output q o
      → Turns p n os (λ z s. shown z (steps.flushed_unless s.settings.noflsh s) (echo_of s.settings b)) r os'
  signals_of b q r o os' t k er bs ms eb em = by p.settings.noflsh (t bs ms eb em)
    where
      s : State
      s = state p bs ms os

      e : List ℕ
      e = echo_of p.settings b

      by : (kept : Bool) → Becomes p bs ms os (steps.flushed_unless kept s) q bs ms os
          → Becomes p bs ms os (shown (sizes_of p n (length os)) (steps.flushed_unless kept s) e) r bs ms os'
      by true c = then_shown p q r bs ms os os' e s o n c (get_room p.output os) k er
      by false c = then_shown p q r bs ms os os' e (flushing.flush_both s) o n c (omega arith) k er
