-- A good byte: step 2, and what it means carried out from step 3 on. Assumes nothing.
use mathlib.Core.Path.{◌≡◌, ap, ◌∙◌, subst, refl}
use mathlib.Core.Bool.{false}
use Rattle.rules.specs.declared.Settings.{Settings}
use Rattle.received.specs.Contract.{Answers, Tells, begun}
use mathlib.Core.List.{List}
use Prim.Native.Nat.{ℕ}
use Rattle.rules.specs.Sizes.{Sizes, State, with_input, with_literal_next}
use Rattle.rules.specs.Received as steps
use Rattle.received.specs.meaning.Meaning.{meaning_of}
use Rattle.received.specs.declared.meaning.Meaning.{Meaning}
use Rattle.port.specs.declared.Port.{Port}
use Rattle.port.specs.Layers.{state, Becomes, sizes_of}
use lib.ListN.{length}
use Rattle.rules.specs.declared.Outcome.{Outcome}
use Rattle.input.specs.Contract as input
use Rattle.output.specs.Contract as output
use Rattle.port.proofs.Layers.{as_state}

---- The port at step 3

module _ (p : Port) (bs ms os : List ℕ) where
  -- what it becomes, the port becomes
  begun_becomes : (w : State) (r : Port) (bs' ms' os' : List ℕ) → Becomes (begun p) bs ms os w r bs' ms' os' → Becomes p bs ms os w r bs' ms' os'
  unfolding input.get input.all
  begun_becomes w r bs' ms' os' b =
      record {
        input = record { input = b.input.input; bytes = b.input.bytes; marks = b.input.marks };
        output = record { output = b.output.output; slice = b.output.slice };
        settings = b.settings;
        line = b.line;
        foreground = b.foreground;
        hung = b.hung;
        waiting = b.waiting;
      }

  begun_state : state (begun p) bs ms os ≡ with_input (steps.step2 (state p bs ms os)) (with_literal_next (input.get p.input bs ms) false)
  unfolding input.get input.all output.get
  begun_state = refl

  -- a good byte: what it means is carried out from step 3 on
  pub good_of : (b c : ℕ) (m : Meaning) (q t : Port) (o : Outcome) (bs' ms' os' : List ℕ) → c ≡ steps.step1 p.settings b
      → meaning_of p.settings m ≡ steps.step3 p.settings p.input.literal c → q ≡ begun p → Tells m p.foreground o
      → Becomes q bs ms os (steps.carry (sizes_of q (length bs) (length os)) (state q bs ms os) (meaning_of q.settings m)).0 t bs' ms' os'
      → Answers p bs ms os (steps.good (sizes_of p (length bs) (length os)) (state p bs ms os) b) (record { port = t; outcome = o }) bs' ms' os'
  unfolding input.get
  good_of b c m q t o bs' ms' os' ec em eq tells carried =
      let z : Sizes = sizes_of p (length bs) (length os) in
      let s : State = state p bs ms os in
      let x : Settings = p.settings in
      let v : State = with_input (steps.step2 s) (with_literal_next (input.get p.input bs ms) false) in
      let from : Becomes (begun p) bs ms os (steps.carry z (state (begun p) bs ms os) (meaning_of x m)).0 t bs' ms' os' =
      subst (λ (y : Port). Becomes y bs ms os (steps.carry (sizes_of y (length bs) (length os)) (state y bs ms os) (meaning_of y.settings m)).0 t bs' ms'
      os') eq carried in
      let meant : steps.carry z v (meaning_of x m) ≡ steps.good z s b =
      ap (steps.carry z v) em ∙ ap (λ (y : ℕ). steps.carry z v (steps.step3 x p.input.literal y)) ec in
      let there : steps.carry z (state (begun p) bs ms os) (meaning_of x m) ≡ steps.good z s b =
      ap (λ (y : State). steps.carry z y (meaning_of x m)) begun_state ∙ meant in
      record {
        port =
            as_state p t bs ms os bs' ms' os' (steps.carry z (state (begun p) bs ms os) (meaning_of x m)).0 (steps.good z s b).0
            (ap (λ (y : State × Outcome). y.0) there)
            (begun_becomes (steps.carry z (state (begun p) bs ms os) (meaning_of x m)).0 t bs' ms' os' from);
        outcome =
            tells z (state (begun p) bs ms os) x refl ∙ ap (λ (y : State × Outcome). y.1) there;
      }
