-- What the promise is worth: no second result meets it, and the state after `set` is the rules' next state, at the same sizes,
-- whatever the output slice is. Assumes nothing.
use mathlib.Core.Path.{◌≡◌, refl, sym, ap, ap₂, subst, ◌∙◌}
use mathlib.Core.Bool.{Bool, true, false}
use mathlib.Core.List.{List, []}
use Prim.Native.Nat.{ℕ, min}
use lib.ListN.{length, take}
use Rattle.rules.specs.declared.Call.TheVariants.{Set}
use Rattle.rules.specs.declared.Settings.{Settings}
use Rattle.rules.specs.Sizes.{State}
use Rattle.rules.specs.Refusals.{Reply}
use Rattle.rules.specs.Settings.{acceptable, changed_input, changed}
use Rattle.rules.specs.Step.{a_read_waits, set_on}
use Rattle.input.specs.Contract as input
use Rattle.input.specs.declared.Input.{Input}
use Rattle.input.proofs.Laws.{After}
use Rattle.output.specs.Contract as output
use Rattle.port.specs.State.{capacity, place_bytes, place_marks, sizes, get}
use Rattle.port.specs.Sending.{refused}
use Rattle.port.specs.declared.Port.{Port}
use Rattle.port.specs.declared.Answered.{Answered}
use Rattle.input.specs.Contract.{Sound}
use Rattle.input.proofs.canonical.GoesOff.{one_laid, off_after}
use Rattle.input.proofs.canonical.GoesOn.{one_line_on, on_after}
use Rattle.port.specs.Calls.{step_of, Now}
use Rattle.port.proofs.Calls.{fitted_sound, fitted_reads}
use Rattle.port.proofs.Promises.{whole, same_answered, same_state, long_again}
use Rattle.discipline.specs.changes.Contract.{Changes, resumed, with_settings, Changed, SetLeaves, Sets}

---- No second result

one_change : (was is : Bool) (i : Input) (bs ms : List ℕ) (r s : Input) (bs' ms' cs ns : List ℕ) → Changes was is i bs ms r bs' ms'
    → Changes was is i bs ms s cs ns → (r ≡ s) × (bs' ≡ cs) × (ms' ≡ ns)
one_change true true i bs ms r s bs' ms' cs ns h k = (h.0 ∙ sym k.0, h.1 ∙ sym k.1, h.2 ∙ sym k.2)
one_change true false i bs ms r s bs' ms' cs ns h k = one_laid h k
one_change false true i bs ms r s bs' ms' cs ns h k =
    let same = one_line_on h.0 k.0 in
    (same.0, h.1 ∙ sym k.1, same.1)
one_change false false i bs ms r s bs' ms' cs ns h k = (h.0 ∙ sym k.0, h.1 ∙ sym k.1, h.2 ∙ sym k.2)

one_left : (t : Bool) (p : Port) (bs ms : List ℕ) (x : Settings) (r q : Port) (bs' ms' cs ns : List ℕ) → SetLeaves t p bs ms x r bs' ms'
    → SetLeaves t p bs ms x q cs ns → (r ≡ q) × (bs' ≡ cs) × (ms' ≡ ns)
one_left true p bs ms x r q bs' ms' cs ns h k = (h.0 ∙ sym k.0, h.1 ∙ sym k.1, h.2 ∙ sym k.2)
one_left false p bs ms x r q bs' ms' cs ns h k =
    let n : ℕ = capacity bs ms in
    let same =
    one_change p.settings.icanon x.icanon (input.fitted n p.input) (place_bytes bs ms) (place_marks bs ms) r.input q.input
    (take n bs') (take n ms') (take n cs) (take n ns) h.input k.input in (
      h.port
          ∙ ap (λ (y : Input). with_settings p x y (resumed p.settings.ixon x.ixon p.output)) same.0
          ∙ sym k.port,
      whole n bs' cs same.1 (h.bytes ∙ sym k.bytes),
      whole n ms' ns same.2 (h.marks ∙ sym k.marks),
    )

pub one_set : {p : Port} {bs ms : List ℕ} {x : Settings} {w : State × Reply} {r q : Answered} {bs' ms' cs ns : List ℕ} → Sets p bs ms x w r bs' ms'
    → Sets p bs ms x w q cs ns → (r ≡ q) × (bs' ≡ cs) × (ms' ≡ ns)
one_set {p} {bs} {ms} {x} {w} {r} {q} {bs'} {ms'} {cs} {ns} h k =
    let s = one_left (refused w.1.answer) p bs ms x r.port q.port bs' ms' cs ns h.leaves k.leaves in
    (same_answered r q s.0 (h.answer ∙ sym k.answer), s.1, s.2)

---- The state after

-- what is held after a change of the input
change_after : (was is : Bool) (i r : Input) (bs ms bs' ms' : List ℕ) → Sound i bs ms → Changes was is i bs ms r bs' ms'
    → After (changed_input was is (input.get i bs ms)) bs ms r bs' ms'
change_after was is i r bs ms bs' ms' sound h = by was is h
  where
    stays : (r ≡ i) × (bs' ≡ bs) × (ms' ≡ ms) → After (input.get i bs ms) bs ms r bs' ms'
    stays k =
        record {
          meaning = ap (λ (y : Input). input.get y bs' ms') k.0 ∙ ap₂ (input.get i) k.1 k.2;
          within = subst (λ (y : Input). input.Within y (length bs)) (sym k.0) sound.within;
          bytes = ap length k.1;
          marks = ap length k.2;
        }

    by : (a b : Bool) → Changes a b i bs ms r bs' ms' → After (changed_input a b (input.get i bs ms)) bs ms r bs' ms'
    by true true k = stays k
    by true false k = off_after i bs ms sound r bs' ms' k
    by false true k =
        subst (λ (y : List ℕ). After (changed_input false true (input.get i bs ms)) bs ms r y ms') (sym k.1) (on_after i bs ms sound r ms' k.0)
    by false false k = stays k

changed_now : (p r : Port) (bs ms os : List ℕ) (x : Settings) (bs' ms' : List ℕ) → Changed p bs ms x r bs' ms'
    → Now p bs ms os (changed (get p bs ms os) x) r bs' ms' os
unfolding get output.get
changed_now p r bs ms os x bs' ms' h =
    let N : ℕ = capacity bs ms in
    let f : Input = input.fitted N p.input in
    let a =
    change_after p.settings.icanon x.icanon f r.input (place_bytes bs ms) (place_marks bs ms) (take N bs') (take N ms')
    (fitted_sound bs ms p f N refl refl) h.input in
    let lb : length bs' ≡ length bs = long_again N bs' bs a.bytes h.bytes in
    let lm : length ms' ≡ length ms = long_again N ms' ms a.marks h.marks in
    let n : capacity bs' ms' ≡ N = ap₂ min lb lm in
    let w : State = changed (get p bs ms os) x in
    record {
      state =
          same_state r.settings w.settings (input.get r.input (place_bytes bs' ms') (place_marks bs' ms')) w.input
          (output.get r.output os) w.output r.foreground w.foreground r.hung w.hung_up r.waiting w.waiting
          (ap (λ (y : Port). y.settings) h.port)
          (ap (λ (k : ℕ). input.get r.input (take k bs') (take k ms')) n ∙ a.meaning
          ∙ ap (changed_input p.settings.icanon x.icanon) (fitted_reads bs ms p))
          (ap (λ (y : Port). output.get y.output os) h.port) (ap (λ (y : Port). y.foreground) h.port) (ap (λ (y : Port). y.hung) h.port)
          (ap (λ (y : Port). y.waiting) h.port);
      sizes =
          ap (λ (y : Port). record { line = y.line; input = capacity bs' ms'; output = length os }) h.port
          ∙ ap (λ (k : ℕ). record { line = p.line; input = k; output = length os }) n;
    }

pub set_now : (p : Port) (bs ms os : List ℕ) (x : Settings) (r : Answered) (bs' ms' : List ℕ) → Sets p bs ms x (step_of p bs ms [] (Set x) []) r bs' ms'
    → Now p bs ms os (step_of p bs ms os (Set x) []).0 r.port bs' ms' os × (r.answer ≡ (step_of p bs ms os (Set x) []).1.answer)
unfolding get
set_now p bs ms os x r bs' ms' h = by (a_read_waits p.waiting) (acceptable x) h.answer h.leaves
  where
    kept : (r.port ≡ p) × (bs' ≡ bs) × (ms' ≡ ms) → Now p bs ms os (get p bs ms os) r.port bs' ms' os
    kept k =
        record {
          state = ap (λ (y : Port). get y bs' ms' os) k.0 ∙ ap₂ (λ (a b : List ℕ). get p a b os) k.1 k.2;
          sizes = ap (λ (y : Port). sizes y bs' ms' os) k.0 ∙ ap₂ (λ (a b : List ℕ). sizes p a b os) k.1 k.2;
        }

    by : (t g : Bool) → r.answer ≡ (set_on t g (get p bs ms []) x).1.answer
        → SetLeaves (refused (set_on t g (get p bs ms []) x).1.answer) p bs ms x r.port bs' ms'
        → Now p bs ms os (set_on t g (get p bs ms os) x).0 r.port bs' ms' os × (r.answer ≡ (set_on t g (get p bs ms os) x).1.answer)
    by true g e k = (kept k, e)
    by false true e k = (changed_now p r.port bs ms os x bs' ms' k, e)
    by false false e k = (kept k, e)
