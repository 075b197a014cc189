-- One lemma for each way out of an edit. Assumes nothing.
use mathlib.Core.Path.{◌≡◌, refl, sym, ap, subst, ◌∙◌}
use mathlib.Core.Bool.{Bool, true, false}
use mathlib.Core.List.{List, [], ◌∷◌}
use Prim.Native.Nat.{ℕ, ◌≤◌, ◌<◌}
use native.Mathlib.Omega.{arith}
use lib.ListN.{length}
use lib.Dec.{leb}
use borrow.Author.Tests.{leb-true, leb-false}
use Rattle.rules.specs.Sizes.{Sizes, State, Place, with_input}
use Rattle.rules.specs.Editing.{Edit, units, places_of, removed, edited, reprint}
use Rattle.rules.specs.Echo.{shown, edit_echo}
use Rattle.rules.specs.Received.{edit_on}
use Rattle.input.specs.Contract as input
use Rattle.input.proofs.Laws.{current_length}
use Rattle.output.specs.declared.Output.{Output}
use Rattle.output.proofs.Laws.{get_room}
use Rattle.output.specs.Contract.{Echoes}
use Rattle.editing.specs.declared.Run.{Run}
use Rattle.editing.proofs.Laws.{places_units, edited_becomes}
use Rattle.port.specs.State.{with_output}
use Rattle.port.specs.declared.Port.{Port}
use Rattle.port.specs.Layers.{state, sizes_of, units_of, Ranged, Ready, Becomes}
use Rattle.port.proofs.Layers.{as_state, as_assembled, output_stays, stays}
use Rattle.received.proofs.flushing.Laws.{then_shown}
use Rattle.received.specs.Contract.{Does}
use Rattle.received.specs.edits.Contract.{without, Removed, edits, Edited}

no_places : (l : List Place) → length l ≤ 0 → l ≡ []
no_places [] le = refl
no_places (q ∷ l) le = absurd (omega arith)

no_units : (l : List Place) → units l ≡ [] → length l ≤ 0
no_units l e = omega (arith, ap length (sym (places_units l) ∙ ap places_of e))

-- the edits that do nothing on an empty line
abbrev Removing : Edit → Type 0
Removing e = (z : Sizes) (s : State) (b : ℕ) → edit_on [] z s e b ≡ s

-- on a line that has a unit
some_units : (us : List (List Place)) (z : Sizes) (s : State) (e : Edit) (b : ℕ) → (us ≡ [] → ⊥)
    → shown z (with_input s (edited s.settings e s.input)) (edit_echo s.settings e b (removed s.settings e us) us) ≡ edit_on us z s e b
some_units [] z s e b some = absurd (some refl)
some_units (u ∷ us) z s e b some = refl

module _ (p : Port) (n : ℕ) (os : List ℕ) (g : Ranged p n (length os)) (run : Run) (b : ℕ) where
  ready : (bs ms : List ℕ) → length bs ≡ n → length ms ≡ n → Ready p bs ms os
  ready bs ms eb em = record { same = eb ∙ sym em; ranged = rw eb g }

  -- the line is empty
  pub nothing_edited : (e : Edit) (t : Bool) → Removing e → t ≡ leb p.input.queue.len p.input.ready → t ≡ true → Edited p n os run b p os e
  nothing_edited e t none et full bs ms eb em removes =
      let z : Sizes = sizes_of p n (length os) in
      let s : State = state p bs ms os in
      let k : p.input.queue.len ≤ p.input.ready = leb-true p.input.queue.len p.input.ready (sym et ∙ full) in
      let empty : units_of p bs ms ≡ [] =
      ap units (no_places (input.get p.input bs ms).current (omega (arith, current_length p.input bs ms (eb ∙ sym em) (rw eb g.input)))) in
      as_state p p bs ms os bs ms os s (edit_on (units_of p bs ms) z s e b)
      (sym (ap (λ (us : List (List Place)). edit_on us z s e b) empty ∙ none z s b)) (stays p bs ms os (ready bs ms eb em))

  -- the run is removed, and its echo is shown
  pub removed_shown : (e : Edit) (t : Bool) (q r : Port) (o : Output) (os' : List ℕ) (shows : ℕ → List ℕ)
      → ((k : ℕ) (us : List (List Place)) → shows k ≡ edit_echo p.settings e b k us)
      → t ≡ leb p.input.queue.len p.input.ready → t ≡ false → q ≡ without p run
      → Echoes p.settings q.output os (shows run.units) o os' → r ≡ with_output q o → Edited p n os run b r os' e
  removed_shown e t q r o os' shows echo et some' eq k er bs ms eb em a =
      let z : Sizes = sizes_of p n (length os) in
      let s : State = state p bs ms os in
      let us : List (List Place) = units_of p bs ms in
      let same : length bs ≡ length ms = eb ∙ sym em in
      let lt : p.input.ready < p.input.queue.len = leb-false p.input.queue.len p.input.ready (sym et ∙ some') in
      let some : us ≡ [] → ⊥ =
      λ e'. omega (arith, no_units (input.get p.input bs ms).current e', current_length p.input bs ms same (rw eb g.input)) in
      let w : State = with_input s (edited p.settings e (input.get p.input bs ms)) in
      let cut : Becomes p bs ms os w (without p run) bs ms os =
      record {
        input = edited_becomes p.input bs ms p.settings e run same (rw em g.input) a;
        output = output_stays p.output os g.output;
        settings = refl;
        line = refl;
        foreground = refl;
        hung = refl;
        waiting = refl;
      } in
      let bytes : shows run.units ≡ edit_echo p.settings e b (removed p.settings e us) us =
      ap shows a.count ∙ echo (removed p.settings e us) us in
      as_state p r bs ms os bs ms os' (shown z w (edit_echo p.settings e b (removed p.settings e us) us)) (edit_on us z s e b)
      (some_units us z s e b some)
      (then_shown p q r bs ms os os' (edit_echo p.settings e b (removed p.settings e us) us) w o n
      (as_assembled p (without p run) q bs ms os bs ms os w eq cut)
      (get_room p.output os)
      (subst (λ (y : List ℕ). Echoes p.settings q.output os y o os') bytes k) er)

  -- what is left of an edit, where its echo is what Shows says
  pub removed_as : (e : Edit) (t : Bool) (Shows : List ℕ → Output → List ℕ → Type 0) (r : Port) (os' : List ℕ) (shows : ℕ → List ℕ)
      → Removing e → ((k : ℕ) (us : List (List Place)) → shows k ≡ edit_echo p.settings e b k us) → t ≡ leb p.input.queue.len p.input.ready
      → ((o : Output) → Shows os o os' → Echoes p.settings p.output os (shows run.units) o os') → Removed t Shows p run os r os'
      → Edited p n os run b r os' e
  removed_as e true Shows r os' shows none echo et says h = rw (h.0, h.1) (nothing_edited e true none et refl)
  removed_as e false Shows r os' shows none echo et says h =
      removed_shown e false (without p run) r h.0 os' shows echo et refl refl (says h.0 h.1) h.2

---- REPRINT on a port: the line stays, and its echo is shown

-- the line stays as it is
same_line : (s : State) → with_input s (edited s.settings reprint s.input) ≡ s
same_line s =
    ap (λ (l : List Place). with_input s (record { finished = s.input.finished; current = l; literal_next = s.input.literal_next }))
    (places_units s.input.current)

reprint_shows : (us : List (List Place)) (z : Sizes) (s : State) (b : ℕ) → shown z s (edit_echo s.settings reprint b 0 us) ≡ edit_on us z s reprint b
reprint_shows [] z s b = refl
reprint_shows (u ∷ us) z s b = ap (λ (y : State). shown z y (edit_echo s.settings reprint b 0 (u ∷ us))) (sym (same_line s))

pub reprinted : (p r : Port) (bs ms os os' : List ℕ) (b : ℕ) (o : Output) → Ready p bs ms os
    → Echoes p.settings p.output os (edit_echo p.settings reprint b 0 (units_of p bs ms)) o os' → r ≡ with_output p o
    → Does p bs ms os (edits reprint b) r bs ms os'
reprinted p r bs ms os os' b o g k er =
    let z : Sizes = sizes_of p (length bs) (length os) in
    let s : State = state p bs ms os in
    let e : List ℕ = edit_echo p.settings reprint b 0 (units_of p bs ms) in
    as_state p r bs ms os bs ms os' (shown z s e) (edit_on (units_of p bs ms) z s reprint b) (reprint_shows (units_of p bs ms) z s b)
    (then_shown p p r bs ms os os' e s o (length bs) (stays p bs ms os g) (get_room p.output os) k er)
