-- One lemma for each way out of the functions that store. Assumes nothing.
use mathlib.Core.Path.{◌≡◌, refl, sym, ap, ◌∙◌}
use mathlib.Core.Bool.{Bool, true, false}
use mathlib.Core.List.{List, []}
use Prim.Native.Nat.{ℕ, ◌+◌, ◌≤◌}
use native.Mathlib.Omega.{arith}
use lib.ListN.{length}
use lib.Dec.{leb, ltb}
use borrow.Author.Tests.{leb-true, ltb-true}
use Rattle.rules.specs.declared.Waiting.{Waiting}
use Rattle.rules.specs.Sizes.{Sizes, State, Place, used, delimiter, end_of_file}
use Rattle.rules.specs.Flushing as flushing
use Rattle.rules.specs.Fit as fit
use Rattle.rules.specs.Echo.{shown}
use Rattle.rules.proofs.Truth.{and_true}
use Rattle.input.specs.Contract as input
use Rattle.input.specs.declared.Input.{Input}
use Rattle.input.proofs.Laws as stored
use Rattle.output.specs.Contract as output
use Rattle.output.specs.declared.Output.{Output}
use Rattle.output.specs.Contract.{Echoes}
use Rattle.port.specs.declared.Port.{Port}
use Rattle.port.specs.Layers.{state, sizes_of, Ready, Becomes, Turns, assembled}
use Rattle.port.proofs.Layers.{as_state, as_assembled}
use Rattle.received.specs.Contract.{Does}
use Rattle.received.specs.storing.Contract.{places_taken, bytes_shown, input_with, Fits, storing}
use Rattle.received.specs.declared.storing.Stored.{Stored}
use Rattle.received.specs.declared.storing.Stored.TheVariants.{Byte, Silent, Delimiter, Mark}

---- A unit k, and what it shows: bytes e, by which the output becomes o

-- the answer of `unit_fits` and of `end_fits` is the rules'
module _ (p : Port) (bs ms os : List ℕ) (g : Ready p bs ms os) where
  unit_tells : (k : ℕ) (t : Bool) → input.TellsUnit p.input (length bs) p.line p.settings.icanon k t
      → t ≡ fit.unit_fits p.settings.icanon (sizes_of p (length bs) (length os)) (input.get p.input bs ms) k
  unit_tells k t tells = tells (length os) bs ms refl (sym g.same)

  end_tells : (t : Bool) → input.TellsEnd p.input (length bs) t
      → t ≡ fit.end_fits (sizes_of p (length bs) (length os)) (input.get p.input bs ms)
  end_tells t tells = tells p.line (length os) bs ms refl (sym g.same)

  places_used : used (input.get p.input bs ms) ≡ p.input.queue.len
  places_used = stored.used_of p.input bs ms g.same g.ranged.input

  unit_free : (c : Bool) (k : ℕ) → fit.unit_fits c (sizes_of p (length bs) (length os)) (input.get p.input bs ms) k ≡ true
      → p.input.queue.len + k ≤ length bs
  unit_free true k f =
      omega (
        arith,
        ltb-true (used (input.get p.input bs ms) + k) (length bs)
            (and_true (leb (length (input.get p.input bs ms).current + k) p.line) (ltb (used (input.get p.input bs ms) + k) (length bs)) f).1,
        places_used,
      )
  unit_free false k f = omega (arith, leb-true (used (input.get p.input bs ms) + k) (length bs) f, places_used)

  unit_room : (k : ℕ) (t : Bool) → input.TellsUnit p.input (length bs) p.line p.settings.icanon k t → t ≡ true → input.Room p.input bs ms k
  unit_room k t tells e =
      record { same = g.same; within = g.ranged.input; room = unit_free p.settings.icanon k (sym (unit_tells k t tells) ∙ e) }

  end_room : (t : Bool) → input.TellsEnd p.input (length bs) t → t ≡ true → input.Room p.input bs ms 1
  end_room t tells e =
      record {
        same = g.same;
        within = g.ranged.input;
        room = omega (arith, ltb-true (used (input.get p.input bs ms)) (length bs) (sym (end_tells t tells) ∙ e), places_used);
      }

  abbrev timed : Waiting
  timed = fit.timer_stored (flushing.between_bytes p.settings) p.settings p.waiting

  -- stored, with the waiting read's timer
  stored_unit : (k : List Place) (e : List ℕ) (t : Bool) (i : Input) (o : Output) (r : Port) (bs' ms' os' : List ℕ)
      → input.TellsUnit p.input (length bs) p.line p.settings.icanon (length k) t → t ≡ true
      → input.InputBecomes p.input bs ms (fit.kept_in p.settings.icanon (input.get p.input bs ms) k) i bs' ms'
      → Echoes p.settings p.output os e o os'
      → r ≡ assembled p i o timed
      → Becomes p bs ms os (fit.stores_unit (sizes_of p (length bs) (length os)) (state p bs ms os) k e) r bs' ms' os'
  unfolding output.get
  stored_unit k e t i o r bs' ms' os' tells fits b shown er =
      let z : Sizes = sizes_of p (length bs) (length os) in
      let v : State = state p bs ms os in
      as_state p r bs ms os bs' ms' os' (fit.unit_on true z v k e) (fit.stores_unit z v k e)
      (ap (λ (y : Bool). fit.unit_on y z v k e) (sym fits ∙ unit_tells (length k) t tells))
      (as_assembled p (assembled p i o timed) r bs ms os bs' ms' os' (fit.unit_on true z v k e) er
      (record { input = b; output = shown; settings = refl; line = refl; foreground = refl; hung = refl; waiting = refl }))

  dropped_unit : (k : List Place) (e : List ℕ) (t : Bool) (r : Port) (os' : List ℕ)
      → input.TellsUnit p.input (length bs) p.line p.settings.icanon (length k) t → t ≡ false → Turns p (length bs) os fit.overflow r os'
      → Becomes p bs ms os (fit.stores_unit (sizes_of p (length bs) (length os)) (state p bs ms os) k e) r bs ms os'
  dropped_unit k e t r os' tells full b =
      let z : Sizes = sizes_of p (length bs) (length os) in
      let v : State = state p bs ms os in
      as_state p r bs ms os bs ms os' (fit.overflow z v) (fit.stores_unit z v k e)
      (ap (λ (y : Bool). fit.unit_on y z v k e) (sym full ∙ unit_tells (length k) t tells)) (b bs ms refl (sym g.same))

  -- a delimiter or a mark
  ended_line : (q : Place) (e : List ℕ) (t : Bool) (i : Input) (o : Output) (r : Port) (bs' ms' os' : List ℕ)
      → input.TellsEnd p.input (length bs) t → t ≡ true
      → input.InputBecomes p.input bs ms (input.ended_in (input.get p.input bs ms) q) i bs' ms'
      → Echoes p.settings p.output os e o os'
      → r ≡ assembled p i o timed
      → Becomes p bs ms os (fit.stores_end (sizes_of p (length bs) (length os)) (state p bs ms os) q e) r bs' ms' os'
  unfolding output.get
  ended_line q e t i o r bs' ms' os' tells fits b shown er =
      let z : Sizes = sizes_of p (length bs) (length os) in
      let v : State = state p bs ms os in
      as_state p r bs ms os bs' ms' os' (fit.end_on true z v q e) (fit.stores_end z v q e)
      (ap (λ (y : Bool). fit.end_on y z v q e) (sym fits ∙ end_tells t tells))
      (as_assembled p (assembled p i o timed) r bs ms os bs' ms' os' (fit.end_on true z v q e) er
      (record { input = b; output = shown; settings = refl; line = refl; foreground = refl; hung = refl; waiting = refl }))

  dropped_end : (q : Place) (e : List ℕ) (t : Bool) (r : Port) (os' : List ℕ)
      → input.TellsEnd p.input (length bs) t → t ≡ false → Turns p (length bs) os fit.overflow r os'
      → Becomes p bs ms os (fit.stores_end (sizes_of p (length bs) (length os)) (state p bs ms os) q e) r bs ms os'
  dropped_end q e t r os' tells full b =
      let z : Sizes = sizes_of p (length bs) (length os) in
      let v : State = state p bs ms os in
      as_state p r bs ms os bs ms os' (fit.overflow z v) (fit.stores_end z v q e)
      (ap (λ (y : Bool). fit.end_on y z v q e) (sym full ∙ end_tells t tells)) (b bs ms refl (sym g.same))

  ---- What is stored, by cases

  pub room_for : (what : Stored) (t : Bool) → Fits p (length bs) what t → t ≡ true → input.Room p.input bs ms (length (places_taken p.settings what))
  room_for (Byte b) t tells e = unit_room (length (places_taken p.settings (Byte b))) t tells e
  room_for (Silent u) t tells e = unit_room (length (input.unit_of u)) t tells e
  room_for (Delimiter b) t tells e = end_room t tells e
  room_for Mark t tells e = end_room t tells e

  pub stored_of : (what : Stored) (t : Bool) (i : Input) (o : Output) (r : Port) (bs' ms' os' : List ℕ) → Fits p (length bs) what t → t ≡ true
      → input.InputBecomes p.input bs ms (input_with p.settings (input.get p.input bs ms) what) i bs' ms'
      → Echoes p.settings p.output os (bytes_shown p.settings what) o os'
      → r ≡ assembled p i o timed
      → Does p bs ms os (storing what) r bs' ms' os'
  stored_of (Byte b) t i o r bs' ms' os' tells e k h er =
      stored_unit (places_taken p.settings (Byte b)) (bytes_shown p.settings (Byte b)) t i o r bs' ms' os' tells e k h er
  stored_of (Silent u) t i o r bs' ms' os' tells e k h er = stored_unit (input.unit_of u) [] t i o r bs' ms' os' tells e k h er
  stored_of (Delimiter b) t i o r bs' ms' os' tells e k h er =
      ended_line (delimiter b) (bytes_shown p.settings (Delimiter b)) t i o r bs' ms' os' tells e k h er
  stored_of Mark t i o r bs' ms' os' tells e k h er = ended_line end_of_file [] t i o r bs' ms' os' tells e k h er

  pub dropped_of : (what : Stored) (t : Bool) (r : Port) (os' : List ℕ) → Fits p (length bs) what t → t ≡ false → Turns p (length bs) os fit.overflow r os'
      → Does p bs ms os (storing what) r bs ms os'
  dropped_of (Byte b) t r os' tells e h = dropped_unit (places_taken p.settings (Byte b)) (bytes_shown p.settings (Byte b)) t r os' tells e h
  dropped_of (Silent u) t r os' tells e h = dropped_unit (input.unit_of u) [] t r os' tells e h
  dropped_of (Delimiter b) t r os' tells e h = dropped_end (delimiter b) (bytes_shown p.settings (Delimiter b)) t r os' tells e h
  dropped_of Mark t r os' tells e h = dropped_end end_of_file [] t r os' tells e h
