-- From the port in range to the port, and from its places to the slices. Assumes nothing.
use mathlib.Core.Path.{◌≡◌, refl, sym, ap, ap₂, subst, ◌∙◌}
use mathlib.Core.List.{List, ◌++◌, map}
use Prim.Native.Nat.{ℕ, ◌+◌, ◌%◌, min}
use native.Mathlib.Nat.{mod-mod}
use native.Mathlib.Omega.{arith}
use lib.ListN.{length, take, drop, take-append-drop}
use lib.Seq.{length-take-le, take_at, drop_at}
use Rattle.queue.specs.Ring.{stores}
use Rattle.rules.specs.declared.Outcome.TheVariants.{Ok}
use Rattle.rules.specs.Sizes.{State, Input as RuledInput, Output as RuledOutput, used}
use Rattle.rules.specs.Refusals.{Reply, says}
use Rattle.input.specs.Contract as input
use Rattle.input.specs.declared.Input.{Input}
use Rattle.input.proofs.Laws.{fitted_within, fitted_same}
use Rattle.output.specs.declared.Output.{Output}
use Rattle.output.specs.Contract as output
use Rattle.output.proofs.Laws as queued
use Rattle.port.specs.State.{capacity, place_bytes, place_marks, sizes, get}
use Rattle.port.specs.declared.Port.{Port}
use Rattle.port.specs.declared.Answered.{Answered}
use Rattle.port.specs.Layers.{state, sizes_of, Ranged, Ready, Becomes, Turns}
use Rattle.port.proofs.Layers.{as_state}
use Rattle.port.specs.Calls.{Leaves, Asks, ranged}

---- The places of the input

module _ (bs ms : List ℕ) where
  pub bytes_long : length (place_bytes bs ms) ≡ capacity bs ms
  bytes_long = length-take-le (capacity bs ms) bs (omega arith)

  pub marks_long : length (place_marks bs ms) ≡ capacity bs ms
  marks_long = length-take-le (capacity bs ms) ms (omega arith)

  pub both_long : length (place_bytes bs ms) ≡ length (place_marks bs ms)
  both_long = bytes_long ∙ sym marks_long

  -- an input fitted to them: its numbers are in range, and it reads as before
  pub fitted_sound : (p : Port) (fitted : Input) (n : ℕ) → n ≡ capacity bs ms → fitted ≡ input.fitted n p.input
      → input.Sound fitted (take n bs) (take n ms)
  fitted_sound p fitted n en e =
      subst (λ (y : Input). input.Sound y (take n bs) (take n ms)) (sym e)
      (subst (λ (k : ℕ). input.Sound (input.fitted k p.input) (take k bs) (take k ms)) (sym en)
      (record { same = both_long; within = rw bytes_long (fitted_within (capacity bs ms) p.input) }))

  pub fitted_reads : (p : Port)
      → input.get (input.fitted (capacity bs ms) p.input) (place_bytes bs ms) (place_marks bs ms) ≡ input.get p.input (place_bytes bs ms) (place_marks bs ms)
  fitted_reads p =
      ap (λ (k : ℕ). input.get (input.fitted k p.input) (place_bytes bs ms) (place_marks bs ms)) (sym bytes_long)
      ∙ fitted_same p.input (place_bytes bs ms) (place_marks bs ms) both_long

---- The port with its numbers in range means the same

range_again : (n : ℕ) (o : Output) → output.in_range n o ≡ output.in_range n (output.in_range n o)
range_again n o =
    let m : min o.queue.len n ≡ min (min o.queue.len n) n = omega arith in
    λ i. record { queue = record { head = sym (mod-mod o.queue.head n) i; len = m i }; column = o.column; stopped = o.stopped }

ranged_in : (p : Port) (n m : ℕ) → Ranged (ranged p n m) n m
ranged_in p n m = record { input = fitted_within n p.input; output = range_again m p.output }

module _ (p : Port) (bs ms os : List ℕ) (e : length bs ≡ length ms) where
  abbrev q : Port
  q = ranged p (length bs) (length os)

  ranged_state : state q bs ms os ≡ state p bs ms os
  ranged_state =
      ap₂ (λ (i : RuledInput) (o : RuledOutput). record {
        settings = p.settings;
        input = i;
        output = o;
        foreground = p.foreground;
        hung_up =
            p.hung;
        waiting = p.waiting;
      })
      (fitted_same p.input bs ms e) (queued.get_range p.output os)

  ranged_becomes : (w : State) (r : Port) (bs' ms' os' : List ℕ) → Becomes q bs ms os w r bs' ms' os' → Becomes p bs ms os w r bs' ms' os'
  ranged_becomes w r bs' ms' os' b =
      let h : ℕ = p.input.queue.head in
      let same : input.get q.input bs ms ≡ input.get p.input bs ms = fitted_same p.input bs ms e in
      let head : (h % length bs) % length bs ≡ h % length bs = mod-mod h (length bs) in
      let marks : (h % length bs) % length ms ≡ h % length ms = ap (λ (k : ℕ). (h % k) % length ms) e ∙ mod-mod h (length ms) in
      record {
        input =
            record {
              input = b.input.input ∙ ap (input.put w.input) head;
              bytes =
                  b.input.bytes
                  ∙ ap₂ (λ (k : ℕ) (v : RuledInput). stores (length bs) bs (k + used v) (map input.byte_of (input.added v w.input))) head same;
              marks =
                  b.input.marks
                  ∙ ap₂ (λ (k : ℕ) (v : RuledInput). stores (length ms) ms (k + used v) (map input.mark_of (input.added v w.input))) marks same;
            };
        output = queued.via_range p.output q.output r.output os os' (λ y. w.output) refl b.output;
        settings = b.settings;
        line = b.line;
        foreground = b.foreground;
        hung = b.hung;
        waiting = b.waiting;
      }

---- From the port in range to the port

module _ (p : Port) (bs ms os : List ℕ) where
  abbrev N : ℕ
  N = capacity bs ms

  pub ranged_ready : (q : Port) (n : ℕ) → n ≡ N → q ≡ ranged p n (length os) → Ready q (take n bs) (take n ms) os
  ranged_ready q n en eq =
      subst (λ (y : Port). Ready y (take n bs) (take n ms) os) (sym eq)
      (subst (λ (k : ℕ). Ready (ranged p k (length os)) (take k bs) (take k ms) os) (sym en)
      (record { same = both_long bs ms; ranged = rw (bytes_long bs ms) (ranged_in p N (length os)) }))

  -- the port in range of the places
  abbrev pub within : Port
  within = ranged p (length (place_bytes bs ms)) (length os)

  -- from the port in range to the port, and from the places to the slices
  pub leaves_of : (w : State) (r : Port) (cs ns os' : List ℕ) → length cs ≡ length (place_bytes bs ms) → length ns ≡ length (place_marks bs ms)
      → Becomes within (place_bytes bs ms) (place_marks bs ms) os w r cs ns os' → Leaves p bs ms os w r (cs ++ drop N bs) (ns ++ drop N ms) os'
  leaves_of w r cs ns os' ec en b =
      let tc : take N (cs ++ drop N bs) ≡ cs = take_at cs (drop N bs) N (ec ∙ bytes_long bs ms) in
      let tn : take N (ns ++ drop N ms) ≡ ns = take_at ns (drop N ms) N (en ∙ marks_long bs ms) in
      record {
        port =
            subst (λ (y : List ℕ). Becomes p (place_bytes bs ms) (place_marks bs ms) os w r y (take N (ns ++ drop N ms)) os') (sym tc)
            (subst (λ (y : List ℕ). Becomes p (place_bytes bs ms) (place_marks bs ms) os w r cs y os') (sym tn)
            (ranged_becomes p (place_bytes bs ms) (place_marks bs ms) os (both_long bs ms) w r cs ns os' b));
        bytes = drop_at cs (drop N bs) N (ec ∙ bytes_long bs ms);
        marks = drop_at ns (drop N ms) N (en ∙ marks_long bs ms);
      }

  -- the rules' sizes and state, in the words of the layers below
  pub there : sizes_of within (length (place_bytes bs ms)) (length os) ≡ sizes p bs ms os
  there = ap (λ (k : ℕ). record { line = p.line; input = k; output = length os }) (bytes_long bs ms)

  pub here : state within (place_bytes bs ms) (place_marks bs ms) os ≡ get p bs ms os
  unfolding get
  here = ranged_state p (place_bytes bs ms) (place_marks bs ms) os (both_long bs ms)

---- A call that writes no slice

module _ (p : Port) (bs ms os : List ℕ) (q : Port) (n : ℕ) (en : n ≡ capacity bs ms) (eq : q ≡ ranged p n (length os)) where
  pub ranged_ranged : Ranged q n (length os)
  ranged_ranged = subst (λ (y : Port). Ranged y n (length os)) (sym eq) (ranged_in p n (length os))

  -- a call that writes no slice and does f
  pub turned_of : (f : State → State) (t : Port) (a : Answered) → Turns q n os (λ z s. f s) t os
      → a ≡ record { port = t; answer = record { outcome = Ok; count = 0 } }
      → Asks p bs ms os (f (get p bs ms os), says Ok 0) a
  turned_of f t a h ea =
      subst (λ (y : Answered). Asks p bs ms os (f (get p bs ms os), says Ok 0) y) (sym ea)
      (record {
        answer = refl;
        keeps =
            subst (λ (y : List ℕ). Leaves p bs ms os (f (get p bs ms os)) t y ms os) (take-append-drop (capacity bs ms) bs)
            (subst (λ (y : List ℕ). Leaves p bs ms os (f (get p bs ms os)) t (place_bytes bs ms ++ drop (capacity bs ms) bs) y os)
            (take-append-drop (capacity bs ms) ms)
            (leaves_of p bs ms os (f (get p bs ms os)) t (place_bytes bs ms) (place_marks bs ms) os refl refl from));
      })
    where
      l : ℕ
      l = length (place_bytes bs ms)

      same : n ≡ l
      same = en ∙ sym (bytes_long bs ms)

      turned : Turns (ranged p l (length os)) l os (λ z s. f s) t os
      turned =
          subst (λ (k : ℕ). Turns (ranged p k (length os)) k os (λ z s. f s) t os) same
          (subst (λ (y : Port). Turns y n os (λ z s. f s) t os) eq h)

      from : Becomes (ranged p l (length os)) (place_bytes bs ms) (place_marks bs ms) os (f (get p bs ms os)) t (place_bytes bs ms)
          (place_marks bs ms) os
      from =
          as_state (ranged p l (length os)) t (place_bytes bs ms) (place_marks bs ms) os (place_bytes bs ms) (place_marks bs ms) os
          (f (state (ranged p l (length os)) (place_bytes bs ms) (place_marks bs ms) os)) (f (get p bs ms os)) (ap f (here p bs ms os))
          (turned (place_bytes bs ms) (place_marks bs ms) refl (sym (both_long bs ms)))
