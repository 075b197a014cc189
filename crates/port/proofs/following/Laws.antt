-- Every received event and every flush leaves the stored input longer at its end, or shorter there, and both queues within
-- the sizes: `received_goes`, `flushed_goes`. Assumes nothing.
use Prim.Native.Nat.{ℕ, zero, suc, ◌+◌, ◌≤◌}
use native.Mathlib.Omega.{arith}
use mathlib.Core.Path.{◌≡◌, refl, sym, ap, ◌∙◌}
use mathlib.Core.Bool.{Bool, true, false, cond}
use mathlib.Core.List.{List, [], ◌∷◌, ◌++◌, reverse, append-nil, append_assoc, reverse-append}
use lib.ListN.{length, take, drop, length-append}
use lib.Seq.{take-append_seam}
use lib.Dec.{ltb, leb, eqb}
use borrow.Author.Tests.{ltb-true, leb-true}
use Rattle.rules.specs.declared.Settings.{Settings}
use Rattle.rules.specs.declared.Event.{Event}
use Rattle.rules.specs.declared.Event.TheVariants.{Good, Parity, Framing, Break, Tick, Hangup}
use Rattle.rules.specs.Sizes.{Sizes, Place, Input, Output, State, used, unit, delimiter, end_of_file, with_input, with_literal_next}
use Rattle.rules.specs.Settings.{stored}
use Rattle.rules.specs.Flushing.{flush_input, flush_output, flush_both, flushed_on, flushed}
use Rattle.rules.specs.Output.{processed, queued, room, queued_whole}
use Rattle.rules.specs.Editing.{Edit, erase, word_erase, kill, reprint, units, places_of, without_units, removed, edited}
use Rattle.rules.specs.Echo.{shown, edit_echo}
use Rattle.rules.specs.Fit.{unit_fits, end_fits, kept, ended, overflow_on, unit_on, stores_unit, end_on, stores_end}
use Rattle.rules.specs.Received.{Meaning, literal_next, signals, stops, starts, drops, edits, ends, marks, stores, step1, step2, step3, flushed_unless}
use Rattle.rules.specs.Received.{edit_on, carry, good, silently, break_on, broken_on, parity_on, hangup_on, event, received_on, received}
use Rattle.rules.proofs.Truth.{and_true}
use Rattle.input.proofs.Laws.{kept_stored, ended_stored, kept_used, ended_used}
use Rattle.editing.proofs.Laws.{places_units}
use Rattle.port.specs.following.Following.{Follows, grown, fewer, Goes}
use Rattle.rules.proofs.Limits.{stored_length}

---- The current line without its newest units

-- what drop leaves is the end of the line
places_drop : (n : ℕ) (us : List (List Place)) → (l : List Place) × (places_of us ≡ l ++ places_of (drop n us))
places_drop zero us = ([], refl)
places_drop (suc n) [] = ([], refl)
places_drop (suc n) (u ∷ us) =
    let r : (l : List Place) × (places_of us ≡ l ++ places_of (drop n us)) = places_drop n us in
    (reverse u ++ r.0, ap (◌++◌ (reverse u)) r.1 ∙ sym (append_assoc (reverse u) r.0 (places_of (drop n us))))

units_gone : (n : ℕ) (line : List Place) → (l : List Place) × (line ≡ l ++ without_units n line)
units_gone n line =
    let r : (l : List Place) × (places_of (units line) ≡ l ++ without_units n line) = places_drop n (units line) in
    (r.0, sym (places_units line) ∙ r.1)

cut_stored : (f l c line : List Place) → line ≡ l ++ c → f ++ reverse line ≡ (f ++ reverse c) ++ reverse l
cut_stored f l c line e =
    ap (λ (m : List Place). f ++ reverse m) e ∙ ap (◌++◌ f) (reverse-append l c) ∙ sym (append_assoc f (reverse c) (reverse l))

-- v is w with the places u behind: w has the oldest places of v, and no more than v
cut_follows : (v w : Input) (u : List Place) → stored v ≡ stored w ++ u → Follows v w
cut_follows v w u e =
    fewer (length (stored w)) (sym (ap (take (length (stored w))) e ∙ take-append_seam (stored w) u))

cut_used : (v w : Input) (u : List Place) → stored v ≡ stored w ++ u → used w ≤ used v
cut_used v w u e =
    let n : length (stored v) ≡ length (stored w) + length u = ap length e ∙ length-append (stored w) u in
    omega (arith, n, stored_length v, stored_length w)

edited_cut : (x : Settings) (e : Edit) (v : Input) → (u : List Place) × (stored v ≡ stored (edited x e v) ++ u)
edited_cut x e v =
    let n : ℕ = removed x e (units v.current) in
    let r : (l : List Place) × (v.current ≡ l ++ without_units n v.current) = units_gone n v.current in
    (reverse r.0, cut_stored v.finished r.0 (without_units n v.current) v.current r.1)

---- What fits

unit_room : (c : Bool) (z : Sizes) (i : Input) (n : ℕ) → unit_fits c z i n ≡ true → used i + n ≤ z.input
unit_room true z i n f =
    omega (arith, ltb-true (used i + n) z.input (and_true (leb (length i.current + n) z.line) (ltb (used i + n) z.input) f).1)
unit_room false z i n f = leb-true (used i + n) z.input f

whole_queue : (size : ℕ) (x : Settings) (o : Output) (bs : List ℕ) → length o.queue ≤ size → length (queued_whole size x o bs).queue ≤ size
whole_queue size x o bs h = go (room size (length o.queue) bs) refl
  where
    go : (t : Bool) → room size (length o.queue) bs ≡ t → length (cond t (queued x o bs) o).queue ≤ size
    go true e = rw length-append (leb-true (length o.queue + length bs) size e)
    go false e = h

---- Each rule

-- only the stored places of the first state count
follows_from : (v v' w : Input) → stored v' ≡ stored v → Follows v w → Follows v' w
follows_from v v' w e (grown u h) = grown u (h ∙ ap (λ (l : List Place). l ++ u) (sym e))
follows_from v v' w e (fewer k h) = fewer k (h ∙ ap (take k) (sym e))

module _ (z : Sizes) where
  pub stays : (s : State) → used s.input ≤ z.input → length s.output.queue ≤ z.output → Goes z s s
  stays s p q = record { follows = grown [] (sym (append-nil (stored s.input))); places = p; queue = q }

  shown_goes : (s t : State) (bs : List ℕ) → Goes z s t → Goes z s (shown z t bs)
  shown_goes s t bs g =
      record {
        follows = g.follows;
        places = g.places;
        queue = whole_queue z.output t.settings t.output (processed t.settings t.output.column bs) g.queue;
      }

  flush_goes : (s : State) → Goes z s s → Goes z s (flush_input s)
  flush_goes s g = record { follows = fewer 0 refl; places = omega arith; queue = g.queue }

  flush_output_goes : (s t : State) → Goes z s t → Goes z s (flush_output t)
  flush_output_goes s t g = record { follows = g.follows; places = g.places; queue = omega arith }

  flush_both_goes : (s : State) → Goes z s s → Goes z s (flush_both s)
  flush_both_goes s g = flush_output_goes s (flush_input s) (flush_goes s g)

  overflow_goes : (t : Bool) (s : State) → Goes z s s → Goes z s (overflow_on t z s)
  overflow_goes true s g =
      record { follows = g.follows; places = g.places; queue = whole_queue z.output s.settings s.output (7 ∷ []) g.queue }
  overflow_goes false s g = flush_goes s g

  unit_goes : (s : State) (u : List Place) (echo : List ℕ) → Goes z s s → Goes z s (stores_unit z s u echo)
  unit_goes s u echo g = go (unit_fits s.settings.icanon z s.input (length u)) refl
    where
      go : (t : Bool) → unit_fits s.settings.icanon z s.input (length u) ≡ t → Goes z s (unit_on t z s u echo)
      go true f =
          shown_goes s (kept s u) echo
          (record {
            follows = grown u (kept_stored s.settings.icanon s.input u);
            places = omega (arith, kept_used s.settings.icanon s.input u, unit_room s.settings.icanon z s.input (length u) f);
            queue = g.queue;
          })
      go false f = overflow_goes s.settings.imaxbel s g

  end_goes : (s : State) (p : Place) (echo : List ℕ) → Goes z s s → Goes z s (stores_end z s p echo)
  end_goes s p echo g = go (end_fits z s.input) refl
    where
      go : (t : Bool) → end_fits z s.input ≡ t → Goes z s (end_on t z s p echo)
      go true f =
          shown_goes s (ended s p) echo
          (record {
            follows = grown (p ∷ []) (ended_stored s.input p);
            places = omega (arith, ended_used s.input p, ltb-true (used s.input) z.input f);
            queue = g.queue;
          })
      go false f = overflow_goes s.settings.imaxbel s g

  edited_goes : (s : State) (e : Edit) → Goes z s s → Goes z s (with_input s (edited s.settings e s.input))
  edited_goes s e g =
      let w : Input = edited s.settings e s.input in
      let r : (u : List Place) × (stored s.input ≡ stored w ++ u) = edited_cut s.settings e s.input in
      record {
        follows = cut_follows s.input w r.0 r.1;
        places = omega (arith, cut_used s.input w r.0 r.1, g.places);
        queue = g.queue;
      }

  edit_goes : (us : List (List Place)) (s : State) (e : Edit) (b : ℕ) → Goes z s s → Goes z s (edit_on us z s e b)
  edit_goes [] s erase b g = g
  edit_goes [] s word_erase b g = g
  edit_goes [] s kill b g = g
  edit_goes [] s reprint b g = shown_goes s s (edit_echo s.settings reprint b 0 []) g
  edit_goes (u ∷ us) s e b g =
      shown_goes s (with_input s (edited s.settings e s.input))
      (edit_echo s.settings e b (removed s.settings e (u ∷ us)) (u ∷ us)) (edited_goes s e g)

  ---- A good byte, whatever it means

  pub carry_goes : (s : State) (m : Meaning) → Goes z s s → Goes z s (carry z s m).0
  carry_goes s literal_next g = record { follows = grown [] (sym (append-nil (stored s.input))); places = g.places; queue = g.queue }
  carry_goes s (signals signal echo) g = shown_goes s (flushed_unless s.settings.noflsh s) echo (go s.settings.noflsh)
    where
      go : (t : Bool) → Goes z s (flushed_unless t s)
      go true = g
      go false = flush_both_goes s g
  carry_goes s stops g = record { follows = g.follows; places = g.places; queue = g.queue }
  carry_goes s starts g = record { follows = g.follows; places = g.places; queue = g.queue }
  carry_goes s drops g = g
  carry_goes s (edits e b) g = edit_goes (units s.input.current) s e b g
  carry_goes s (ends b echo) g = end_goes s (delimiter b) echo g
  carry_goes s marks g = end_goes s end_of_file [] g
  carry_goes s (stores b more echo) g = unit_goes s (unit false b more) echo g

  good_goes : (s : State) (b : ℕ) → Goes z s s → Goes z s (good z s b).0
  good_goes s b g =
      let r : State = with_input (step2 s) (with_literal_next s.input false) in
      let m : Meaning = step3 s.settings s.input.literal_next (step1 s.settings b) in
      let h : Goes z r (carry z r m).0 = carry_goes r m (stays r g.places g.queue) in
      record {
        follows = follows_from r.input s.input (carry z r m).0.input refl h.follows;
        places = h.places;
        queue = h.queue;
      }

  ---- The other events

  silently_goes : (s : State) (b : ℕ) (more : List ℕ) → Goes z s s → Goes z s (silently z s b more).0
  silently_goes s b more g = unit_goes s (unit true b more) [] g

  break_goes : (i b p : Bool) (s : State) → Goes z s s → Goes z s (break_on i b p z s).0
  break_goes true b p s g = g
  break_goes false true p s g = flush_both_goes s g
  break_goes false false true s g = silently_goes s 255 (0 ∷ 0 ∷ []) g
  break_goes false false false s g = silently_goes s 0 [] g

  broken_goes : (i p : Bool) (s : State) (b : ℕ) → Goes z s s → Goes z s (broken_on i p z s b).0
  broken_goes true p s b g = g
  broken_goes false true s b g = silently_goes s 255 (0 ∷ b ∷ []) g
  broken_goes false false s b g = silently_goes s 0 [] g

  parity_goes : (t : Bool) (s : State) (b : ℕ) → Goes z s s → Goes z s (parity_on t z s b).0
  parity_goes true s b g = broken_goes s.settings.ignpar s.settings.parmrk s b g
  parity_goes false s b g = good_goes s b g

  hangup_goes : (t : Bool) (s : State) → Goes z s s → Goes z s (hangup_on t s).0
  hangup_goes true s g = g
  hangup_goes false s g =
      let h : Goes z s (flush_both s) = flush_both_goes s g in
      record { follows = h.follows; places = h.places; queue = h.queue }

  event_goes : (s : State) (e : Event) → Goes z s s → Goes z s (event z s e).0
  event_goes s (Good b) g = good_goes s b g
  event_goes s (Parity b) g = parity_goes s.settings.inpck s b g
  event_goes s (Framing b) g = broken_goes s.settings.ignpar s.settings.parmrk s b g
  event_goes s Break g = break_goes s.settings.ignbrk s.settings.brkint s.settings.parmrk s g
  event_goes s Tick g = record { follows = g.follows; places = g.places; queue = g.queue }
  event_goes s Hangup g = hangup_goes s.settings.clocal s g

  heard_goes : (t : Bool) (s : State) (e : Event) → Goes z s s → Goes z s (received_on t z s e).0
  heard_goes true s e g = g
  heard_goes false s e g = event_goes s e g

  ---- A flush

  flushed_on_goes : (one two three : Bool) (s : State) → Goes z s s → Goes z s (flushed_on one two three s).0
  flushed_on_goes true two three s g = flush_goes s g
  flushed_on_goes false true three s g = flush_output_goes s s g
  flushed_on_goes false false true s g = flush_both_goes s g
  flushed_on_goes false false false s g = g

---- The theorems

pub received_goes : (z : Sizes) (s : State) (e : Event) → used s.input ≤ z.input → length s.output.queue ≤ z.output
    → Goes z s (received z s e).0
received_goes z s e p q = heard_goes z s.hung_up s e (stays z s p q)

pub flushed_goes : (z : Sizes) (s : State) (choice : ℕ) → used s.input ≤ z.input → length s.output.queue ≤ z.output
    → Goes z s (flushed s choice).0
flushed_goes z s choice p q = flushed_on_goes z (eqb choice 1) (eqb choice 2) (eqb choice 3) s (stays z s p q)
