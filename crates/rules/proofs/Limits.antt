-- Bounds that hold after any run from a fresh port, for any sizes.
use Prim.Native.Nat.{ℕ, zero, suc, ◌+◌, ◌≤◌}
use native.Mathlib.Omega.{arith}
use mathlib.Core.Path.{◌≡◌, refl, ap, ◌∙◌}
use mathlib.Core.Bool.{Bool, true, false, ◌&&◌, ◌||◌, cond}
use mathlib.Core.List.{List, [], ◌∷◌, ◌++◌, reverse}
use lib.ListN.{length, take, drop, length-append, length-reverse, length-drop}
use lib.Dec.{ltb, leb, eqb}
use borrow.Author.Tests.{ltb-true, ltb-false, leb-true}
use Rattle.rules.specs.Types.{Settings, Event, Good, Parity, Framing, Break, Tick, Hangup, Call, Set, Receive, Read, Write, Transmit, Flush}
use Rattle.rules.specs.Types.{Cancel, Foreground, ReadVerdict, WriteVerdict, SettingsVerdict, Verdict}
use Rattle.rules.specs.Sizes.{Sizes, Place, Input, Output, State, used, unit, delimiter, end_of_file, with_input, with_literal_next}
use Rattle.rules.specs.Settings.{is, acceptable, without_marks, one_line, stored, changed_input, fresh}
use Rattle.rules.specs.Flushing.{flush_input, flush_output, flush_both, flushed_on}
use Rattle.rules.specs.Output.{capped, moved, column_after, columns_after, processed, queued, room, queued_whole, written, taken, written_on, oldest}
use Rattle.rules.specs.Editing.{Edit, erase, word_erase, kill, reprint, joined, units, places_of, without_units, removed, edited}
use Rattle.rules.specs.Echo.{shown, edit_echo}
use Rattle.rules.specs.Fit.{unit_fits, end_fits, kept_in, kept, ended, overflow_on, unit_on, stores_unit, end_on, stores_end}
use Rattle.rules.specs.Received.{Meaning, literal_next, signals, stops, starts, drops, edits, ends, marks, stores, step1, step2, step3, step8}
use Rattle.rules.specs.Received.{step9, mapped, flushed_unless, edit_on, carry, good, silently, break_on, broken_on, parity_on, hangup_on}
use Rattle.rules.specs.Received.{event, received_on}
use Rattle.rules.specs.Reads.{Part, first_line, part_of, finish, is_empty, done_on, ruled_on, clashes, read_on}
use Rattle.rules.specs.Verdicts.{too_large, foreground_on, judged_on, read_verdict, write_verdict, settings_verdict}
use Rattle.rules.proofs.Truth.{either, or_false, and_true}
use Rattle.rules.proofs.OutputLaws.{taken_fits}
use Rattle.rules.specs.Step.{a_read_waits, set_on, step, Asked, step_of, after}

---- The bounds

abbrev pub has_mark : List Place → Bool
has_mark [] = false
has_mark (p ∷ ps) = p.mark || has_mark ps

-- with ICANON clear there is no current line and no mark
abbrev pub Raw : Bool → Input → Type 0
Raw true i = Unit {0}
Raw false i = (length i.current ≡ 0) × (has_mark i.finished ≡ false)

pub record InputWithin (z : Sizes) (icanon : Bool) (i : Input) : Type 0 where
  pub places : used i ≤ z.input
  pub line : length i.current ≤ z.line
  pub raw : Raw icanon i

pub record OutputWithin (z : Sizes) (o : Output) : Type 0 where
  pub queue : length o.queue ≤ z.output
  pub column : o.column ≤ 65535

pub record Within (z : Sizes) (s : State) : Type 0 where
  pub input : InputWithin z s.settings.icanon s.input
  pub output : OutputWithin z s.output
  pub settings : acceptable s.settings ≡ true  -- enabled special characters are distinct, none is 10 or 13

---- Output

capped_within : (c : ℕ) → capped c ≤ 65535
capped_within c = go (ltb 65535 c) refl
  where
    go : (t : Bool) → ltb 65535 c ≡ t → cond t 65528 c ≤ 65535
    go true e = omega arith
    go false e = ltb-false 65535 c e

column_within : (x : Settings) (c b : ℕ) → column_after x c b ≤ 65535
unfolding column_after
column_within x c b = capped_within (moved x c b)

columns_within : (x : Settings) (c : ℕ) (bs : List ℕ) → c ≤ 65535 → columns_after x c bs ≤ 65535
columns_within x c [] h = h
columns_within x c (b ∷ bs) h = columns_within x (column_after x c b) bs (column_within x c b)

queued_within : (z : Sizes) (x : Settings) (o : Output) (bs : List ℕ) → OutputWithin z o → room z.output (length o.queue) bs ≡ true
    → OutputWithin z (queued x o bs)
queued_within z x o bs h r =
    record {
      queue = rw length-append (leb-true (length o.queue + length bs) z.output r);
      column = columns_within x o.column bs h.column;
    }

whole_within : (z : Sizes) (x : Settings) (o : Output) (bs : List ℕ) → OutputWithin z o → OutputWithin z (queued_whole z.output x o bs)
whole_within z x o bs h = go (room z.output (length o.queue) bs) refl
  where
    go : (t : Bool) → room z.output (length o.queue) bs ≡ t → OutputWithin z (cond t (queued x o bs) o)
    go true e = queued_within z x o bs h e
    go false e = h

taken_within : (z : Sizes) (x : Settings) (o : Output) (bs : List ℕ) → OutputWithin z o
    → OutputWithin z (written x o (take (taken z.output x (length o.queue) o.column bs) bs))
taken_within z x o bs h =
    record {
      queue = taken_fits z.output x o bs h.queue;
      column = columns_within x o.column (processed x o.column (take (taken z.output x (length o.queue) o.column bs) bs)) h.column;
    }

---- Editing

total : List (List Place) → ℕ
total [] = 0
total (u ∷ us) = length u + total us

total_joined : (p : Place) (us : List (List Place)) → total (joined p us) ≡ suc (total us)
unfolding total
total_joined p [] = refl
total_joined p (u ∷ us) = simp length-append (omega arith)

total_units : (l : List Place) → total (units l) ≡ length l
unfolding total
total_units [] = refl
total_units (p ∷ ps) =
    either (λ (us : List (List Place)). total us ≡ suc (length ps)) p.starts
    (omega (arith, total_units ps)) (total_joined p (units ps) ∙ ap suc (total_units ps))

total_places : (us : List (List Place)) → length (places_of us) ≡ total us
unfolding total
total_places [] = refl
total_places (u ∷ us) = simp (length-append, length-reverse, total_places us)

total_drop : (n : ℕ) (us : List (List Place)) → total (drop n us) ≤ total us
unfolding total
total_drop zero us = omega arith
total_drop (suc n) [] = omega arith
total_drop (suc n) (u ∷ us) = omega (arith, total_drop n us)

without_shorter : (n : ℕ) (l : List Place) → length (without_units n l) ≤ length l
without_shorter n l = omega (arith, total_places (drop n (units l)), total_drop n (units l), total_units l)

---- Input

-- at least one place less, or as many; marks are those that were there
fewer : (z : Sizes) (c : Bool) (i : Input) (l : List Place) → InputWithin z c i → length l ≤ length i.current
    → InputWithin z c (record { finished = i.finished; current = l; literal_next = i.literal_next })
fewer z true i l h le = record { places = omega (arith, h.places); line = omega (arith, h.line); raw = tt }
fewer z false i l h le =
    record { places = omega (arith, h.places); line = omega (arith, h.line); raw = (omega (arith, h.raw.0), h.raw.1) }

literal_within : (z : Sizes) (c : Bool) (i : Input) (l : Bool) → InputWithin z c i → InputWithin z c (with_literal_next i l)
literal_within z true i l h = record { places = h.places; line = h.line; raw = tt }
literal_within z false i l h = record { places = h.places; line = h.line; raw = h.raw }

none_within : (z : Sizes) (c : Bool) (l : Bool) → InputWithin z c (record { finished = []; current = []; literal_next = l })
none_within z true l = record { places = omega arith; line = omega arith; raw = tt }
none_within z false l = record { places = omega arith; line = omega arith; raw = (refl, refl) }

mark_append : (a b : List Place) → has_mark a ≡ false → has_mark b ≡ false → has_mark (a ++ b) ≡ false
mark_append [] b h k = k
mark_append (p ∷ ps) b h k =
    let e : (p.mark ≡ false) × (has_mark ps ≡ false) = or_false p.mark (has_mark ps) h in
    rw e.0 (mark_append ps b e.1 k)

unit_unmarked : (silent : Bool) (b : ℕ) (more : List ℕ) → has_mark (unit silent b more) ≡ false
unit_unmarked silent b [] = refl
unit_unmarked silent b (c ∷ cs) = unit_unmarked silent b cs

pub stored_length : (i : Input) → length (stored i) ≡ used i
stored_length i = length-append i.finished (reverse i.current) ∙ ap (◌+◌ (length i.finished)) (length-reverse i.current)

none_unmarked : (l : List Place) → length l ≡ 0 → has_mark (reverse l) ≡ false
none_unmarked [] e = refl
none_unmarked (p ∷ ps) e = absurd (omega arith)

kept_within : (z : Sizes) (c : Bool) (i : Input) (u : List Place) → has_mark u ≡ false → InputWithin z c i
    → unit_fits c z i (length u) ≡ true → InputWithin z c (kept_in c i u)
kept_within z true i u m h f =
    let e : (leb (length i.current + length u) z.line ≡ true) × (ltb (used i + length u) z.input ≡ true) = and_true _ _ f in
    let n : length (reverse u ++ i.current) ≡ length u + length i.current = simp (length-append, length-reverse) in
    record {
      places = omega (arith, ltb-true (used i + length u) z.input e.1);
      line = omega (arith, leb-true (length i.current + length u) z.line e.0);
      raw = tt;
    }
kept_within z false i u m h f =
    record {
      places = omega (arith, length-append (stored i) u, stored_length i, leb-true (used i + length u) z.input f);
      line = omega arith;
      raw = (refl, mark_append (stored i) u (mark_append i.finished (reverse i.current) h.raw.1 (none_unmarked i.current h.raw.0)) m);
    }

last_unmarked : (p : Place) (l : List Place) → length l ≡ 0 → p.mark ≡ false → has_mark (reverse (p ∷ l)) ≡ false
last_unmarked p [] e m = rw m
last_unmarked p (q ∷ qs) e m = absurd (omega arith)

longer : (i : Input) (p : Place) → length (i.finished ++ reverse (p ∷ i.current)) ≡ length i.finished + suc (length i.current)
longer i p = length-append i.finished (reverse (p ∷ i.current)) ∙ ap (◌+◌ (length i.finished)) (length-reverse (p ∷ i.current))

ended_within : (z : Sizes) (c : Bool) (i : Input) (p : Place) (l : Bool) → (c ≡ false → p.mark ≡ false) → InputWithin z c i → end_fits z i ≡ true
    → InputWithin z c (record { finished = i.finished ++ reverse (p ∷ i.current); current = []; literal_next = l })
ended_within z true i p l m h f =
    let n : length (i.finished ++ reverse (p ∷ i.current)) ≡ length i.finished + suc (length i.current) = longer i p in
    record { places = omega (arith, ltb-true (used i) z.input f); line = omega arith; raw = tt }
ended_within z false i p l m h f =
    let n : length (i.finished ++ reverse (p ∷ i.current)) ≡ length i.finished + suc (length i.current) = longer i p in
    record {
      places = omega (arith, ltb-true (used i) z.input f);
      line = omega arith;
      raw = (refl, mark_append i.finished _ h.raw.1 (last_unmarked p i.current h.raw.0 (m refl)));
    }

---- Lists of places

drop_unmarked : (n : ℕ) (l : List Place) → has_mark l ≡ false → has_mark (drop n l) ≡ false
drop_unmarked zero l h = h
drop_unmarked (suc n) [] h = h
drop_unmarked (suc n) (p ∷ ps) h = drop_unmarked n ps (or_false p.mark (has_mark ps) h).1

line_shorter : (n : ℕ) (l : List Place) → length (first_line n l).left ≤ length l
line_shorter n [] = omega arith
line_shorter zero (p ∷ ps) =
    either (λ (r : Part). length r.left ≤ suc (length ps)) p.mark (omega arith) (omega arith)
line_shorter (suc n) (p ∷ ps) =
    either (λ (r : Part). length r.left ≤ suc (length ps)) p.mark (omega arith)
    (either (λ (r : Part). length r.left ≤ suc (length ps)) p.ends (omega arith) (omega (arith, line_shorter n ps)))

marks_shorter : (l : List Place) → length (without_marks l) ≤ length l
marks_shorter [] = omega arith
marks_shorter (p ∷ ps) =
    either (λ (r : List Place). length r ≤ suc (length ps)) p.mark (omega (arith, marks_shorter ps)) (omega (arith, marks_shorter ps))

no_marks : (l : List Place) → has_mark (without_marks l) ≡ false
no_marks [] = refl
no_marks (p ∷ ps) = go p.mark refl (no_marks ps)
  where
    go : (t : Bool) → p.mark ≡ t → has_mark (without_marks ps) ≡ false → has_mark (cond t (without_marks ps) (p ∷ without_marks ps)) ≡ false
    go true e h = h
    go false e h = rw e h

line_length : (l : List Place) → length (one_line l) ≡ length l
line_length [] = refl
line_length (p ∷ []) = refl
line_length (p ∷ q ∷ ps) = ap suc (line_length (q ∷ ps))

---- Parts of the state

module _ (z : Sizes) where
  shown_within : (s : State) (bs : List ℕ) → Within z s → Within z (shown z s bs)
  shown_within s bs h =
      record {
        input = h.input;
        output = whole_within z s.settings s.output (processed s.settings s.output.column bs) h.output;
        settings =
            h.settings;
      }

  flush_within : (s : State) → Within z s → Within z (flush_input s)
  flush_within s h = record { input = none_within z s.settings.icanon false; output = h.output; settings = h.settings }

  flush_output_within : (s : State) → Within z s → Within z (flush_output s)
  flush_output_within s h =
      record { input = h.input; output = record { queue = omega arith; column = h.output.column }; settings = h.settings }

  flush_both_within : (s : State) → Within z s → Within z (flush_both s)
  flush_both_within s h = flush_output_within (flush_input s) (flush_within s h)

  overflow_within : (t : Bool) (s : State) → Within z s → Within z (overflow_on t z s)
  overflow_within true s h =
      record { input = h.input; output = whole_within z s.settings s.output (7 ∷ []) h.output; settings = h.settings }
  overflow_within false s h = flush_within s h

  unit_within : (s : State) (u : List Place) (echo : List ℕ) → has_mark u ≡ false → Within z s → Within z (stores_unit z s u echo)
  unit_within s u echo m h = go (unit_fits s.settings.icanon z s.input (length u)) refl
    where
      go : (t : Bool) → unit_fits s.settings.icanon z s.input (length u) ≡ t → Within z (unit_on t z s u echo)
      go true f =
          shown_within (kept s u) echo
          (record { input = kept_within z s.settings.icanon s.input u m h.input f; output = h.output; settings = h.settings })
      go false f = overflow_within s.settings.imaxbel s h

  end_within : (s : State) (p : Place) (echo : List ℕ) → (s.settings.icanon ≡ false → p.mark ≡ false) → Within z s
      → Within z (stores_end z s p echo)
  end_within s p echo m h = go (end_fits z s.input) refl
    where
      go : (t : Bool) → end_fits z s.input ≡ t → Within z (end_on t z s p echo)
      go true f =
          shown_within (ended s p) echo
          (record {
            input = ended_within z s.settings.icanon s.input p s.input.literal_next m h.input f;
            output = h.output;
            settings = h.settings;
          })
      go false f = overflow_within s.settings.imaxbel s h

  edit_within : (us : List (List Place)) (s : State) (e : Edit) (b : ℕ) → Within z s → Within z (edit_on us z s e b)
  edit_within [] s erase b h = h
  edit_within [] s word_erase b h = h
  edit_within [] s kill b h = h
  edit_within [] s reprint b h = shown_within s (edit_echo s.settings reprint b 0 []) h
  edit_within (u ∷ us) s e b h =
      shown_within (with_input s (edited s.settings e s.input)) (edit_echo s.settings e b (removed s.settings e (u ∷ us)) (u ∷ us))
      (record {
        input = fewer z s.settings.icanon s.input (edited s.settings e s.input).current h.input
            (without_shorter (removed s.settings e (units s.input.current)) s.input.current);
        output = h.output;
        settings = h.settings;
      })

---- A good byte: a mark is stored under ICANON alone

Unmarked : Meaning → Type 0
Unmarked literal_next = Unit {0}
Unmarked (signals g echo) = Unit {0}
Unmarked stops = Unit {0}
Unmarked starts = Unit {0}
Unmarked drops = Unit {0}
Unmarked (edits e b) = Unit {0}
Unmarked (ends b echo) = Unit {0}
Unmarked marks = ⊥
Unmarked (stores b more echo) = Unit {0}

unmarked9 : (x : Settings) (b : ℕ) → x.icanon ≡ false → Unmarked (step9 x b)
unfolding Unmarked
unmarked9 x b e = rw e tt

unmarked8 : (x : Settings) (b : ℕ) → x.icanon ≡ false → Unmarked (step8 x b)
unfolding Unmarked
unmarked8 x b e = rw e tt

unmarked : (x : Settings) (l : Bool) (b : ℕ) → x.icanon ≡ false → Unmarked (step3 x l b)
unfolding Unmarked
unmarked x true b e = tt
unmarked x false b e =
    either Unmarked (x.iexten && is b x.lnext) tt
    (either Unmarked (x.isig && is b x.intr) tt
    (either Unmarked (x.isig && is b x.quit) tt
    (either Unmarked (x.isig && is b x.susp) tt
    (either Unmarked (x.ixon && is b x.stop) tt
    (either Unmarked (x.ixon && is b x.start) tt
    (either Unmarked (eqb b 13 && x.igncr) tt (unmarked8 x (mapped x b) e)))))))

module _ (z : Sizes) where
  carry_within : (s : State) (m : Meaning) → (s.settings.icanon ≡ false → Unmarked m) → Within z s → Within z (carry z s m).0
  unfolding Unmarked
  carry_within s literal_next u h =
      record { input = literal_within z s.settings.icanon s.input true h.input; output = h.output; settings = h.settings }
  carry_within s (signals g echo) u h = shown_within z (flushed_unless s.settings.noflsh s) echo (go s.settings.noflsh)
    where
      go : (t : Bool) → Within z (flushed_unless t s)
      go true = h
      go false = flush_both_within z s h
  carry_within s stops u h =
      record { input = h.input; output = record { queue = h.output.queue; column = h.output.column }; settings = h.settings }
  carry_within s starts u h =
      record { input = h.input; output = record { queue = h.output.queue; column = h.output.column }; settings = h.settings }
  carry_within s drops u h = h
  carry_within s (edits e b) u h = edit_within z (units s.input.current) s e b h
  carry_within s (ends b echo) u h = end_within z s (delimiter b) echo (λ _. refl) h
  carry_within s marks u h = end_within z s end_of_file [] (λ e. absurd (u e)) h
  carry_within s (stores b more echo) u h = unit_within z s (unit false b more) echo (unit_unmarked false b more) h

  good_within : (s : State) (b : ℕ) → Within z s → Within z (good z s b).0
  good_within s b h =
      carry_within (with_input (step2 s) (with_literal_next s.input false)) (step3 s.settings s.input.literal_next (step1 s.settings b))
      (unmarked s.settings s.input.literal_next (step1 s.settings b))
      (record {
        input = literal_within z s.settings.icanon s.input false h.input;
        output = record { queue = h.output.queue; column = h.output.column };
        settings = h.settings;
      })

  silently_within : (s : State) (b : ℕ) (more : List ℕ) → Within z s → Within z (silently z s b more).0
  silently_within s b more h = unit_within z s (unit true b more) [] (unit_unmarked true b more) h

  break_within : (i b p : Bool) (s : State) → Within z s → Within z (break_on i b p z s).0
  break_within true b p s h = h
  break_within false true p s h = flush_both_within z s h
  break_within false false true s h = silently_within s 255 (0 ∷ 0 ∷ []) h
  break_within false false false s h = silently_within s 0 [] h

  broken_within : (i p : Bool) (s : State) (b : ℕ) → Within z s → Within z (broken_on i p z s b).0
  broken_within true p s b h = h
  broken_within false true s b h = silently_within s 255 (0 ∷ b ∷ []) h
  broken_within false false s b h = silently_within s 0 [] h

  parity_within : (t : Bool) (s : State) (b : ℕ) → Within z s → Within z (parity_on t z s b).0
  parity_within true s b h = broken_within s.settings.ignpar s.settings.parmrk s b h
  parity_within false s b h = good_within s b h

  hangup_within : (t : Bool) (s : State) → Within z s → Within z (hangup_on t s).0
  hangup_within true s h = h
  hangup_within false s h =
      let f : Within z (flush_both s) = flush_both_within z s h in
      record { input = f.input; output = f.output; settings = f.settings }

  event_within : (s : State) (e : Event) → Within z s → Within z (event z s e).0
  event_within s (Good b) h = good_within s b h
  event_within s (Parity b) h = parity_within s.settings.inpck s b h
  event_within s (Framing b) h = broken_within s.settings.ignpar s.settings.parmrk s b h
  event_within s Break h = break_within s.settings.ignbrk s.settings.brkint s.settings.parmrk s h
  event_within s Tick h = record { input = h.input; output = h.output; settings = h.settings }
  event_within s Hangup h = hangup_within s.settings.clocal s h

  received_within : (t : Bool) (s : State) (e : Event) → Within z s → Within z (received_on t z s e).0
  received_within true s e h = h
  received_within false s e h = event_within s e h

  ---- Reads

  left_shorter : (c : Bool) (n : ℕ) (l : List Place) → length (part_of c n l).left ≤ length l
  left_shorter true n l = line_shorter n l
  left_shorter false n l = omega (arith, length-drop n l)

  part_within : (c : Bool) (n : ℕ) (i : Input) → InputWithin z c i
      → InputWithin z c (record { finished = (part_of c n i.finished).left; current = i.current; literal_next = i.literal_next })
  part_within true n i h = record { places = omega (arith, h.places, left_shorter true n i.finished); line = h.line; raw = tt }
  part_within false n i h =
      record {
        places = omega (arith, h.places, left_shorter false n i.finished);
        line = h.line;
        raw = (h.raw.0, drop_unmarked n i.finished h.raw.1);
      }

  finish_within : (s : State) (n : ℕ) → Within z s → Within z (finish s (part_of s.settings.icanon n s.input.finished)).0
  finish_within s n h =
      record { input = part_within s.settings.icanon n s.input h.input; output = h.output; settings = h.settings }

  ruled_within : (a b c : Bool) (s : State) (n : ℕ) → Within z s → Within z (ruled_on a b c s n).0
  ruled_within true true c s n h = h
  ruled_within true false c s n h = finish_within s n h
  ruled_within false b true s n h = finish_within s n h
  ruled_within false b false s n h = record { input = h.input; output = h.output; settings = h.settings }

  read_within : (a b c : Bool) (s : State) (nonblocking : Bool) (n : ℕ) → Within z s → Within z (read_on a b c s nonblocking n).0
  read_within true b c s nb n h = record { input = h.input; output = h.output; settings = h.settings }
  read_within false true c s nb n h = h
  read_within false false true s nb n h = h
  read_within false false false s nb n h =
      ruled_within nb (is_empty s.input.finished) (done_on s.settings.icanon s n) s n h

  ---- Settings

  changed_within : (c d : Bool) (i : Input) → InputWithin z c i → InputWithin z d (changed_input c d i)
  changed_within true true i h = h
  changed_within true false i h =
      record { places = omega (arith, h.places, marks_shorter (stored i), stored_length i); line = omega arith; raw = (refl, no_marks (stored i)) }
  changed_within false true i h =
      record { places = omega (arith, h.places, line_length (stored i), stored_length i); line = omega arith; raw = tt }
  changed_within false false i h = h

  set_within : (t g : Bool) (s : State) (x : Settings) → acceptable x ≡ g → Within z s → Within z (set_on t g s x).0
  set_within true g s x e h = h
  set_within false true s x e h =
      record {
        input = changed_within s.settings.icanon x.icanon s.input h.input;
        output = record { queue = h.output.queue; column = h.output.column };
        settings = e;
      }
  set_within false false s x e h = h

  ---- Every call

  write_within : (a b : Bool) (s : State) (bs : List ℕ) → Within z s
      → Within z (written_on a b s bs (taken z.output s.settings (length s.output.queue) s.output.column bs)).0
  write_within true b s bs h = h
  write_within false true s bs h = h
  write_within false false s bs h =
      record { input = h.input; output = taken_within z s.settings s.output bs h.output; settings = h.settings }

  flushed_within : (a b c : Bool) (s : State) → Within z s → Within z (flushed_on a b c s).0
  flushed_within true b c s h = flush_within z s h
  flushed_within false true c s h = flush_output_within z s h
  flushed_within false false true s h = flush_both_within z s h
  flushed_within false false false s h = h

  foreground_within : (t : Bool) (s : State) (g : ℕ) (o : Bool) → Within z s → Within z (foreground_on t s g o).0
  foreground_within true s g o h = h
  foreground_within false s g o h = record { input = h.input; output = h.output; settings = h.settings }

  judged_within : (t : Bool) (s : State) (v : Verdict) → Within z s → Within z (judged_on t s v).0
  judged_within true s v h = h
  judged_within false s v h = h

  pub step_within : (s : State) (c : Call) (lent : List ℕ) → Within z s → Within z (step z s c lent).0
  step_within s (Set x) lent h = set_within (a_read_waits s.waiting) (acceptable x) s x refl h
  step_within s (Receive e) lent h = received_within s.hung_up s e h
  step_within s (Read nb) lent h =
      read_within s.hung_up (clashes s.waiting nb (length lent)) (eqb (length lent) 0) s nb (length lent) h
  step_within s Write lent h =
      write_within s.hung_up (ltb 0 (length lent) && eqb (taken z.output s.settings (length s.output.queue) s.output.column lent) 0) s lent h
  step_within s Transmit lent h =
      record {
        input = h.input;
        output = record {
          queue = omega (arith, h.output.queue, length-drop (length (oldest s.output (length lent))) s.output.queue);
          column =
              h.output.column;
        };
        settings = h.settings;
      }
  step_within s (Flush choice) lent h = flushed_within (eqb choice 1) (eqb choice 2) (eqb choice 3) s h
  step_within s Cancel lent h = record { input = h.input; output = h.output; settings = h.settings }
  step_within s (Foreground g o) lent h = foreground_within (too_large g) s g o h
  step_within s (ReadVerdict p) lent h = judged_within (too_large p.group || eqb p.group 0) s (read_verdict s.foreground p) h
  step_within s (WriteVerdict p) lent h = judged_within (too_large p.group || eqb p.group 0) s (write_verdict s.settings.tostop s.foreground p) h
  step_within s (SettingsVerdict p) lent h = judged_within (too_large p.group || eqb p.group 0) s (settings_verdict s.foreground p) h

  pub after_within : (s : State) (calls : List Asked) → Within z s → Within z (after z s calls)
  after_within s [] h = h
  after_within s (a ∷ more) h = after_within (step_of z s a).0 more (step_within s a.call a.lent h)

  fresh_within : Within z fresh
  fresh_within = record { input = none_within z true false; output = record { queue = omega arith; column = omega arith }; settings = refl }

  -- after any run from a fresh port
  pub bounds : (calls : List Asked) → Within z (after z fresh calls)
  bounds calls = after_within fresh calls fresh_within
