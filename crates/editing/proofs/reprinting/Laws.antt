-- What a line shows again, place by place: measured, then shown. Assumes nothing.
use mathlib.Core.Path.{◌≡◌, sym, ap, subst, ◌∙◌}
use mathlib.Core.Bool.{Bool, true, false, cond}
use mathlib.Core.List.{List, [], ◌∷◌, ◌++◌, append_assoc}
use Prim.Native.Nat.{ℕ, zero, suc, ◌+◌, ◌-◌, ◌<◌, ◌≤◌, min}
use native.Mathlib.Nat.{le_antisymm}
use native.Mathlib.Omega.{arith}
use lib.ListN.{length, get_or, length-append}
use lib.Dec.{leb}
use borrow.Author.Tests.{le-leb, lt-leb, leb-true, leb-false}
use Rattle.std.specs.Prelude.{Option, Some, None}
use Rattle.std.specs.Option.{is_some}
use Rattle.queue.specs.Queue.{held}
use Rattle.rules.specs.declared.Settings.{Settings}
use Rattle.rules.specs.Sizes.{Place, Output as Ruled}
use Rattle.rules.specs.Output.{columns_after, processed, queued}
use Rattle.rules.specs.Editing.{units, reprint}
use Rattle.rules.specs.Echo.{visible, line_echo, edit_shows, edit_echo}
use Rattle.rules.proofs.OutputLaws.{append_nil, processed_append, processed_part}
use Rattle.output.specs.Contract.{in_range, get, OutputBecomes, echoed, Echoes}
use Rattle.output.specs.columns.Contract.{Behind, Measures, Extends, ExtendsBy}
use Rattle.output.specs.declared.columns.Measure.{Measure}
use Rattle.output.specs.declared.Output.{Output}
use Rattle.output.proofs.Laws.{becomes, get_after, get_length, column_after_lem, same_size, range_len, twice, whole_fits, full_of}
use Rattle.echo.proofs.Laws.{shows_as, shows_none}
use Rattle.input.specs.Contract.{get as input, Within, Sound}
use Rattle.input.specs.declared.Input.{Input}
use Rattle.editing.specs.Contract.{units_to, shows_at}
use Rattle.editing.proofs.Laws.{units_none, units_whole, within_marks}
use Rattle.editing.proofs.Shown.{echo_next}
use Rattle.editing.specs.reprinting.Contract.{place_echo, reprinted, needed}
use Rattle.output.proofs.Run.{got_column}
use Rattle.output.proofs.columns.Columns.{unfit_longer}

---- One place

module _ (x : Settings) (i : Input) (bs ms : List ℕ) (k : ℕ) (t : Bool) (et : t ≡ shows_at i ms k) where
  pub place_seen : (b : ℕ) → t ≡ true → b ≡ get_or (held i.queue bs) k 0 → visible x b ≡ place_echo x i bs ms k
  place_seen b seen eb =
      ap (visible x) eb
      ∙ ap (λ (y : Bool). cond y (visible x (get_or (held i.queue bs) k 0)) []) (sym seen ∙ et)

  pub place_unseen : t ≡ false → [] ≡ place_echo x i bs ms k
  place_unseen unseen = ap (λ (y : Bool). cond y (visible x (get_or (held i.queue bs) k 0)) []) (sym unseen ∙ et)

---- A run, and an echo behind it that fits

-- the run a is queued
abbrev Runs : Settings → Output → List ℕ → List ℕ → Output → List ℕ → Type 0
Runs x o l a r l' = OutputBecomes o l (queued x (get o l) (processed x o.column a)) r l'

runs_as : (x : Settings) (o r : Output) (l l' a b : List ℕ) → a ≡ b → Runs x o l a r l' → Runs x o l b r l'
runs_as x o r l l' a b e s = subst (λ (y : List ℕ). Runs x o l y r l') e s

runs_first : (x : Settings) (o r : Output) (l l' a : List ℕ) → length (get o l).queue + length (processed x o.column a) ≤ length l
    → Echoes x o l a r l' → Runs x o l a r l'
runs_first x o r l l' a le s =
    becomes o r l l' (echoed x o l a) (queued x (get o l) (processed x o.column a)) (whole_fits (length l) x (get o l) (processed x o.column a) le) s

runs_whole : (x : Settings) (o r : Output) (l l' a : List ℕ) → length (get o l).queue + length (processed x o.column a) ≤ length l
    → Runs x o l a r l' → Echoes x o l a r l'
runs_whole x o r l l' a le s =
    becomes o r l l' (queued x (get o l) (processed x o.column a)) (echoed x o l a)
    (sym (whole_fits (length l) x (get o l) (processed x o.column a) le)) s

runs_more : (x : Settings) (o p r : Output) (l m n a e : List ℕ) → length (get o l).queue + length (processed x o.column (a ++ e)) ≤ length l
    → Runs x o l a p m → Echoes x p m e r n → Runs x o l (a ++ e) r n
runs_more x o p r l m n a e le f s =
    let pa : List ℕ = processed x o.column a in
    let pe : List ℕ = processed x p.column e in
    let w : Ruled = queued x (get o l) pa in
    let z : length m ≡ length l = same_size o p l m w f in
    let col : p.column ≡ columns_after x o.column pa = column_after_lem o p l m w f ∙ got_column x o l pa in
    let both : pa ++ pe ≡ processed x o.column (a ++ e) =
    ap (λ (c : ℕ). pa ++ processed x c e) col ∙ sym (processed_append x o.column a e) in
    let long : length pa + length pe ≡ length (processed x o.column (a ++ e)) = sym (length-append pa pe) ∙ ap length both in
    let fits : length (get o l).queue + length pa ≤ length l = omega arith in
    let wide : length w.queue ≡ length (get o l).queue + length pa = length-append (get o l).queue pa in
    let now : length (get p m).queue ≡ length (get o l).queue + length pa =
    ap (λ (v : Ruled). length v.queue) (get_after o p l m w f (omega arith)) ∙ wide in
    becomes o r l n (queued x (get o l) (pa ++ pe)) (queued x (get o l) (processed x o.column (a ++ e))) (ap (queued x (get o l)) both)
    (twice x o p r l m n pa pe fits f (runs_first x p r m n e (omega arith) s))

---- The line

module _ (x : Settings) (i : Input) (bs ms : List ℕ) (h : Sound i bs ms) (b : ℕ) where
  reprinted_next : (k : ℕ) → i.ready ≤ k → k < i.queue.len → reprinted x i bs ms b (k + 1) ≡ reprinted x i bs ms b k ++ place_echo x i bs ms k
  unfolding reprinted
  reprinted_next k le lt =
      ap (◌++◌ (visible x b ++ (10 ∷ []))) (echo_next x i bs ms k h.same (within_marks i bs ms h) le lt)
      ∙ sym (append_assoc (visible x b ++ (10 ∷ [])) (line_echo x (units_to i bs ms k)) (place_echo x i bs ms k))

  reprinted_first : visible x b ++ (10 ∷ []) ≡ reprinted x i bs ms b i.ready
  unfolding reprinted
  reprinted_first =
      sym
      (ap (λ (us : List (List Place)). (visible x b ++ (10 ∷ [])) ++ line_echo x us) (units_none i bs ms h.same (within_marks i bs ms h) i.ready (omega arith))
      ∙ append_nil (visible x b ++ (10 ∷ [])))

  reprinted_all : reprinted x i bs ms b i.queue.len ≡ edit_shows x reprint b 0 (units (input i bs ms).current)
  unfolding reprinted
  reprinted_all =
      append_assoc (visible x b) (10 ∷ []) (line_echo x (units_to i bs ms i.queue.len))
      ∙ ap (λ (us : List (List Place)). visible x b ++ 10 ∷ line_echo x us) (units_whole i bs ms h.same (within_marks i bs ms h))

  -- what the line before place k shows takes no more room than all of it
  part_from : (c d k : ℕ) → k + d ≡ i.queue.len → i.ready ≤ k
      → length (processed x c (reprinted x i bs ms b k)) ≤ length (processed x c (reprinted x i bs ms b i.queue.len))
  part_from c zero k ek le =
      let z : length (processed x c (reprinted x i bs ms b k)) ≡ length (processed x c (reprinted x i bs ms b i.queue.len)) =
      ap (λ (n : ℕ). length (processed x c (reprinted x i bs ms b n))) (le_antisymm (omega arith) (omega arith)) in
      omega arith
  part_from c (suc d) k ek le =
      let one : length (processed x c (reprinted x i bs ms b (k + 1))) ≡ length (processed x c (reprinted x i bs ms b k ++ place_echo x i bs ms k)) =
      ap (λ (l : List ℕ). length (processed x c l)) (reprinted_next k le (omega arith)) in
      omega (arith, processed_part x c (reprinted x i bs ms b k) (place_echo x i bs ms k), part_from c d (k + 1) (omega arith) (omega arith))

  part : (o : Output) (l : List ℕ) (k : ℕ) → i.ready ≤ k → k ≤ i.queue.len → needed x o i bs ms (length l) b ≤ length l
      → length (get o l).queue + length (processed x o.column (reprinted x i bs ms b k)) ≤ length l
  part o l k lo hi le =
      rw get_length (omega (arith, part_from o.column (i.queue.len - k) k (omega arith) lo))

---- line_measured, fits

module _ (x : Settings) (i : Input) (bs ms : List ℕ) (h : Sound i bs ms) (b room c : ℕ) where
  -- one place more
  pub measured_next : (k : ℕ) (m : Measure) (r : Option Measure) → i.ready ≤ k → k < i.queue.len → Behind x room c (reprinted x i bs ms b k) m
      → ExtendsBy x (Some m) (place_echo x i bs ms k) r → Measures x room c (reprinted x i bs ms b (k + 1)) r
  measured_next k m r le lt w s =
      subst (λ (l : List ℕ). Measures x room c l r) (sym (reprinted_next x i bs ms h b k le lt)) (s room c (reprinted x i bs ms b k) w)

  -- what does not fit before place k, does not fit with the places from it on
  pub measured_past : (k : ℕ) → i.ready ≤ k → k ≤ i.queue.len → Measures x room c (reprinted x i bs ms b k) None
      → Measures x room c (reprinted x i bs ms b i.queue.len) None
  measured_past k lo hi lt = omega (arith, part_from x i bs ms h b c (i.queue.len - k) k (omega arith) lo)

  -- before the line's first place
  pub measured_first : (own r : Option Measure) → Measures x room c (visible x b) own → Extends x own 10 r
      → Measures x room c (reprinted x i bs ms b i.ready) r
  measured_first own r w s = subst (λ (l : List ℕ). Measures x room c l r) (reprinted_first x i bs ms h b) (s room c (visible x b) w)

  -- where what REPRINT itself shows does not fit, the line behind it does not fit
  pub own_past : Measures x room c (visible x b) None → Measures x room c (reprinted x i bs ms b i.queue.len) None
  own_past lt = measured_past i.ready (omega arith) h.within.ready (measured_first None None lt (unfit_longer x (10 ∷ [])))

-- what is measured in the room that is left, fits
pub fits_if : (x : Settings) (i : Input) (bs ms : List ℕ) (o : Output) (size b : ℕ) (r : Option Measure)
    → Measures x (size - min o.queue.len size) o.column (reprinted x i bs ms b i.queue.len) r → is_some r ≡ leb (needed x o i bs ms size b) size
fits_if x i bs ms o size b (Some m) w = sym (le-leb (needed x o i bs ms size b) size (omega (arith, w.left)))
fits_if x i bs ms o size b None lt = sym (lt-leb (needed x o i bs ms size b) size (omega arith))

---- shown_line

-- Places from the start of the line to k are shown, p₀ with l₀ being the output before.
pub record Showing (x : Settings) (i : Input) (bs ms : List ℕ) (p₀ : Output) (l₀ : List ℕ) (k : ℕ) (p : Output) (m : List ℕ) : Type 0 where
  pub low : i.ready ≤ k
  pub high : k ≤ i.queue.len
  pub so : (o : Output) (l : List ℕ) (b : ℕ) → needed x o i bs ms (length l) b ≤ length l
      → Runs x o l (reprinted x i bs ms b i.ready) p₀ l₀ → Runs x o l (reprinted x i bs ms b k) p m

module _ (x : Settings) (i : Input) (bs ms : List ℕ) (h : Sound i bs ms) (p₀ : Output) (l₀ : List ℕ) where
  pub showing_next : (k : ℕ) (p r : Output) (m n : List ℕ) → Showing x i bs ms p₀ l₀ k p m → k < i.queue.len → Echoes x p m (place_echo x i bs ms k) r n
      → Showing x i bs ms p₀ l₀ (k + 1) r n
  showing_next k p r m n a lt s =
      record {
        low = omega (arith, a.low);
        high = omega arith;
        so =
            λ o l b le w.
            let more : reprinted x i bs ms b (k + 1) ≡ reprinted x i bs ms b k ++ place_echo x i bs ms k = reprinted_next x i bs ms h b k a.low lt in
            let fits : length (get o l).queue + length (processed x o.column (reprinted x i bs ms b (k + 1))) ≤ length l =
            part x i bs ms h b o l (k + 1) (omega (arith, a.low)) (omega arith) le in
            runs_as x o r l n (reprinted x i bs ms b k ++ place_echo x i bs ms k) (reprinted x i bs ms b (k + 1)) (sym more)
            (runs_more x o p r l m n (reprinted x i bs ms b k) (place_echo x i bs ms k) (rw more at fits) (a.so o l b le w) s);
      }

  module _ (o : Output) (l : List ℕ) (b : ℕ) (le : needed x o i bs ms (length l) b ≤ length l) (f : Echoes x o l (visible x b ++ (10 ∷ [])) p₀ l₀)
      (k : ℕ) (p : Output) (m : List ℕ) (a : Showing x i bs ms p₀ l₀ k p m) where
    shown_run : Runs x o l (reprinted x i bs ms b k) p m
    shown_run =
        a.so o l b le
        (runs_first x o p₀ l l₀ (reprinted x i bs ms b i.ready) (part x i bs ms h b o l i.ready (omega arith) h.within.ready le)
        (shows_as x o p₀ l l₀ (visible x b ++ (10 ∷ [])) (reprinted x i bs ms b i.ready) (reprinted_first x i bs ms h b) f))

    pub shown_all : i.queue.len ≤ k → Echoes x o l (reprinted x i bs ms b i.queue.len) p m
    shown_all end =
        runs_whole x o p l m (reprinted x i bs ms b i.queue.len) (part x i bs ms h b o l i.queue.len h.within.ready (omega arith) le)
        (subst (λ (n : ℕ). Runs x o l (reprinted x i bs ms b n) p m) (le_antisymm a.high end) shown_run)

---- of_reprinted

module _ (x : Settings) (o : Output) (i : Input) (bs ms l : List ℕ) (b : ℕ) (e : length bs ≡ length ms) (h : Within i (length ms)) where
  edit_set : x.echo ≡ true → reprinted x i bs ms b i.queue.len ≡ edit_echo x reprint b 0 (units (input i bs ms).current)
  edit_set t =
      reprinted_all x i bs ms (record { same = e; within = rw e h }) b
      ∙ ap (λ (y : Bool). cond y (edit_shows x reprint b 0 (units (input i bs ms).current)) []) (sym t)

  edit_clear : x.echo ≡ false → [] ≡ edit_echo x reprint b 0 (units (input i bs ms).current)
  edit_clear t = ap (λ (y : Bool). cond y (edit_shows x reprint b 0 (units (input i bs ms).current)) []) (sym t)

  pub room_for : (t : Bool) → t ≡ leb (needed x o i bs ms (length l) b) (length l) → t ≡ true → needed x o i bs ms (length l) b ≤ length l
  room_for t et y = leb-true (needed x o i bs ms (length l) b) (length l) (sym et ∙ y)

  pub reprints : (r : Output) (l' : List ℕ) → x.echo ≡ true → Echoes x o l (reprinted x i bs ms b i.queue.len) r l'
      → Echoes x o l (edit_echo x reprint b 0 (units (input i bs ms).current)) r l'
  reprints r l' t s = shows_as x o r l l' (reprinted x i bs ms b i.queue.len) (edit_echo x reprint b 0 (units (input i bs ms).current)) (edit_set t) s

  pub reprints_nothing : (t : Bool) (r : Output) → x.echo ≡ true → t ≡ leb (needed x o i bs ms (length l) b) (length l) → t ≡ false
      → r ≡ in_range (length l) o
      → Echoes x o l (edit_echo x reprint b 0 (units (input i bs ms).current)) r l
  reprints_nothing t r set et f er =
      let full : length l < needed x o i bs ms (length l) b = leb-false (needed x o i bs ms (length l) b) (length l) (sym et ∙ f) in
      reprints r l set (full_of x o r l er (processed x o.column (reprinted x i bs ms b i.queue.len)) (omega (arith, range_len x o r l er)))

  pub reprints_unseen : (r : Output) → x.echo ≡ false → r ≡ in_range (length l) o → Echoes x o l (edit_echo x reprint b 0 (units (input i bs ms).current)) r l
  reprints_unseen r clear er =
      shows_as x o r l l [] (edit_echo x reprint b 0 (units (input i bs ms).current)) (edit_clear clear) (shows_none x o r l er)
