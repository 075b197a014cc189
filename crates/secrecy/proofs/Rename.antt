-- A run does not see the bytes that it stores: with ECHO clear and without WERASE every rule commutes with a renaming f of
-- stored bytes. X-to is the lemma of the rule X.
use Prim.Native.Nat.{ℕ, zero, suc, min}
use mathlib.Core.Path.{◌≡◌, refl, sym, ap, ap₂, ◌∙◌}
use mathlib.Core.Bool.{Bool, true, false, not, cond}
use mathlib.Core.List.{List, [], ◌∷◌, ◌++◌, map, reverse, map-append, map-map}
use mathlib.Mathlib.Data.List.Basic.{map-reverse_aux}
use lib.ListN.{length, take, drop, length-map}
use lib.Dec.{eqb}
use Rattle.secrecy.specs.Types.{Settings, Outcome, Ok}
use Rattle.rules.specs.Sizes.{Sizes, Place, Input, State, unit, further, delimiter, end_of_file, with_input}
use Rattle.rules.specs.Settings.{stored}
use Rattle.rules.specs.Refusals.{Reply}
use Rattle.rules.specs.Flushing.{flushed_on}
use Rattle.rules.specs.Editing.{Edit, erase, word_erase, kill, reprint, joined, units, places_of, without_units, removed, edited}
use Rattle.rules.specs.Echo.{shown, edit_echo}
use Rattle.rules.specs.Fit.{unit_fits, end_fits, kept_in, kept, ended, overflow_on, unit_on, stores_unit, end_on, stores_end}
use Rattle.rules.specs.Received.{Meaning, literal_next, signals, stops, starts, drops, edits, ends, marks, stores, flushed_unless, edit_on, carry, hangup_on}
use Rattle.rules.specs.Output.{written_on}
use Rattle.rules.specs.Reads.{bytes_of, is_empty, Part, behind, first_line, part_of, finish, done_on, waits, ruled_on, ruled, clashes, read_on, read}
use Rattle.rules.specs.Verdicts.{foreground_on}

---- Lists

pub cond_to : {A B : Type 0} (g : A → B) (c : Bool) {x y : A} {x' y' : B} → x' ≡ g x → y' ≡ g y → cond c x' y' ≡ g (cond c x y)
cond_to g true p q = p
cond_to g false p q = q

take_to : {A B : Type 0} (g : A → B) (n : ℕ) (l : List A) → take n (map g l) ≡ map g (take n l)
take_to g zero [] = refl
take_to g zero (a ∷ l) = refl
take_to g (suc n) [] = refl
take_to g (suc n) (a ∷ l) = ap (◌∷◌ (g a)) (take_to g n l)

drop_to : {A B : Type 0} (g : A → B) (n : ℕ) (l : List A) → drop n (map g l) ≡ map g (drop n l)
drop_to g zero l = refl
drop_to g (suc n) [] = refl
drop_to g (suc n) (a ∷ l) = drop_to g n l

reverse_to : {A B : Type 0} (g : A → B) (l : List A) → reverse (map g l) ≡ map g (reverse l)
reverse_to g l = sym (map-reverse_aux g l [])

---- The one edit that looks at bytes, and the meanings that are not it

abbrev pub NoWord : Edit → Type 0
NoWord erase = Unit {0}
NoWord word_erase = ⊥
NoWord kill = Unit {0}
NoWord reprint = Unit {0}

abbrev pub Blind : Meaning → Type 0
Blind literal_next = Unit {0}
Blind (signals g echo) = Unit {0}
Blind stops = Unit {0}
Blind starts = Unit {0}
Blind drops = Unit {0}
Blind (edits e b) = NoWord e
Blind (ends b echo) = Unit {0}
Blind marks = Unit {0}
Blind (stores b more echo) = Unit {0}

---- The renaming

module _ (f : ℕ → ℕ) where
  abbrev pub place : Place → Place
  place p = record { byte = f p.byte; starts = p.starts; ends = p.ends; mark = p.mark; silent = p.silent }

  abbrev pub renamed : List Place → List Place
  renamed l = map place l

  abbrev pub input : Input → Input
  input i = record { finished = renamed i.finished; current = renamed i.current; literal_next = i.literal_next }

  abbrev pub state : State → State
  state s = with_input s (input s.input)

  abbrev pub reply : Reply → Reply
  reply r = record { answer = r.answer; sent = r.sent; given = map f r.given }

  abbrev pub both : State × Reply → State × Reply
  both r = (state r.0, reply r.1)

  abbrev pub outcome : State × Outcome → State × Outcome
  outcome r = (state r.0, r.1)

  -- what is shown is not renamed: with ECHO clear it holds no stored byte
  abbrev pub meant : Meaning → Meaning
  meant literal_next = literal_next
  meant (signals g echo) = signals g echo
  meant stops = stops
  meant starts = starts
  meant drops = drops
  meant (edits e b) = edits e b
  meant (ends b echo) = ends (f b) echo
  meant marks = marks
  meant (stores b more echo) = stores (f b) (map f more) echo

  ---- Editing

  joined_to : (p : Place) (us : List (List Place)) → joined (place p) (map renamed us) ≡ map renamed (joined p us)
  joined_to p [] = refl
  joined_to p (u ∷ us) = ap (λ (v : List Place). v ∷ map renamed us) (sym (map-append place u (p ∷ [])))

  units_to_lem : (l : List Place) → units (renamed l) ≡ map renamed (units l)
  units_to_lem [] = refl
  units_to_lem (p ∷ ps) =
      cond_to (map renamed) p.starts (ap (◌∷◌ (place p ∷ [])) (units_to_lem ps))
      (ap (joined (place p)) (units_to_lem ps) ∙ joined_to p (units ps))

  places_of_to : (us : List (List Place)) → places_of (map renamed us) ≡ renamed (places_of us)
  places_of_to [] = refl
  places_of_to (u ∷ us) =
      ap₂ ◌++◌ (reverse_to place u) (places_of_to us) ∙ sym (map-append place (reverse u) (places_of us))

  without_to : (n : ℕ) (l : List Place) → without_units n (renamed l) ≡ renamed (without_units n l)
  without_to n l =
      ap (λ (us : List (List Place)). places_of (drop n us)) (units_to_lem l)
      ∙ ap places_of (drop_to renamed n (units l)) ∙ places_of_to (drop n (units l))

  removed_to : (x : Settings) (e : Edit) (us : List (List Place)) → NoWord e → removed x e (map renamed us) ≡ removed x e us
  removed_to x erase us w = ap (min 1) (length-map us renamed)
  removed_to x word_erase us w = absurd w
  removed_to x kill us w = length-map us renamed
  removed_to x reprint us w = refl

  edited_to : (x : Settings) (e : Edit) (i : Input) → NoWord e → edited x e (input i) ≡ input (edited x e i)
  edited_to x e i w =
      ap (λ (l : List Place). record { finished = renamed i.finished; current = l; literal_next = i.literal_next })
      (ap (λ (n : ℕ). without_units n (renamed i.current)) (ap (removed x e) (units_to_lem i.current) ∙ removed_to x e (units i.current) w)
      ∙ without_to (removed x e (units i.current)) i.current)

  -- with ECHO clear no edit shows anything
  unseen : (x : Settings) (e : Edit) (b n : ℕ) (us : List (List Place)) → x.echo ≡ false → edit_echo x e b n us ≡ []
  unseen x e b n us h = rw h

  edit_on_to : (us : List (List Place)) (z : Sizes) (s : State) (e : Edit) (b : ℕ) → s.settings.echo ≡ false → NoWord e
      → edit_on (map renamed us) z (state s) e b ≡ state (edit_on us z s e b)
  edit_on_to [] z s erase b h w = refl
  edit_on_to [] z s word_erase b h w = absurd w
  edit_on_to [] z s kill b h w = refl
  edit_on_to [] z s reprint b h w = refl
  edit_on_to (u ∷ us) z s e b h w =
      ap₂ (λ (i : Input) (bs : List ℕ). shown z (with_input s i) bs) (edited_to s.settings e s.input w)
      (unseen s.settings e b (removed s.settings e (map renamed (u ∷ us))) (map renamed (u ∷ us)) h
      ∙ sym (unseen s.settings e b (removed s.settings e (u ∷ us)) (u ∷ us) h))

  ---- Storing

  fits_to : (c : Bool) (z : Sizes) (i : Input) (u : List Place) → unit_fits c z (input i) (length (renamed u)) ≡ unit_fits c z i (length u)
  fits_to true z i u = simp length-map
  fits_to false z i u = simp length-map

  end_fits_to : (z : Sizes) (i : Input) → end_fits z (input i) ≡ end_fits z i
  end_fits_to z i = simp length-map

  stored_to : (i : Input) → stored (input i) ≡ renamed (stored i)
  stored_to i =
      ap (λ (l : List Place). renamed i.finished ++ l) (reverse_to place i.current)
      ∙ sym (map-append place i.finished (reverse i.current))

  kept_in_to : (c : Bool) (i : Input) (u : List Place) → kept_in c (input i) (renamed u) ≡ input (kept_in c i u)
  kept_in_to true i u =
      ap (λ (l : List Place). record { finished = renamed i.finished; current = l; literal_next = i.literal_next })
      (ap (λ (l : List Place). l ++ renamed i.current) (reverse_to place u) ∙ sym (map-append place (reverse u) i.current))
  kept_in_to false i u =
      ap (λ (l : List Place). record { finished = l; current = []; literal_next = i.literal_next })
      (ap (λ (l : List Place). l ++ renamed u) (stored_to i) ∙ sym (map-append place (stored i) u))

  ended_to : (s : State) (p : Place) → ended (state s) (place p) ≡ state (ended s p)
  ended_to s p =
      ap (λ (l : List Place). with_input (ended s p) (record { finished = l; current = []; literal_next = s.input.literal_next }))
      (ap (λ (l : List Place). renamed s.input.finished ++ l) (reverse_to place (p ∷ s.input.current))
      ∙ sym (map-append place s.input.finished (reverse (p ∷ s.input.current))))

  overflow_on_to : (t : Bool) (z : Sizes) (s : State) → overflow_on t z (state s) ≡ state (overflow_on t z s)
  overflow_on_to true z s = refl
  overflow_on_to false z s = refl

  unit_on_to : (t : Bool) (z : Sizes) (s : State) (u : List Place) (echo : List ℕ) → unit_on t z (state s) (renamed u) echo ≡ state (unit_on t z s u echo)
  unit_on_to true z s u echo =
      ap (λ (i : Input). shown z (with_input (kept s u) i) echo) (kept_in_to s.settings.icanon s.input u)
  unit_on_to false z s u echo = overflow_on_to s.settings.imaxbel z s

  stores_unit_to : (z : Sizes) (s : State) (u : List Place) (echo : List ℕ) → stores_unit z (state s) (renamed u) echo ≡ state (stores_unit z s u echo)
  stores_unit_to z s u echo =
      ap (λ (t : Bool). unit_on t z (state s) (renamed u) echo) (fits_to s.settings.icanon z s.input u)
      ∙ unit_on_to (unit_fits s.settings.icanon z s.input (length u)) z s u echo

  end_on_to : (t : Bool) (z : Sizes) (s : State) (p : Place) (echo : List ℕ) → end_on t z (state s) (place p) echo ≡ state (end_on t z s p echo)
  end_on_to true z s p echo = ap (λ (t : State). shown z t echo) (ended_to s p)
  end_on_to false z s p echo = overflow_on_to s.settings.imaxbel z s

  stores_end_to : (z : Sizes) (s : State) (p : Place) (echo : List ℕ) → stores_end z (state s) (place p) echo ≡ state (stores_end z s p echo)
  stores_end_to z s p echo =
      ap (λ (t : Bool). end_on t z (state s) (place p) echo) (end_fits_to z s.input) ∙ end_on_to (end_fits z s.input) z s p echo

  unit_to : (silent : Bool) (b : ℕ) (more : List ℕ) → unit silent (f b) (map f more) ≡ renamed (unit silent b more)
  unit_to silent b more =
      ap (◌∷◌ (record { byte = f b; starts = true; ends = false; mark = false; silent = silent }))
      (map-map (further silent) f more ∙ sym (map-map place (further silent) more))

  pub silently_to : (z : Sizes) (s : State) (silent : Bool) (b : ℕ) (more echo : List ℕ)
      → stores_unit z (state s) (unit silent (f b) (map f more)) echo ≡ state (stores_unit z s (unit silent b more) echo)
  silently_to z s silent b more echo =
      ap (λ (u : List Place). stores_unit z (state s) u echo) (unit_to silent b more) ∙ stores_unit_to z s (unit silent b more) echo

  ---- A good byte

  flushed_unless_to : (t : Bool) (z : Sizes) (s : State) (echo : List ℕ)
      → shown z (flushed_unless t (state s)) echo ≡ state (shown z (flushed_unless t s) echo)
  flushed_unless_to true z s echo = refl
  flushed_unless_to false z s echo = refl

  pub carry_to : (z : Sizes) (s : State) (m : Meaning) → f 0 ≡ 0 → s.settings.echo ≡ false → Blind m
      → carry z (state s) (meant m) ≡ outcome (carry z s m)
  carry_to z s literal_next o h w = refl
  carry_to z s (signals g echo) o h w = λ i. (flushed_unless_to s.settings.noflsh z s echo i, (carry z s (signals g echo)).1)
  carry_to z s stops o h w = refl
  carry_to z s starts o h w = refl
  carry_to z s drops o h w = refl
  carry_to z s (edits e b) o h w =
      ap (λ (t : State). (t, Ok))
      (ap (λ (us : List (List Place)). edit_on us z (state s) e b) (units_to_lem s.input.current)
      ∙ edit_on_to (units s.input.current) z s e b h w)
  carry_to z s (ends b echo) o h w = ap (λ (t : State). (t, Ok)) (stores_end_to z s (delimiter b) echo)
  carry_to z s marks o h w =
      ap (λ (t : State). (t, Ok))
      (ap (λ (b : ℕ). stores_end z (state s) (record { byte = b; starts = true; ends = true; mark = true; silent = false }) []) (sym o)
      ∙ stores_end_to z s end_of_file [])
  carry_to z s (stores b more echo) o h w = ap (λ (t : State). (t, Ok)) (silently_to z s false b more echo)

  ---- Reads

  is_empty_to : (l : List Place) → is_empty (renamed l) ≡ is_empty l
  is_empty_to [] = refl
  is_empty_to (p ∷ ps) = refl

  bytes_of_to : (l : List Place) → bytes_of (renamed l) ≡ map f (bytes_of l)
  bytes_of_to [] = refl
  bytes_of_to (p ∷ ps) = ap (◌∷◌ (f p.byte)) (bytes_of_to ps)

  abbrev part : Part → Part
  part r = record { bytes = map f r.bytes; left = renamed r.left }

  first_line_to : (n : ℕ) (l : List Place) → first_line n (renamed l) ≡ part (first_line n l)
  first_line_to n [] = refl
  first_line_to zero (p ∷ ps) = cond_to part p.mark refl refl
  first_line_to (suc n) (p ∷ ps) =
      cond_to part p.mark refl (cond_to part p.ends refl (ap (behind (f p.byte)) (first_line_to n ps)))

  part_of_to : (c : Bool) (n : ℕ) (l : List Place) → part_of c n (renamed l) ≡ part (part_of c n l)
  part_of_to true n l = first_line_to n l
  part_of_to false n l =
      λ i. record { bytes = (ap bytes_of (take_to place n l) ∙ bytes_of_to (take n l)) i; left = drop_to place n l i }

  finish_to : (s : State) (r q : Part) → q ≡ part r → finish (state s) q ≡ both (finish s r)
  finish_to s r q e =
      ap (finish (state s)) e
      ∙ ap (λ (n : ℕ). ((finish (state s) (part r)).0, record { answer = record { outcome = Ok; count = n }; sent = []; given = map f r.bytes }))
      (length-map r.bytes f)

  waits_to : (s : State) (n : ℕ) → waits (state s) n ≡ both (waits s n)
  waits_to s n = rw (is_empty_to s.input.finished)

  done_on_to : (c : Bool) (s : State) (n : ℕ) → done_on c (state s) n ≡ done_on c s n
  done_on_to true s n = ap not (is_empty_to s.input.finished)
  done_on_to false s n = rw (length-map s.input.finished place)

  ruled_on_to : (a b c : Bool) (s : State) (n : ℕ) → ruled_on a b c (state s) n ≡ both (ruled_on a b c s n)
  ruled_on_to true true c s n = refl
  ruled_on_to true false c s n =
      finish_to s (part_of s.settings.icanon n s.input.finished) _ (part_of_to s.settings.icanon n s.input.finished)
  ruled_on_to false b true s n =
      finish_to s (part_of s.settings.icanon n s.input.finished) _ (part_of_to s.settings.icanon n s.input.finished)
  ruled_on_to false b false s n = waits_to s n

  ruled_to : (s : State) (nonblocking : Bool) (n : ℕ) → ruled (state s) nonblocking n ≡ both (ruled s nonblocking n)
  ruled_to s nonblocking n =
      ap₂ (λ (b c : Bool). ruled_on nonblocking b c (state s) n) (is_empty_to s.input.finished) (done_on_to s.settings.icanon s n)
      ∙ ruled_on_to nonblocking (is_empty s.input.finished) (done_on s.settings.icanon s n) s n

  read_on_to : (a b c : Bool) (s : State) (nonblocking : Bool) (n : ℕ) → read_on a b c (state s) nonblocking n ≡ both (read_on a b c s nonblocking n)
  read_on_to true b c s nonblocking n = refl
  read_on_to false true c s nonblocking n = refl
  read_on_to false false true s nonblocking n = refl
  read_on_to false false false s nonblocking n = ruled_to s nonblocking n

  pub read_to : (s : State) (nonblocking : Bool) (n : ℕ) → read (state s) nonblocking n ≡ both (read s nonblocking n)
  read_to s nonblocking n = read_on_to s.hung_up (clashes s.waiting nonblocking n) (eqb n 0) s nonblocking n

  ---- Calls that touch no stored byte

  pub hangup_on_to : (t : Bool) (s : State) → hangup_on t (state s) ≡ outcome (hangup_on t s)
  hangup_on_to true s = refl
  hangup_on_to false s = refl

  pub written_on_to : (a b : Bool) (s : State) (bs : List ℕ) (n : ℕ) → written_on a b (state s) bs n ≡ both (written_on a b s bs n)
  written_on_to true b s bs n = refl
  written_on_to false true s bs n = refl
  written_on_to false false s bs n = refl

  pub flushed_on_to : (a b c : Bool) (s : State) → flushed_on a b c (state s) ≡ both (flushed_on a b c s)
  flushed_on_to true b c s = refl
  flushed_on_to false true c s = refl
  flushed_on_to false false true s = refl
  flushed_on_to false false false s = refl

  pub foreground_on_to : (t : Bool) (s : State) (group : ℕ) (orphaned : Bool)
      → foreground_on t (state s) group orphaned ≡ both (foreground_on t s group orphaned)
  foreground_on_to true s group orphaned = refl
  foreground_on_to false s group orphaned = refl
