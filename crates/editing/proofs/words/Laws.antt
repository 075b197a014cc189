-- Laws of word erase, and one lemma for each way out of the functions. Assumes nothing.
use mathlib.Core.Path.{◌≡◌, refl, sym, ap, ◌∙◌}
use mathlib.Core.Bool.{Bool, true, false, not, ◌||◌, cond, false≢true}
use mathlib.Core.List.{List, [], ◌∷◌}
use Prim.Native.Nat.{ℕ, suc, ◌+◌, ◌-◌, ◌<◌, ◌≤◌, min}
use native.Mathlib.Omega.{arith}
use lib.ListN.{length, get_or, take, drop, length-take, length-drop}
use lib.Seq.{drop-drop}
use lib.Dec.{eqb}
use borrow.Author.Tests.{eqb-true}
use Rattle.queue.specs.Queue.{held}
use Rattle.rules.specs.Sizes.{Place}
use Rattle.rules.specs.Classes.{is_blank, is_letter, is_control, class_of}
use Rattle.rules.specs.Editing.{units, blank, letter, same_class, trailing, word, one_class, alternate_word}
use Rattle.rules.specs.declared.Class.{Class}
use Rattle.rules.specs.contracts.Class.{the_type}
use denote.Enum.Bare.{sameb}
use Rattle.rules.specs.declared.Class.TheVariants.{Blank, Letter, Control, Other}
use Rattle.input.specs.Contract.{all, get, Within, Sound}
use Rattle.input.specs.declared.Input.{Input}
use Rattle.editing.specs.Contract.{places_in, units_to, Starts, Cuts, Removes}
use Rattle.editing.specs.declared.Run.{Run}
use Rattle.editing.specs.words.Contract.{unit_class}
use Rattle.editing.proofs.Laws.{removes_of, place_one, within_marks}
use Rattle.input.proofs.Laws.{all_long}

---- The classes of units

abbrev pub blank_class : Class → Bool
blank_class Blank = true
blank_class Letter = false
blank_class Control = false
blank_class Other = false

abbrev pub letter_class : Class → Bool
letter_class Blank = false
letter_class Letter = true
letter_class Control = false
letter_class Other = false

blank_class_lem : (b : ℕ) → blank_class (class_of b) ≡ is_blank b
blank_class_lem b = go (is_blank b) (is_letter b) (is_control b)
  where
    go : (t l c : Bool) → blank_class (cond t Blank (cond l Letter (cond c Control Other))) ≡ t
    go true l c = refl
    go false true c = refl
    go false false true = refl
    go false false false = refl

-- no blank is a letter
blank_apart : (b : ℕ) → is_blank b ≡ true → is_letter b ≡ false
blank_apart b e = go (eqb b 32) refl (eqb b 9) refl e
  where
    go : (s : Bool) → eqb b 32 ≡ s → (t : Bool) → eqb b 9 ≡ t → (s || t) ≡ true → is_letter b ≡ false
    go true es t et e = rw (eqb-true b 32 es)
    go false es true et e = rw (eqb-true b 9 et)
    go false es false et e = absurd (false≢true e)

letter_class_lem : (b : ℕ) → letter_class (class_of b) ≡ is_letter b
letter_class_lem b = go (is_blank b) refl (is_letter b) refl (is_control b)
  where
    go : (t : Bool) → is_blank b ≡ t → (l : Bool) → is_letter b ≡ l → (c : Bool) → letter_class (cond t Blank (cond l Letter (cond c Control Other))) ≡ l
    go true et l el c = sym (blank_apart b et) ∙ el
    go false et true el c = refl
    go false et false el true = refl
    go false et false el false = refl

pub blank_unit : (u : List Place) → blank_class (unit_class u) ≡ blank u
blank_unit [] = refl
blank_unit (p ∷ []) = blank_class_lem p.byte
blank_unit (p ∷ q ∷ u) = refl

pub letter_unit : (u : List Place) → letter_class (unit_class u) ≡ letter u
letter_unit [] = refl
letter_unit (p ∷ []) = letter_class_lem p.byte
letter_unit (p ∷ q ∷ u) = refl

-- a class that was compared
pub asked_letter : (u : List Place) (k : Class) (r : Bool) → r ≡ sameb the_type k Letter → k ≡ unit_class u → r ≡ letter u
asked_letter u k r er ek = er ∙ same k ∙ ap letter_class ek ∙ letter_unit u
  where
    same : (k : Class) → sameb the_type k Letter ≡ letter_class k
    same Blank = refl
    same Letter = refl
    same Control = refl
    same Other = refl

module _ (i : Input) (bs ms : List ℕ) (start end : ℕ) (h : Sound i bs ms) (le : end ≤ i.queue.len) where
  -- a unit of one byte
  pub class_single : start < end → end ≤ start + 1 → class_of (get_or (held i.queue bs) start 0) ≡ unit_class (places_in i bs ms start end)
  class_single lt one =
      let es : suc start ≡ end = omega arith in
      sym (ap unit_class (ap (places_in i bs ms start) (sym es) ∙ place_one i bs ms h.same (within_marks i bs ms h) start (omega arith)))

  -- 'a unit of several bytes is a non-blank of the second class'
  pub class_several : start + 1 < end → Other ≡ unit_class (places_in i bs ms start end)
  class_several lt = no_single (places_in i bs ms start end) (omega (arith, long))
    where
      long : length (places_in i bs ms start end) ≡ end - start
      long =
          length-drop start (take end (all i bs ms))
          ∙ ap (λ (n : ℕ). n - start) (length-take end (all i bs ms) ∙ least)
        where
          least : min end (length (all i bs ms)) ≡ end
          least = omega (arith, all_long i bs ms h.same h.within)

      no_single : (u : List Place) → 1 < length u → Other ≡ unit_class u
      no_single [] lt = absurd (omega arith)
      no_single (p ∷ []) lt = absurd (omega arith)
      no_single (p ∷ q ∷ u) lt = refl

---- The units that pass

trailing_same : (f g : List Place → Bool) → ((u : List Place) → f u ≡ g u) → (us : List (List Place)) → trailing f us ≡ trailing g us
trailing_same f g same [] = refl
trailing_same f g same (u ∷ us) =
    ap (λ (t : Bool). cond t (suc (trailing f us)) 0) (same u) ∙ ap (λ (n : ℕ). cond (g u) (suc n) 0) (trailing_same f g same us)

-- units that pass a test of their class
pub cuts_by : (i : Input) (bs ms : List ℕ) (end : ℕ) (t : Class → Bool) (test : List Place → Bool) (r : Run) → ((u : List Place) → t (unit_class u) ≡ test u)
    → Cuts i bs ms end (trailing (λ u. t (unit_class u)) (units_to i bs ms end)) r → Cuts i bs ms end (trailing test (units_to i bs ms end)) r
cuts_by i bs ms end t test r same c = rw (← trailing_same (λ u. t (unit_class u)) test same (units_to i bs ms end)) c

-- units of one class, that of the last of them
pub class_before : (i : Input) (bs ms : List ℕ) (end start : ℕ) (l : Bool) (r : Run) → length bs ≡ length ms → Starts i ms end start
    → l ≡ letter (places_in i bs ms start end) → (t : Class → Bool) → ((u : List Place) → t (unit_class u) ≡ same_class l u)
    → Cuts i bs ms end (trailing (λ u. t (unit_class u)) (units_to i bs ms end)) r → Cuts i bs ms end (one_class (units_to i bs ms end)) r
class_before i bs ms end start l r e s el t same c =
    let step : units_to i bs ms end ≡ places_in i bs ms start end ∷ units_to i bs ms start = s.unit bs e in
    let one : trailing (same_class l) (units_to i bs ms end) ≡ one_class (units_to i bs ms end) =
    ap (trailing (same_class l)) step
    ∙ ap (λ (x : Bool). trailing (same_class x) (places_in i bs ms start end ∷ units_to i bs ms start)) el
    ∙ sym (ap one_class step) in
    rw (← one) (cuts_by i bs ms end t (same_class l) r same c)

-- one run, and then another before it
pub cut_twice : (i : Input) (bs ms : List ℕ) (end n m : ℕ) (r s : Run) → Cuts i bs ms end n r → Cuts i bs ms r.at m s
    → Cuts i bs ms end (n + m) (record { at = s.at; units = r.units + s.units })
cut_twice i bs ms end n m r s c d =
    record {
      low = d.low;
      fewer = omega (arith, c.fewer, d.fewer);
      count = ap (λ (x : ℕ). x + s.units) c.count ∙ ap (◌+◌ n) d.count;
      rest = d.rest ∙ ap (drop m) c.rest ∙ drop-drop m n (units_to i bs ms end);
    }

module _ (i : Input) (bs ms : List ℕ) (end : ℕ) (r : Run)
    (c : Cuts i bs ms end (trailing blank (units_to i bs ms end)) r) where
  pub word_of : (s : Run) → Cuts i bs ms r.at (trailing (λ u. not (blank u)) (units_to i bs ms r.at)) s
      → Cuts i bs ms end (word (units_to i bs ms end)) (record { at = s.at; units = r.units + s.units })
  word_of s d =
      let us : List (List Place) = units_to i bs ms end in
      let n : ℕ = trailing blank us in
      let same : n + trailing (λ u. not (blank u)) (units_to i bs ms r.at) ≡ word us =
      ap (λ (l : List (List Place)). n + trailing (λ u. not (blank u)) l) c.rest in
      rw same at (cut_twice i bs ms end n (trailing (λ u. not (blank u)) (units_to i bs ms r.at)) r s c d)

  pub alternate_of : (s t : Run) → Cuts i bs ms r.at (min 1 (length (units_to i bs ms r.at))) s
      → Cuts i bs ms s.at (one_class (units_to i bs ms s.at)) t
      → Cuts i bs ms end (alternate_word (units_to i bs ms end)) (record { at = t.at; units = r.units + s.units + t.units })
  alternate_of s t d f =
      let us : List (List Place) = units_to i bs ms end in
      let n : ℕ = trailing blank us in
      let before : List (List Place) = units_to i bs ms r.at in
      let after : units_to i bs ms s.at ≡ drop 1 before = d.rest ∙ drop_least before in
      let same : n + min 1 (length before) + one_class (units_to i bs ms s.at) ≡ alternate_word us =
      ap (λ (l : List (List Place)). n + min 1 (length before) + one_class l) after
      ∙ ap (λ (l : List (List Place)). n + min 1 (length l) + one_class (drop 1 l)) c.rest in
      rw same at
      (cut_twice i bs ms end (n + min 1 (length before)) (one_class (units_to i bs ms s.at)) (record { at = s.at; units = r.units + s.units }) t
      (cut_twice i bs ms end n (min 1 (length before)) r s c d) f)
    where
      drop_least : (us : List (List Place)) → drop (min 1 (length us)) us ≡ drop 1 us
      drop_least [] = refl
      drop_least (u ∷ us) = ap (λ (k : ℕ). drop k (u ∷ us)) (least (length us))
        where
          least : (n : ℕ) → min 1 (suc n) ≡ 1
          least n = omega arith

-- WERASE, with ALTWERASE set or clear
module _ (i : Input) (bs ms : List ℕ) (alternate : Bool) (r : Run) (e : length bs ≡ length ms) (h : Within i (length ms)) where
  pub by_alternate : alternate ≡ true → Cuts i bs ms i.queue.len (alternate_word (units_to i bs ms i.queue.len)) r
      → Removes i bs ms (cond alternate (alternate_word (units (get i bs ms).current)) (word (units (get i bs ms).current))) r
  by_alternate t c = rw t (removes_of i bs ms alternate_word r e h c)

  pub by_word : alternate ≡ false → Cuts i bs ms i.queue.len (word (units_to i bs ms i.queue.len)) r
      → Removes i bs ms (cond alternate (alternate_word (units (get i bs ms).current)) (word (units (get i bs ms).current))) r
  by_word f c = rw f (removes_of i bs ms word r e h c)
