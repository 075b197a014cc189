-- Texts laid one after the other into a buffer. Assumes nothing.
use Prim.Native.Nat.{ℕ, zero, suc, ◌+◌, ◌-◌, ◌/◌, ◌%◌, ◌<◌, ◌≤◌, min, max}
use mathlib.Core.Path.{◌≡◌, refl, ap, sym, ◌∙◌}
use mathlib.Core.Bool.{Bool, true, false}
use mathlib.Core.List.{List, [], ◌∷◌, ◌++◌}
use native.Mathlib.Nat.{add-zero, mod-eq_of_lt}
use native.Mathlib.Numerals.{add-one}
use native.Mathlib.Omega.{arith}
use lib.ListN.{length, get_or, set, take, length-append}
use lib.Seq.{sets, length-sets, set_out, take-suc}
use lib.Dec.{leb}
use borrow.Author.Tests.{leb-true, leb-false, lt-ltb, le-ltb}
use Rattle.rules.specs.Trace.{digits}
use Rattle.records.specs.lines.Puts.{Puts}

sets_append : (l : List ℕ) (i : ℕ) (a b : List ℕ) → sets l i (a ++ b) ≡ sets (sets l i a) (i + length a) b
sets_append l i [] b = ap (λ (n : ℕ). sets l n b) (sym (add-zero i))
sets_append l i (x ∷ a) b =
    let e : suc i + length a ≡ i + suc (length a) = omega arith in
    sets_append (set l i x) (suc i) a b ∙ ap (λ (n : ℕ). sets (sets (set l i x) (suc i) a) n b) e

pub sets_out : (l : List ℕ) (i : ℕ) (t : List ℕ) → length l ≤ i → sets l i t ≡ l
sets_out l i [] h = refl
sets_out l i (x ∷ t) h = ap (λ (m : List ℕ). sets m (suc i) t) (set_out l i x h) ∙ sets_out l (suc i) t (omega arith)

-- the place after a text, where the buffer holds all of it (t) and where it does not
after_on : (l : List ℕ) (i r : ℕ) (a b : List ℕ) → r ≡ max i (min (i + length a) (length l)) → (t : Bool) → leb (i + length a) (length l) ≡ t
    → sets (sets l i a) r b ≡ sets (sets l i a) (i + length a) b
after_on l i r a b e true h =
    let g : i + length a ≤ length l = leb-true (i + length a) (length l) h in
    let f : r ≡ i + length a = omega arith in
    ap (λ (n : ℕ). sets (sets l i a) n b) f
after_on l i r a b e false h =
    let g : length l < i + length a = leb-false (i + length a) (length l) h in
    let n : length (sets l i a) ≡ length l = length-sets l i a in
    sets_out (sets l i a) r b (omega arith) ∙ sym (sets_out (sets l i a) (i + length a) b (omega arith))

kept : {l m t : List ℕ} {i r : ℕ} → Puts l i t r m → length m ≡ length l
kept {l} {m} {t} {i} {r} x = ap length x.buffer ∙ length-sets l i t

-- a text, then a text
pub then : {l m k a b : List ℕ} {i r q : ℕ} → Puts l i a r m → Puts m r b q k → Puts l i (a ++ b) q k
then {l} {m} {k} {a} {b} {i} {r} {q} x y =
    let n : length m ≡ length l = kept x in
    let x_place = x.place in
    let y_place = y.place in
    record {
      place = simp length-append (omega arith);
      buffer =
          y.buffer ∙ ap (λ (z : List ℕ). sets z r b) x.buffer
          ∙ after_on l i r a b x_place (leb (i + length a) (length l)) refl
          ∙ sym (sets_append l i a b);
    }

-- the same text, otherwise written
pub same_text : {l m a b : List ℕ} {i r : ℕ} → a ≡ b → Puts l i a r m → Puts l i b r m
same_text {l} {m} {a} {b} {i} {r} e x = rw e at x

-- words
pub one_more : (w : List ℕ) (j : ℕ) → j < length w → take j w ++ (get_or w j 0 ∷ []) ≡ take (j + 1) w
one_more w j lt = sym (rw (add-one, take-suc w j 0) refl)

-- numbers
pub digits_one : (most n : ℕ) → (most ≡ 0 → ⊥) → n < 10 → digits most n ≡ (48 + n % 10) ∷ []
digits_one zero n h lt = absurd (h refl)
digits_one (suc k) n h lt = rw (lt-ltb n 10 lt, mod-eq_of_lt lt)

pub digits_more : (most n : ℕ) → (most ≡ 0 → ⊥) → 10 ≤ n → digits most n ≡ digits (most - 1) (n / 10) ++ ((48 + n % 10) ∷ [])
digits_more zero n h le = absurd (h refl)
digits_more (suc k) n h le =
    let e : suc k - 1 ≡ k = omega arith in
    rw (le-ltb n 10 le, e)
