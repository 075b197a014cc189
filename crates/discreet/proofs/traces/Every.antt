-- Every list of bytes is a list of records written, and what may come after the last. Assumes nothing.
use Prim.Native.Nat.{ℕ, zero, suc, ◌/◌, ◌%◌, ◌<◌}
use native.Mathlib.Omega.{arith}
use mathlib.Core.Path.{◌≡◌, refl, sym, ap, ap₂, ◌∙◌}
use mathlib.Core.Bool.{Bool, true, false, cond}
use mathlib.Core.List.{List, [], ◌∷◌, ◌++◌, append_assoc}
use lib.ListN.{length, take, drop, length-drop, take-append-drop}
use lib.Seq.{length-take-le}
use lib.Dec.{leb}
use borrow.Author.Tests.{leb-true}
use Rattle.rules.specs.Trace.{a_record, cut, two}
use Rattle.discreet.specs.traces.Statement.{Rec, encoded, encoded_all, Ends, at_end, in_record, Bytes, EveryTrace}

abbrev Split : List ℕ → Type 0
Split l = (rs : List Rec) × (tail : List ℕ) × Ends tail × (l ≡ encoded_all rs ++ tail)

drop_bytes : (n : ℕ) (l : List ℕ) → Bytes l → Bytes (drop n l)
drop_bytes zero l h = h
drop_bytes (suc n) [] h = h
drop_bytes (suc n) (b ∷ l) h = drop_bytes n l h.1

-- a record is written as it stood
rewritten : (a b c d : ℕ) (body l rest : List ℕ) → length body ≡ two a b → a < 256 → c < 256 → l ≡ body ++ rest
    → a ∷ b ∷ c ∷ d ∷ l ≡ encoded (record { kind = two c d; body = body }) ++ rest
rewritten a b c d body l rest e la lc h =
    let u : a ≡ length body % 256 = omega (arith, e) in
    let v : b ≡ length body / 256 = omega (arith, e) in
    let p : c ≡ two c d % 256 = omega arith in
    let q : d ≡ two c d / 256 = omega arith in
    ap₂ (λ (x : ℕ) (y : List ℕ). x ∷ y) u (ap₂ (λ (x : ℕ) (y : List ℕ). x ∷ y) v
    (ap₂ (λ (x : ℕ) (y : List ℕ). x ∷ y) p (ap₂ (λ (x : ℕ) (y : List ℕ). x ∷ y) q h)))

one_more : (r : Rec) (l rest : List ℕ) → l ≡ encoded r ++ rest → Split rest → Split l
one_more r l rest h (rs, tail, e, g) =
    (r ∷ rs, tail, e, h ∙ ap (λ (y : List ℕ). encoded r ++ y) g ∙ sym (append_assoc (encoded r) (encoded_all rs) tail))

-- a header stands in front: the record is whole, and what comes after it is split, or it is cut
module _ (a b c d : ℕ) (l : List ℕ) (h : Bytes (a ∷ b ∷ c ∷ d ∷ l)) where
  abbrev n : ℕ
  n = two a b

  with_header : (t : Bool) → leb n (length l) ≡ t → Split (drop n l) → Split (a ∷ b ∷ c ∷ d ∷ l)
  with_header false e s =
      ([], a ∷ b ∷ c ∷ d ∷ l, in_record (ap (λ (t : Bool). cond t (a_record (two c d) (take n l) (drop n l)) cut) e), refl)
  with_header true e s =
      one_more (record { kind = two c d; body = take n l }) (a ∷ b ∷ c ∷ d ∷ l) (drop n l)
      (rewritten a b c d (take n l) l (drop n l) (length-take-le n l (leb-true n (length l) e)) h.0 h.1.1.0 (sym (take-append-drop n l))) s

step : (l : List ℕ) → Bytes l → ((m : List ℕ) → length m < length l → Bytes m → Split m) → Split l
step [] h shorter = ([], [], at_end refl, refl)
step (a ∷ []) h shorter = ([], a ∷ [], in_record refl, refl)
step (a ∷ b ∷ []) h shorter = ([], a ∷ b ∷ [], in_record refl, refl)
step (a ∷ b ∷ c ∷ []) h shorter = ([], a ∷ b ∷ c ∷ [], in_record refl, refl)
step (a ∷ b ∷ c ∷ d ∷ l) h shorter =
    with_header a b c d l h (leb (two a b) (length l)) refl
    (shorter (drop (two a b) l) (rw (length-drop (two a b) l) (omega arith)) (drop_bytes (two a b) l h.1.1.1.1))

split : (fuel : ℕ) (l : List ℕ) → length l < fuel → Bytes l → Split l
split zero l lt h = absurd (omega arith)
split (suc fuel) l lt h = step l h (λ m shorter g. split fuel m (omega arith) g)

pub every_trace : EveryTrace
every_trace l h = split (suc (length l)) l (omega arith) h
