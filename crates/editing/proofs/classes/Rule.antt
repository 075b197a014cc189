-- The rule of the class table: one test, computed over the whole table, and what it says of each entry. Assumes nothing.
use Prim.Native.Nat.{ℕ, zero, suc, ◌+◌, ◌<◌}
use mathlib.Core.Path.{◌≡◌, ap, ◌∙◌}
use mathlib.Core.Bool.{Bool, true, false, ◌&&◌}
use mathlib.Core.List.{List, [], ◌∷◌}
use native.Mathlib.Nat.{add-zero, zero-add, add-suc, suc-add, le_of_suc-le-suc, not-suc-le-zero}
use lib.Dec.{T, eqb, eqb→eq}
use lib.ListN.{length, get_or}
use Rattle.rules.specs.Classes.{class_of}
use Rattle.editing.specs.classes.Entries.{entry_of}

-- the entries, counted from place i, are those of the classes
abbrev right : ℕ → List ℕ → Bool
right i [] = true
right i (x ∷ xs) = eqb x (entry_of (class_of i)) && right (suc i) xs

both : (a b : Bool) → T (a && b) → T a × T b
both true b t = (tt, t)
both false b t = absurd t

entry_from : (xs : List ℕ) (i k : ℕ) → T (right i xs) → k < length xs → get_or xs k 0 ≡ entry_of (class_of (i + k))
entry_from [] i k t lt = absurd (not-suc-le-zero lt)
entry_from (x ∷ xs) i zero t lt =
    rw add-zero (eqb→eq x (entry_of (class_of i)) (both (eqb x (entry_of (class_of i))) (right (suc i) xs) t).0)
entry_from (x ∷ xs) i (suc k) t lt =
    rw (add-suc, ← suc-add i k)
    (entry_from xs (suc i) k (both (eqb x (entry_of (class_of i))) (right (suc i) xs) t).1 (le_of_suc-le-suc lt))

pub entry_at : (xs : List ℕ) (b : ℕ) → T (right 0 xs) → b < length xs → get_or xs b 0 ≡ entry_of (class_of b)
entry_at xs b t lt = entry_from xs 0 b t lt ∙ ap (λ (m : ℕ). entry_of (class_of m)) (zero-add b)
