-- Bytes in lower hex, one after the other. Assumes nothing.
use Prim.Native.Nat.{ℕ, ◌+◌, ◌/◌, ◌%◌, ◌<◌}
use mathlib.Core.Path.{◌≡◌, refl, ap, sym}
use mathlib.Core.List.{List, [], ◌∷◌, ◌++◌}
use native.Mathlib.Numerals.{add-one}
use lib.ListN.{length, get_or, take}
use lib.Seq.{take-suc}
use Rattle.rules.specs.Trace.{hex, hex_digit}

hex_snoc : (bs : List ℕ) (b : ℕ) → hex (bs ++ (b ∷ [])) ≡ hex bs ++ (hex_digit (b / 16) ∷ hex_digit (b % 16) ∷ [])
hex_snoc [] b = refl
hex_snoc (c ∷ bs) b = ap (λ (t : List ℕ). hex_digit (c / 16) ∷ hex_digit (c % 16) ∷ t) (hex_snoc bs b)

pub hex_more : (bs : List ℕ) (j : ℕ) → j < length bs
    → hex (take j bs) ++ ((hex_digit (get_or bs j 0 / 16) ∷ []) ++ (hex_digit (get_or bs j 0 % 16) ∷ [])) ≡ hex (take (j + 1) bs)
hex_more bs j lt = sym (rw (add-one, take-suc bs j 0, hex_snoc (take j bs) (get_or bs j 0)) refl)
