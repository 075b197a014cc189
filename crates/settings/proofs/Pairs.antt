-- The scans over the special characters, in rules' words `elem`, `enabled_of` and `distinct`. Assumes nothing.
use Prim.Native.Nat.{ℕ}
use mathlib.Core.Path.{◌≡◌, refl, ap}
use mathlib.Core.Bool.{false, not, ◌&&◌}
use mathlib.Core.List.{List, [], ◌∷◌}
use native.Mathlib.Omega.{arith}
use Rattle.std.proofs.lemmas.Grind.{common_steps}
use Rattle.std.specs.List.{list_any}
use Rattle.rules.specs.Settings.{elem, enabled, enabled_of, distinct, is, characters, acceptable}
use Rattle.rules.specs.declared.Settings.{Settings}

-- b is among the enabled exactly if it is one of the characters
pub elem_any : (b : ℕ) (cs : List ℕ) → elem b (enabled_of cs) ≡ list_any (is b) cs
elem_any b [] = refl
elem_any b (c ∷ cs) = grind (arith, common_steps, elem_any b cs)

-- a disabled character is not among the enabled
elem_disabled : (b : ℕ) (cs : List ℕ) → enabled b ≡ false → elem b (enabled_of cs) ≡ false
elem_disabled b [] h = refl
elem_disabled b (c ∷ cs) h = grind (arith, common_steps, elem_disabled b cs h)

-- the first is enabled or not, and its equal is looked for in either case
pub distinct_next : (c : ℕ) (cs : List ℕ) → distinct (enabled_of (c ∷ cs)) ≡ (not (elem c (enabled_of cs)) && distinct (enabled_of cs))
distinct_next c cs = grind (arith, common_steps, elem_disabled c cs)

-- rules' verdict, from the characters
pub acceptable_of : (x : Settings) (cs : List ℕ) → cs ≡ characters x
    → (distinct (enabled_of cs) && not (elem 10 (enabled_of cs)) && not (elem 13 (enabled_of cs))) ≡ acceptable x
acceptable_of x cs e = ap (λ (l : List ℕ). distinct (enabled_of l) && not (elem 10 (enabled_of l)) && not (elem 13 (enabled_of l))) e
