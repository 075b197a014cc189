-- What of the stored bytes a waiting read begins by. Assumes nothing.
use Prim.Native.Nat.{ℕ}
use mathlib.Core.Path.{◌≡◌, sym, ap}
use mathlib.Core.Bool.{not}
use mathlib.Core.List.{List, [], ◌∷◌}
use native.Mathlib.Omega.{arith}
use lib.ListN.{length}
use lib.Dec.{ltb}
use borrow.Author.Tests.{lt-ltb}
use Rattle.rules.specs.Sizes.{Place}
use Rattle.rules.specs.Reads.{is_empty}

-- a list has an element exactly if its length is above 0
pub some : (ps : List Place) (k : ℕ) → length ps ≡ k → not (is_empty ps) ≡ ltb 0 k
some [] k e = ap (ltb 0) e
some (p ∷ ps) k e = sym (lt-ltb 0 k (omega arith))
