-- What a written byte turns into.
use Rattle.std.specs.Prelude.{ℕ, List, [], ◌∷◌, replicate}
use Rattle.output.specs.declared.expansion.Expansion.{Expansion}
use Rattle.output.specs.declared.expansion.Expansion.TheVariants.{Nothing, Byte, Pair, Spaces}

abbrev pub expanded_bytes : Expansion → List ℕ
expanded_bytes Nothing = []
expanded_bytes (Byte b) = b ∷ []
expanded_bytes Pair = 13 ∷ 10 ∷ []
expanded_bytes (Spaces n) = replicate n 32
