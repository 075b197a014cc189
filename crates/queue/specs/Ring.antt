-- A ring of N places in a list: n elements from place h on, in order; and a run of stores from place i on.
use Rattle.std.specs.Prelude.{ℕ, zero, suc, ◌%◌, List, [], ◌∷◌, get_or, set}

abbrev pub ring : ℕ → ℕ → ℕ → List ℕ → List ℕ
ring N zero h l = []
ring N (suc n) h l = get_or l (h % N) 0 ∷ ring N n (suc h) l

abbrev pub stores : ℕ → List ℕ → ℕ → List ℕ → List ℕ
stores N l i [] = l
stores N l i (b ∷ bs) = stores N (set l (i % N) b) (suc i) bs
