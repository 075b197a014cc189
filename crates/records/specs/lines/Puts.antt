-- What the writers of texts promise.
use Rattle.std.specs.Prelude.{ℕ, ◌+◌, min, max, ◌≡◌, List, ◌++◌, length, take, drop}
use Rattle.std.proofs.lemmas.List.Edits.{sets}

-- the text t from place i on, as much of it as the buffer holds; r is the place after it
pub record Puts (l : List ℕ) (i : ℕ) (t : List ℕ) (r : ℕ) (l' : List ℕ) : Type 0 where
  pub place : r ≡ max i (min (i + length t) (length l))
  pub buffer : l' ≡ sets l i t

-- The buffer l holds the text t after, as much of it as it has places for, and then its old bytes; r is how many bytes were written.
pub record Prints (l t : List ℕ) (r : ℕ) (l' : List ℕ) : Type 0 where
  pub count : r ≡ min (length t) (length l)
  pub buffer : l' ≡ take (length l) t ++ drop (length t) l
