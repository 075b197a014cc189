-- A queue in a lent slice of any length: what it holds, and what each function promises.
-- On the right of each equation stand values at entry only.
use Rattle.std.specs.Prelude.{ℕ, ◌+◌, ◌-◌, ◌%◌, min, ◌≡◌, cond, List, ◌++◌, length, set, take, drop, leb, ltb}
use Rattle.queue.specs.Ring.{ring, stores}
use Rattle.queue.specs.declared.Queue.{Queue}
use Rattle.queue.specs.declared.Counted.{Counted}

-- Any queue with any slice holds something, oldest first.
unfoldable pub held : Queue → List ℕ → List ℕ
held q l = ring (length l) (min q.len (length l)) q.head l

-- The same queue with its numbers within n places.
abbrev pub fitted : ℕ → Queue → Queue
fitted n q = record { head = q.head % n; len = min q.len n }

-- Without its k oldest, and without its k newest, within n places.
abbrev pub without_oldest : ℕ → ℕ → Queue → Queue
without_oldest n k q = record { head = (q.head + min k (min q.len n)) % n; len = min q.len n - k }

abbrev pub without_newest : ℕ → ℕ → Queue → Queue
without_newest n k q = record { head = q.head % n; len = min q.len n - k }

-- A queue that holds c from place h on.
abbrev pub laid : ℕ → List ℕ → Queue
laid h c = record { head = h; len = length c }

-- all of bs behind c, or nothing of it
abbrev pub appended : ℕ → List ℕ → List ℕ → List ℕ
appended N c bs = cond (leb (length c + length bs) N) (c ++ bs) c

-- The slice with b at the place of the i-th byte held; behind the newest nothing changes.
abbrev pub changed : Queue → List ℕ → ℕ → ℕ → List ℕ
changed q l i b = cond (ltb i (min q.len (length l))) (set l ((q.head + i) % length l) b) l

-- After the call the queue holds c from its old head on; every other place of the slice is as it was.
pub record Holds (q : Queue) (l c : List ℕ) (r : Queue) (l' : List ℕ) : Type 0 where
  pub queue : r ≡ laid (q.head % length l) c
  pub ring : l' ≡ stores (length l) l (q.head % length l) c

---- What taking a run promises. On the right of each equation stand values at entry only

-- The oldest k bytes are given; the slice is as it was.
pub record Takes (q : Queue) (l d : List ℕ) (r : Counted Queue) (d' : List ℕ) : Type 0 where
  pub count : r.count ≡ length (take (length d) (held q l))
  pub rest : r.rest ≡ laid ((q.head + length (take (length d) (held q l))) % length l) (drop (length d) (held q l))
  pub buffer : d' ≡ take (length d) (held q l) ++ drop (length (take (length d) (held q l))) d
