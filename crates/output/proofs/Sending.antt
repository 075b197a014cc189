-- What a transmit sends. Assumes nothing.
use mathlib.Core.Path.{◌≡◌, refl, sym, ap, ◌∙◌}
use mathlib.Core.Bool.{true, false}
use mathlib.Core.List.{List, [], ◌∷◌, ◌++◌}
use Prim.Native.Nat.{ℕ, zero, suc, ◌+◌, ◌%◌}
use native.Mathlib.Nat.{add-zero}
use lib.ListN.{length, take, drop}
use Rattle.rules.specs.Output.{oldest}
use Rattle.output.specs.Contract.{in_range, get, put, Sends}
use Rattle.output.specs.declared.Output.{Output}
use Rattle.queue.specs.Queue.{held, laid, Takes}
use Rattle.queue.specs.declared.Counted.{Counted}
use Rattle.queue.specs.declared.Queue.{Queue}
use Rattle.queue.proofs.Laws.{laid_fitted}

drop_taken : (n : ℕ) (c : List ℕ) → drop (length (take n c)) c ≡ drop n c
drop_taken zero [] = refl
drop_taken zero (b ∷ c) = refl
drop_taken (suc n) [] = refl
drop_taken (suc n) (b ∷ c) = drop_taken n c

-- the output after the bytes y are sent
after_sending : Output → List ℕ → List ℕ → Output
after_sending o l y =
    put (record { queue = drop (length y) (held o.queue l); column = o.column; stopped = o.stopped }) ((o.queue.head + length y) % length l)

pub sent_stopped : (o p : Output) (l d : List ℕ) → o.stopped ≡ true → p ≡ in_range (length l) o → Sends o l d (record { rest = p; count = 0 }) d
unfolding get after_sending
sent_stopped o p l d t e =
    let none : oldest (get o l) (length d) ≡ [] = rw t in
    record {
      count = ap length (sym none);
      rest =
          e
          ∙ ap (λ (q : Queue). record { queue = q; column = o.column; stopped = o.stopped }) (laid_fitted o.queue l)
          ∙ ap (λ (h : ℕ). record { queue = laid (h % length l) (held o.queue l); column = o.column; stopped = o.stopped })
          (sym (add-zero o.queue.head))
          ∙ ap (after_sending o l) (sym none);
      buffer = ap (λ (y : List ℕ). y ++ drop (length y) d) (sym none);
    }

pub sent_some : (o : Output) (l d d' : List ℕ) (r : Counted Queue) → o.stopped ≡ false → Takes o.queue l d r d'
    → Sends o l d (record { rest = record { queue = r.rest; column = o.column; stopped = o.stopped }; count = r.count }) d'
unfolding get after_sending
sent_some o l d d' r t k =
    let y : List ℕ = take (length d) (held o.queue l) in
    let same : oldest (get o l) (length d) ≡ y = rw t in
    record {
      count = k.count ∙ ap length (sym same);
      rest =
          ap (λ (q : Queue). record { queue = q; column = o.column; stopped = o.stopped }) k.rest
          ∙ ap (λ (c : List ℕ). record { queue = laid ((o.queue.head + length y) % length l) c; column = o.column; stopped = o.stopped })
          (sym (drop_taken (length d) (held o.queue l)))
          ∙ ap (after_sending o l) (sym same);
      buffer = k.buffer ∙ ap (λ (z : List ℕ). z ++ drop (length z) d) (sym same);
    }
