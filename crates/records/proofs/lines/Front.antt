-- A text from the front of a buffer on. Assumes nothing.
use Prim.Native.Nat.{ℕ, suc}
use mathlib.Core.Path.{◌≡◌, refl, ap, sym, ◌∙◌}
use mathlib.Core.List.{List, [], ◌∷◌, ◌++◌}
use native.Mathlib.Omega.{arith}
use lib.ListN.{length, set, take, drop}
use lib.Seq.{sets, drop-nil}
use Rattle.std.specs.Borrow.{MutBor}
use Rattle.records.specs.declared.lines.Line.{Line}
use Rattle.records.specs.lines.Lines.{Lays}
use Rattle.records.specs.lines.Puts.{Prints}
use Rattle.records.proofs.lines.Texts.{sets_out}

-- the same place and buffer, otherwise written
sets_cons : (x : ℕ) (l : List ℕ) (i : ℕ) (t : List ℕ) → sets (x ∷ l) (suc i) t ≡ x ∷ sets l i t
sets_cons x l i [] = refl
sets_cons x l i (y ∷ t) = sets_cons x (set l i y) (suc i) t

sets_front : (l t : List ℕ) → sets l 0 t ≡ take (length l) t ++ drop (length t) l
sets_front [] t = sets_out [] 0 t (omega arith) ∙ sym (drop-nil (length t))
sets_front (y ∷ l) [] = refl
sets_front (y ∷ l) (x ∷ t) = sets_cons x l 0 t ∙ ap (λ (m : List ℕ). x ∷ m) (sets_front l t)

-- a text laid into a line that begins in the buffer b, which then holds o
pub printed : {b : MutBor (List ℕ)} {m : Line} {t o : List ℕ} → Lays (record { buffer = b; at = 0 }) t m → o ≡ m.buffer.now → Prints b.now t m.at o
printed {b} {m} {t} x e =
    let x_place = x.puts.place in
    record { count = omega arith; buffer = e ∙ x.puts.buffer ∙ sets_front b.now t }

-- no second answer, no second buffer: of whoever prints the text t
pub prints_unique : {l t : List ℕ} (r q : ℕ) (m k : List ℕ) → Prints l t r m → Prints l t q k → (r ≡ q) × (m ≡ k)
prints_unique r q m k a b = (a.count ∙ sym b.count, a.buffer ∙ sym b.buffer)
