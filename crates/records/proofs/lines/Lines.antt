-- A line is texts one after the other. Assumes nothing.
use Prim.Native.Nat.{ℕ}
use mathlib.Core.Path.{◌≡◌, subst, ◌∙◌}
use mathlib.Core.List.{List, ◌++◌}
use Rattle.records.specs.declared.lines.Line.{Line}
use Rattle.records.specs.lines.Lines.{Lays}
use Rattle.records.proofs.lines.Texts.{then, same_text}

-- a text, then a text
pub laid : {l m k : Line} {a b : List ℕ} → Lays l a m → Lays m b k → Lays l (a ++ b) k
laid x y = record { same = y.same ∙ x.same; puts = then x.puts y.puts }

-- the same text, otherwise written
pub laid_as : {l m : Line} {a b : List ℕ} → a ≡ b → Lays l a m → Lays l b m
laid_as e x = record { same = x.same; puts = same_text e x.puts }

pub laid_from : {l m k : Line} {t : List ℕ} → l ≡ m → Lays l t k → Lays m t k
laid_from {k = k} {t} e x = subst (λ (y : Line). Lays y t k) e x
