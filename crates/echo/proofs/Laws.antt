-- What is shown and measured, restated. Assumes nothing.
use mathlib.Core.Path.{◌≡◌, refl, sym, ap, subst, ◌∙◌}
use mathlib.Core.Bool.{Bool, true, false, cond}
use mathlib.Core.List.{List, [], ◌++◌}
use Prim.Native.Nat.{ℕ, ◌+◌}
use lib.ListN.{length}
use lib.Dec.{leb}
use Rattle.std.specs.Prelude.{Option}
use Rattle.rules.specs.declared.Settings.{Settings}
use Rattle.rules.specs.Sizes.{Output as Ruled}
use Rattle.rules.specs.Output.{queued, queued_whole}
use Rattle.rules.proofs.OutputLaws.{queued_none}
use Rattle.echo.specs.Contract.{erased_echo}
use Rattle.output.specs.Contract.{in_range, get, OutputBecomes, echoed, Echoes}
use Rattle.output.specs.columns.Contract.{Measures, ExtendsBy}
use Rattle.output.specs.declared.columns.Measure.{Measure}
use Rattle.output.specs.declared.Output.{Output}
use Rattle.output.proofs.Laws.{becomes, stays}

whole_none : (N : ℕ) (x : Settings) (w : Ruled) → queued_whole N x w [] ≡ w
whole_none N x w = by (leb (length w.queue + 0) N)
  where
    by : (t : Bool) → cond t (queued x w []) w ≡ w
    by true = queued_none x w
    by false = refl

-- nothing is shown: the output in range
pub shows_none : (x : Settings) (o p : Output) (l : List ℕ) → p ≡ in_range (length l) o → Echoes x o l [] p l
shows_none x o p l e =
    let b : OutputBecomes o l (get o l) (in_range (length l) o) l = stays o l in
    becomes o p l l (get o l) (echoed x o l []) (sym (whole_none (length l) x (get o l))) (record { output = e ∙ b.output; slice = b.slice })

-- the same bytes by another name
pub shows_as : (x : Settings) (o r : Output) (l l' a b : List ℕ) → a ≡ b → Echoes x o l a r l' → Echoes x o l b r l'
shows_as x o r l l' a b e s = becomes o r l l' (echoed x o l a) (echoed x o l b) (ap (echoed x o l) e) s

pub extends_as : (x : Settings) (m r : Option Measure) (a b : List ℕ) → a ≡ b → ExtendsBy x m a r → ExtendsBy x m b r
extends_as x m r a b e s = λ room c bs h. subst (λ (l : List ℕ). Measures x room c (bs ++ l) r) e (s room c bs h)

-- with ECHO clear an edit shows nothing
pub erased_clear : (x : Settings) (b n : ℕ) → x.echo ≡ false → [] ≡ erased_echo x b n
erased_clear x b n e = rw e
