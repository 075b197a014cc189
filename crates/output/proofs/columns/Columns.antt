-- Laws of the column, and of a run that is measured with more bytes behind it. Assumes nothing.
use mathlib.Core.Path.{◌≡◌, sym, ap, subst, ◌∙◌}
use mathlib.Core.List.{List, [], ◌∷◌, ◌++◌, append_assoc}
use Prim.Native.Nat.{ℕ, ◌+◌, ◌-◌, ◌<◌, ◌≤◌}
use native.Mathlib.Omega.{arith}
use lib.ListN.{length, replicate, take, drop, get_or, length-append}
use Rattle.std.specs.Prelude.{Option, Some, None}
use Rattle.std.proofs.lemmas.List.{replicate-append-replicate, take_more, take-append-drop}
use Rattle.rules.specs.declared.Settings.{Settings}
use Rattle.rules.specs.Output.{expand, column_after, columns_after, processed}
use Rattle.rules.proofs.OutputLaws.{columns_append, processed_snoc, processed_part}
use Rattle.output.specs.columns.Contract.{Behind, Measures, Extends, ExtendsBy}
use Rattle.output.specs.declared.columns.Measure.{Measure}

pub spaces_next : (x : Settings) (c n d e : ℕ) → d ≡ columns_after x c (replicate n 32) → e ≡ column_after x d 32
    → e ≡ columns_after x c (replicate (n + 1) 32)
spaces_next x c n d e ed ee =
    ee ∙ ap (λ (k : ℕ). column_after x k 32) ed
    ∙ sym (columns_append x c (replicate n 32) (32 ∷ []))
    ∙ ap (columns_after x c) (replicate-append-replicate n 1 32)

---- A run that is measured, and one byte more

module _ (x : Settings) (m : Measure) (b : ℕ) (e : List ℕ) (ee : e ≡ expand x m.column b) (room c : ℕ) (bs : List ℕ) (h : Behind x room c bs m) where
  longer : processed x c (bs ++ (b ∷ [])) ≡ processed x c bs ++ e
  longer = processed_snoc x c bs b ∙ ap (λ (k : ℕ). processed x c bs ++ expand x k b) (sym h.column) ∙ ap (◌++◌ (processed x c bs)) (sym ee)

  longer_length : length (processed x c (bs ++ (b ∷ []))) ≡ length (processed x c bs) + length e
  longer_length = ap length longer ∙ length-append (processed x c bs) e

  longer_columns : columns_after x c (processed x c (bs ++ (b ∷ []))) ≡ columns_after x m.column e
  longer_columns = ap (columns_after x c) longer ∙ columns_append x c (processed x c bs) e ∙ ap (λ (k : ℕ). columns_after x k e) (sym h.column)

module _ (x : Settings) (m : Measure) (b w : ℕ) (e : List ℕ) (ee : e ≡ expand x m.column b) (ew : w ≡ length e) where
  pub measured_full : (w ≤ m.room → ⊥) → Extends x (Some m) b None
  measured_full lt room c bs h = omega (arith, h.left, longer_length x m b e ee room c bs h)

  pub measured_fits : (k d : ℕ) → w ≤ m.room → k ≡ m.room - w → d ≡ columns_after x m.column e → Extends x (Some m) b (Some (record { room = k; column = d }))
  measured_fits k d le ek ed room c bs h =
      record { left = omega (arith, h.left, longer_length x m b e ee room c bs h); column = ed ∙ sym (longer_columns x m b e ee room c bs h) }

---- More bytes behind it, i of them so far

-- a run that does not fit, does not fit with more behind it
pub unfit_longer : (x : Settings) (e : List ℕ) → ExtendsBy x None e None
unfit_longer x e room c bs lt = omega (arith, processed_part x c bs e)

pub extends_next : (x : Settings) (m k r : Option Measure) (bs : List ℕ) (i : ℕ) → i < length bs → ExtendsBy x m (take i bs) k
    → Extends x k (get_or bs i 0) r → ExtendsBy x m (take (i + 1) bs) r
extends_next x m k r bs i lt s t room c ys h =
    rw (take_more bs i 0 lt)
    (subst (λ (l : List ℕ). Measures x room c l r) (append_assoc ys (take i bs) (get_or bs i 0 ∷ [])) (t room c (ys ++ take i bs) (s room c ys h)))

-- what does not fit, does not fit with more behind it
pub extends_past : (x : Settings) (m : Option Measure) (bs : List ℕ) (i : ℕ) → ExtendsBy x m (take i bs) None → ExtendsBy x m bs None
extends_past x m bs i s room c ys h =
    omega (
      arith,
      s room c ys h,
      processed_part x c (ys ++ take i bs) (drop i bs),
      ap (λ (l : List ℕ). length (processed x c l)) (append_assoc ys (take i bs) (drop i bs) ∙ ap (◌++◌ ys) (take-append-drop i bs)),
    )
