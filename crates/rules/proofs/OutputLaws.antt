-- Laws of the rules of output: runs of bytes one after another. Assumes nothing.
use Prim.Native.Nat.{ℕ, suc, ◌+◌, ◌≤◌, ◌<◌}
use native.Mathlib.Omega.{arith}
use native.Mathlib.Numerals.{add-one}
use mathlib.Core.Path.{◌≡◌, refl, sym, ap, subst, ◌∙◌}
use mathlib.Core.Bool.{Bool, true, false, cond}
use mathlib.Core.List.{List, [], ◌∷◌, ◌++◌, append_assoc}
use lib.ListN.{length, take, get_or, length-append}
use lib.Seq.{take-suc}
use Rattle.rules.specs.Types.{Settings}
use Rattle.rules.specs.Sizes.{Output}
use borrow.Author.Tests.{leb-true}
use Rattle.rules.specs.Output.{expand, column_after, columns_after, processed, queued, written, taken, room}

pub append_nil : {A : Type 0} (l : List A) → l ++ [] ≡ l
append_nil [] = refl
append_nil (a ∷ l) = ap (◌∷◌ a) (append_nil l)

pub columns_append : (x : Settings) (c : ℕ) (a b : List ℕ) → columns_after x c (a ++ b) ≡ columns_after x (columns_after x c a) b
columns_append x c [] b = refl
columns_append x c (y ∷ ys) b = columns_append x (column_after x c y) ys b

pub queued_append : (x : Settings) (o : Output) (a b : List ℕ) → queued x o (a ++ b) ≡ queued x (queued x o a) b
queued_append x o a b =
    λ i. record { queue = sym (append_assoc o.queue a b) i; column = columns_append x o.column a b i; stopped = o.stopped }

pub queued_none : (x : Settings) (o : Output) → queued x o [] ≡ o
queued_none x o = λ i. record { queue = append_nil o.queue i; column = o.column; stopped = o.stopped }

-- a run, and then another one
pub processed_append : (x : Settings) (c : ℕ) (a b : List ℕ)
    → processed x c (a ++ b) ≡ processed x c a ++ processed x (columns_after x c (processed x c a)) b
processed_append x c [] b = refl
processed_append x c (y ∷ ys) b =
    let e : List ℕ = expand x c y in
    let d : ℕ = columns_after x c e in
    ap (◌++◌ e) (processed_append x d ys b)
    ∙ sym (append_assoc e (processed x d ys) (processed x (columns_after x d (processed x d ys)) b))
    ∙ ap (λ (k : ℕ). (e ++ processed x d ys) ++ processed x k b) (sym (columns_append x c e (processed x d ys)))

-- a run and one byte more
pub processed_snoc : (x : Settings) (c : ℕ) (a : List ℕ) (b : ℕ)
    → processed x c (a ++ (b ∷ [])) ≡ processed x c a ++ expand x (columns_after x c (processed x c a)) b
processed_snoc x c a b =
    processed_append x c a (b ∷ [])
    ∙ ap (◌++◌ (processed x c a)) (append_nil (expand x (columns_after x c (processed x c a)) b))

-- the first bytes of a run take no more room than the run
pub processed_part : (x : Settings) (c : ℕ) (a b : List ℕ) → length (processed x c a) ≤ length (processed x c (a ++ b))
processed_part x c a b =
    omega (arith, ap length (processed_append x c a b), length-append (processed x c a) (processed x (columns_after x c (processed x c a)) b))

-- one turn of a loop over a run
pub written_next : (x : Settings) (o : Output) (j : ℕ) (bs : List ℕ) → j < length bs
    → written x o (take (j + 1) bs)
    ≡ queued x (written x o (take j bs)) (expand x (written x o (take j bs)).column (get_or bs j 0))
written_next x o j bs lt =
    let one : take (j + 1) bs ≡ take j bs ++ (get_or bs j 0 ∷ []) = rw add-one (take-suc bs j 0 lt) in
    ap (written x o) one
    ∙ ap (queued x o) (processed_snoc x o.column (take j bs) (get_or bs j 0))
    ∙ queued_append x o (processed x o.column (take j bs)) (expand x (written x o (take j bs)).column (get_or bs j 0))

---- What a write takes fits

written_more : (N : ℕ) (x : Settings) (o : Output) (b : ℕ) (bs : List ℕ)
    → let e : List ℕ = expand x o.column b in
    let n : ℕ = taken N x (length o.queue + length e) (columns_after x o.column e) bs in
    length o.queue ≤ N → (length (queued x o e).queue ≤ N → length (written x (queued x o e) (take n bs)).queue ≤ N)
    → (t : Bool) → room N (length o.queue) e ≡ t
    → length (written x o (take (cond t (suc n) 0) (b ∷ bs))).queue ≤ N
written_more N x o b bs le more true r =
    let e : List ℕ = expand x o.column b in
    let n : ℕ = taken N x (length o.queue + length e) (columns_after x o.column e) bs in
    subst (λ (w : Output). length w.queue ≤ N) (sym (queued_append x o e (processed x (columns_after x o.column e) (take n bs))))
    (more (rw length-append (leb-true (length o.queue + length e) N r)))
written_more N x o b bs le more false r = rw append_nil le

pub taken_fits : (N : ℕ) (x : Settings) (o : Output) (bs : List ℕ) → length o.queue ≤ N
    → length (written x o (take (taken N x (length o.queue) o.column bs) bs)).queue ≤ N
taken_fits N x o [] le = rw append_nil le
taken_fits N x o (b ∷ bs) le =
    let e : List ℕ = expand x o.column b in
    written_more N x o b bs le
    (λ w. rw (← length-append o.queue e) (taken_fits N x (queued x o e) bs w))
    (room N (length o.queue) e) refl
