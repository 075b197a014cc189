-- One lemma for each way out of the functions. Assumes nothing.
use Prim.Native.Nat.{ℕ, zero, suc, ◌+◌, ◌-◌, ◌≤◌, ◌<◌, min}
use native.Mathlib.Numerals.{add-one}
use native.Mathlib.Omega.{arith}
use mathlib.Core.Path.{◌≡◌, refl, sym, ap, ap₂, subst, ◌∙◌}
use mathlib.Core.Bool.{Bool, true, false, cond}
use mathlib.Core.List.{List, [], ◌∷◌, ◌++◌}
use lib.ListN.{length, drop, get_or, set, length-set}
use lib.Seq.{drop-cons, set_out}
use borrow.Author.Tests.{ltb-true, lt-ltb}
use Rattle.rules.specs.Sizes.{Sizes, State}
use Rattle.rules.specs.Trace.{trace_from}
use Rattle.trace.specs.gathering.Contract.{size_of, is_open, come, pending, Gathers}
use Rattle.trace.proofs.gathering.Keeping.{come_short, next_byte, next_upto}
use Rattle.trace.specs.Numbers.{most_kept, most_size}

---- begun

-- the bytes of what has begun are those that are pending
pub begun_pending : (kept : List ℕ) (have n : ℕ) → n ≡ cond (is_open kept have) have 0 → pending kept have ≡ come kept n
begun_pending kept have n e = by (is_open kept have) ∙ ap (λ (k : ℕ). come kept k) (sym e)
  where
    by : (t : Bool) → cond t (come kept have) [] ≡ come kept (cond t have 0)
    by true = refl
    by false = sym (come_short kept 0 (omega arith))

---- gather

-- so far
pub record Gathering (kept₀ : List ℕ) (have : ℕ) (piece : List ℕ) (at : ℕ) (kept : List ℕ) : Type 0 where
  pub used : at ≤ length piece
  pub first : at ≡ 0 → kept ≡ kept₀
  pub upto : have + at ≤ size_of kept
  pub low : have + at ≤ most_size
  pub long : length kept ≡ most_kept
  pub same : (z : Sizes) (m i : ℕ) (s : State) (rest : List ℕ)
      → trace_from z m i s (come kept₀ have ++ (piece ++ rest)) ≡ trace_from z m i s (come kept (have + at) ++ (drop at piece ++ rest))

module _ {kept₀ : List ℕ} {have : ℕ} {piece : List ℕ} {at : ℕ} {kept : List ℕ} (h : Gathering kept₀ have piece at kept) where
  pub gathering_next : {kept' : List ℕ} → at < length piece → is_open kept (have + at) ≡ true → have + at < most_size
      → kept' ≡ set kept (have + at) (get_or piece at 0) → Gathering kept₀ have piece (at + 1) kept'
  gathering_next lt e low ek =
      let b : ℕ = get_or piece at 0 in
      let o : have + at < size_of kept = ltb-true (have + at) (size_of kept) e in
      let sum : have + at + 1 ≡ have + (at + 1) = omega arith in
      record {
        used = omega arith;
        first = λ n. absurd (omega arith);
        upto = subst (λ (y : List ℕ). have + (at + 1) ≤ size_of y) (sym ek)
            (subst (λ (k : ℕ). k ≤ size_of (set kept (have + at) b)) sum (next_upto kept (have + at) b o));
        low = omega arith;
        long = ap length ek ∙ length-set kept (have + at) b ∙ h.long;
        same = λ z m i s rest.
            h.same z m i s rest
            ∙ ap (λ (y : List ℕ). trace_from z m i s (come kept (have + at) ++ (y ++ rest)))
            (drop-cons piece at 0 lt ∙ ap (λ (k : ℕ). b ∷ drop k piece) (sym (add-one at)))
            ∙ next_byte z m i s kept (have + at) b (drop (at + 1) piece ++ rest) h.long o
            ∙ ap₂ (λ (y : List ℕ) (k : ℕ). trace_from z m i s (come y k ++ (drop (at + 1) piece ++ rest))) (sym ek) sum;
      }

---- gather, where no further byte has a place

module _ {kept₀ : List ℕ} {have : ℕ} {piece kept : List ℕ} (low : size_of kept ≤ most_size) where
  -- d bytes more
  gathering_past : (d at : ℕ) → Gathering kept₀ have piece at kept → most_kept ≤ have + at → at + d ≤ length piece → have + at + d ≤ size_of kept
      → Gathering kept₀ have piece (at + d) kept
  gathering_past zero at h past le up = subst (λ (k : ℕ). Gathering kept₀ have piece k kept) (omega arith) h
  gathering_past (suc d) at h past le up =
      let one : Gathering kept₀ have piece (at + 1) kept =
      gathering_next h (omega arith) (lt-ltb (have + at) (size_of kept) (omega arith)) (omega arith)
      (sym (set_out kept (have + at) (get_or piece at 0) (omega (arith, h.long)))) in
      let sum : at + 1 + d ≡ at + suc d = omega arith in
      subst (λ (k : ℕ). Gathering kept₀ have piece k kept) sum (gathering_past d (at + 1) one (omega arith) (omega arith) (omega arith))

  pub gathers_past : (at r : ℕ) → Gathering kept₀ have piece at kept → most_kept ≤ have + at → at < length piece → have + at < size_of kept
      → r ≡ min (length piece) (size_of kept - have) → Gathers kept₀ have piece r kept
  gathers_past at r h past lt short er =
      let sum : at + (r - at) ≡ r = omega (arith, er) in
      let g : Gathering kept₀ have piece r kept =
      subst (λ (k : ℕ). Gathering kept₀ have piece k kept) sum (gathering_past (r - at) at h past (omega (arith, er)) (omega (arith, er))) in
      record {
        used = g.used;
        further = λ some. omega (arith, er);
        all = λ more. omega (arith, er, ltb-true (have + r) (size_of kept) more);
        upto = g.upto;
        low = g.low;
        long = g.long;
        same = g.same;
      }
