-- The bytes that have come of a record, and what is printed once they are all there. Assumes nothing.
use Prim.Native.Nat.{ℕ, suc, ◌+◌, ◌-◌, ◌≤◌, ◌<◌, min}
use native.Mathlib.Numerals.{add-one}
use native.Mathlib.Omega.{arith}
use Rattle.queue.proofs.Rings.{lt_or_le}
use mathlib.Core.Path.{◌≡◌, refl, sym, ap, ap₂, ◌∙◌}
use mathlib.Core.Bool.{Bool, true, false, cond}
use mathlib.Core.List.{List, [], ◌∷◌, ◌++◌, append_assoc, append-nil}
use mathlib.Core.Logic.{⊎_elim}
use lib.ListN.{length, take, set, replicate, length-append, length-take, length-replicate, length-set}
use lib.Seq.{take_all, take-add, take_at, drop_at, take-suc-set, set_out, get_or-set_other}
use Rattle.rules.specs.Sizes.{Sizes, State}
use Rattle.rules.specs.Trace as trace
use Rattle.rules.specs.Trace.{two, decode, answered, line, cut_line, trace_from}
use Rattle.trace.specs.gathering.Contract.{size_of, kind_of, body_of, is_open, come, pending}
use Rattle.rules.proofs.Asked.{long_malformed}
use Rattle.trace.proofs.Rules.{trace_short, trace_cut, trace_record, blind}
use Rattle.trace.specs.Numbers.{header, most_body, most_kept}

-- a list of four and more
by_four : (P : List ℕ → Type 0) (l : List ℕ) → header ≤ length l → ((a b c d : ℕ) (k : List ℕ) → P (a ∷ b ∷ c ∷ d ∷ k)) → P l
by_four P [] le f = absurd (omega arith)
by_four P (a ∷ []) le f = absurd (omega arith)
by_four P (a ∷ b ∷ []) le f = absurd (omega arith)
by_four P (a ∷ b ∷ c ∷ []) le f = absurd (omega arith)
by_four P (a ∷ b ∷ c ∷ d ∷ k) le f = f a b c d k

abbrev zeros : ℕ → List ℕ
zeros n = replicate n 0

module _ (kept : List ℕ) where
  pub come_long : (have : ℕ) → length (come kept have) ≡ have
  come_long have =
      length-append (take have kept) (replicate (have - length kept) 0)
      ∙ omega (arith, length-take have kept, length-replicate {A = ℕ} (have - length kept) 0)

  pub come_short : (have : ℕ) → have ≤ length kept → come kept have ≡ take have kept
  come_short have le =
      let e : have - length kept ≡ 0 = omega arith in
      ap (λ (k : ℕ). take have kept ++ replicate k 0) e ∙ append-nil (take have kept)

  pub pending_long : (have : ℕ) → length (pending kept have) ≡ cond (is_open kept have) have 0
  pending_long have = by (is_open kept have)
    where
      by : (t : Bool) → length (cond t (come kept have) []) ≡ cond t have 0
      by true = come_long have
      by false = refl

  pub pending_none : pending kept 0 ≡ []
  pending_none = by (is_open kept 0)
    where
      by : (t : Bool) → cond t (come kept 0) [] ≡ []
      by true = come_short 0 (omega arith)
      by false = refl

---- One byte more

module _ (z : Sizes) (m i : ℕ) (s : State) where
  next_kept : (kept : List ℕ) (have b : ℕ) (x : List ℕ) → have < length kept → come kept have ++ (b ∷ x) ≡ come (set kept have b) (have + 1) ++ x
  next_kept kept have b x lt =
      let one : come kept have ≡ take have kept = come_short kept have (omega arith) in
      let two : come (set kept have b) (have + 1) ≡ take have kept ++ (b ∷ []) =
      come_short (set kept have b) (have + 1) (omega (arith, length-set kept have b))
      ∙ ap (λ (k : ℕ). take k (set kept have b)) (add-one have)
      ∙ take-suc-set kept have b lt in
      ap (λ (y : List ℕ). y ++ (b ∷ x)) one
      ∙ sym (append_assoc (take have kept) (b ∷ []) x)
      ∙ ap (λ (y : List ℕ). y ++ x) (sym two)

  -- beyond the places kept: what the byte is, is of no account
  next_long : (kept : List ℕ) (have b : ℕ) (x : List ℕ) → length kept ≡ most_kept → most_kept ≤ have → have < size_of kept
      → trace_from z m i s (come kept have ++ (b ∷ x)) ≡ trace_from z m i s (come kept (have + 1) ++ x)
  next_long kept have b x e le lt =
      by_four
      (λ l. length l ≡ most_kept → have < size_of l → trace_from z m i s (come l have ++ (b ∷ x)) ≡ trace_from z m i s (come l (have + 1) ++ x))
      kept (omega arith) at e lt
    where
      at : (a₀ a₁ a₂ a₃ : ℕ) (k : List ℕ) → length (a₀ ∷ a₁ ∷ a₂ ∷ a₃ ∷ k) ≡ most_kept → have < size_of (a₀ ∷ a₁ ∷ a₂ ∷ a₃ ∷ k)
          → trace_from z m i s (come (a₀ ∷ a₁ ∷ a₂ ∷ a₃ ∷ k) have ++ (b ∷ x)) ≡ trace_from z m i s (come (a₀ ∷ a₁ ∷ a₂ ∷ a₃ ∷ k) (have + 1) ++ x)
      at a₀ a₁ a₂ a₃ k e lt =
          let l : List ℕ = a₀ ∷ a₁ ∷ a₂ ∷ a₃ ∷ k in
          let p : List ℕ = (k ++ zeros (have - length l)) ++ (b ∷ []) in
          let q : List ℕ = k ++ zeros (have + 1 - length l) in
          let long_p : length p ≡ length k + (have - length l) + 1 =
          length-append (k ++ zeros (have - length l)) (b ∷ [])
          ∙ omega (arith, length-append k (zeros (have - length l)), length-replicate {A = ℕ} (have - length l) 0) in
          let long_q : length q ≡ length k + (have + 1 - length l) =
          length-append k (zeros (have + 1 - length l)) ∙ omega (arith, length-replicate {A = ℕ} (have + 1 - length l) 0) in
          ap (λ (y : List ℕ). trace_from z m i s ((y ++ zeros (have - length l)) ++ (b ∷ x))) (take_all have l (omega arith))
          ∙ ap (λ (y : List ℕ). trace_from z m i s (a₀ ∷ a₁ ∷ a₂ ∷ a₃ ∷ y)) (sym (append_assoc (k ++ zeros (have - length l)) (b ∷ []) x))
          ∙ blind z i s a₀ a₁ a₂ a₃ p q x (omega (arith, long_p, long_q)) (omega (arith, long_p)) (omega (arith, long_p)) m
          ∙ ap (λ (y : List ℕ). trace_from z m i s ((y ++ zeros (have + 1 - length l)) ++ x)) (sym (take_all (have + 1) l (omega arith)))

  pub next_byte : (kept : List ℕ) (have b : ℕ) (x : List ℕ) → length kept ≡ most_kept → have < size_of kept
      → trace_from z m i s (come kept have ++ (b ∷ x)) ≡ trace_from z m i s (come (set kept have b) (have + 1) ++ x)
  next_byte kept have b x e lt = ⊎_elim here past (lt_or_le have most_kept)
    where
      here : have < most_kept → trace_from z m i s (come kept have ++ (b ∷ x)) ≡ trace_from z m i s (come (set kept have b) (have + 1) ++ x)
      here h = ap (λ (y : List ℕ). trace_from z m i s y) (next_kept kept have b x (omega arith))

      past : most_kept ≤ have → trace_from z m i s (come kept have ++ (b ∷ x)) ≡ trace_from z m i s (come (set kept have b) (have + 1) ++ x)
      past h = next_long kept have b x e h lt ∙ ap (λ (y : List ℕ). trace_from z m i s (come y (have + 1) ++ x)) (sym (set_out kept have b (omega arith)))

-- the size stays as it is once the header is there
pub next_upto : (kept : List ℕ) (have b : ℕ) → have < size_of kept → have + 1 ≤ size_of (set kept have b)
next_upto kept have b lt = ⊎_elim short long (lt_or_le have header)
  where
    short : have < header → have + 1 ≤ size_of (set kept have b)
    short h = omega arith

    long : header ≤ have → have + 1 ≤ size_of (set kept have b)
    long h =
        omega (arith, ap₂ (λ (x y : ℕ). two x y) (get_or-set_other kept have 0 b 0 (λ e. omega arith)) (get_or-set_other kept have 1 b 0 (λ e. omega arith)))

---- All bytes are there

module _ (z : Sizes) (m i : ℕ) (s : State) (x : List ℕ) where
  abbrev Printed : List ℕ → Type 0
  Printed kept =
      trace_from z (suc m) i s (come kept (size_of kept) ++ x)
      ≡ line i (kind_of kept) (answered z s (decode (kind_of kept) (body_of kept))).1
      ++ trace_from z m (suc i) (answered z s (decode (kind_of kept) (body_of kept))).0 x

  abbrev body_held : ℕ → ℕ → ℕ → ℕ → List ℕ → List ℕ
  body_held a b c d k = take (two a b) k ++ zeros (header + two a b - length (a ∷ b ∷ c ∷ d ∷ k))

  at_size : (a b c d : ℕ) (k : List ℕ) → length (a ∷ b ∷ c ∷ d ∷ k) ≡ most_kept → Printed (a ∷ b ∷ c ∷ d ∷ k)
  at_size a b c d k e =
      let l : List ℕ = a ∷ b ∷ c ∷ d ∷ k in
      let n : ℕ = two a b in
      let kind : ℕ = two c d in
      let body : List ℕ = body_held a b c d k in
      let long : length body ≡ n =
      length-append (take n k) (zeros (header + n - length l)) ∙ omega (arith, length-take n k, length-replicate {A = ℕ} (header + n - length l) 0) in
      let same : decode kind body ≡ decode kind (take (min n most_body) k) = ⊎_elim (all_long long) all_kept (lt_or_le most_body n) in
      ap (λ (y : List ℕ). trace_from z (suc m) i s ((y ++ zeros (header + n - length l)) ++ x)) (take-add header n l)
      ∙ trace_record z i s m a b c d (body ++ x) (omega (arith, length-append body x, long))
      ∙ ap₂ (λ (y r : List ℕ). line i kind (answered z s (decode kind y)).1 ++ trace_from z m (suc i) (answered z s (decode kind y)).0 r)
      (take_at body x n long) (drop_at body x n long)
      ∙ ap (λ (v : trace.Decoded). line i kind (answered z s v).1 ++ trace_from z m (suc i) (answered z s v).0 x) same
    where
      all_long : length (body_held a b c d k) ≡ two a b → most_body < two a b
          → decode (two c d) (body_held a b c d k) ≡ decode (two c d) (take (min (two a b) most_body) k)
      all_long long lt =
          long_malformed (two c d) (body_held a b c d k) (omega (arith, long))
          ∙ sym (long_malformed (two c d) (take (min (two a b) most_body) k) (omega (arith, length-take (min (two a b) most_body) k)))

      all_kept : two a b ≤ most_body → decode (two c d) (body_held a b c d k) ≡ decode (two c d) (take (min (two a b) most_body) k)
      all_kept le =
          let none : header + two a b - length (a ∷ b ∷ c ∷ d ∷ k) ≡ 0 = omega arith in
          let least : two a b ≡ min (two a b) most_body = omega arith in
          ap (λ (y : List ℕ). decode (two c d) y)
          (ap (λ (j : ℕ). take (two a b) k ++ zeros j) none ∙ append-nil (take (two a b) k) ∙ ap (λ (j : ℕ). take j k) least)

  pub whole_record : (kept : List ℕ) → length kept ≡ most_kept → Printed kept
  whole_record kept e = by_four (λ l. length l ≡ most_kept → Printed l) kept (omega arith) at_size e

---- The input ends

module _ (z : Sizes) (m i : ℕ) (s : State) where
  pub cut_short : (kept : List ℕ) (have : ℕ) → length kept ≡ most_kept → 0 < have → have < size_of kept
      → trace_from z (suc m) i s (come kept have) ≡ cut_line i
  cut_short kept have e some lt = ⊎_elim short long (lt_or_le have header)
    where
      short : have < header → trace_from z (suc m) i s (come kept have) ≡ cut_line i
      short h = trace_short z i s m (come kept have) (λ n. omega (arith, come_long kept have)) (omega (arith, come_long kept have))

      at : (a b c d : ℕ) (k : List ℕ) → length (a ∷ b ∷ c ∷ d ∷ k) ≡ most_kept → header ≤ have → have < size_of (a ∷ b ∷ c ∷ d ∷ k)
          → trace_from z (suc m) i s (come (a ∷ b ∷ c ∷ d ∷ k) have) ≡ cut_line i
      at a b c d k e le lt =
          let l : List ℕ = a ∷ b ∷ c ∷ d ∷ k in
          let h : have ≡ header + (have - header) = omega arith in
          let body : List ℕ = take (have - header) k ++ zeros (have - length l) in
          let long : length body ≡ have - header =
          length-append (take (have - header) k) (zeros (have - length l))
          ∙ omega (arith, length-take (have - header) k, length-replicate {A = ℕ} (have - length l) 0) in
          ap (λ (y : List ℕ). trace_from z (suc m) i s (y ++ zeros (have - length l))) (ap (λ (j : ℕ). take j l) h ∙ take-add header (have - header) l)
          ∙ trace_cut z i s m a b c d body (omega (arith, long))

      long : header ≤ have → trace_from z (suc m) i s (come kept have) ≡ cut_line i
      long h =
          by_four (λ l. length l ≡ most_kept → header ≤ have → have < size_of l → trace_from z (suc m) i s (come l have) ≡ cut_line i)
          kept (omega arith) at e h lt
