-- What the rules print for an input, by what stands at its front; what a long body holds is of no account. Assumes nothing.
use Prim.Native.Nat.{ℕ, zero, suc, ◌+◌, ◌-◌, ◌≤◌, ◌<◌}
use native.Mathlib.Omega.{arith}
use Rattle.queue.proofs.Rings.{lt_or_le}
use mathlib.Core.Path.{◌≡◌, refl, sym, ap, ap₂, subst, ◌∙◌}
use mathlib.Core.Bool.{Bool, cond}
use mathlib.Core.List.{List, [], ◌∷◌, ◌++◌}
use mathlib.Core.Logic.{⊎_elim}
use lib.ListN.{length, take, drop, length-append, length-take}
use lib.Seq.{drop-append-add}
use borrow.Author.Tests.{le-leb, lt-leb}
use Rattle.rules.specs.Sizes.{Sizes, State}
use Rattle.rules.specs.Refusals.{Reply}
use Rattle.rules.specs.Trace as trace
use Rattle.rules.proofs.Asked.{long_malformed}
use Rattle.rules.specs.Trace.{malformed, Front, nothing, cut, a_record, front, two, decode, answered, line, cut_line, full_line, trace_from}
use Rattle.trace.specs.Numbers.{header, most_body}

-- the lines for what stands at the front
abbrev pub fronted : Sizes → ℕ → ℕ → State → Front → List ℕ
fronted z m i s nothing = []
fronted z m i s cut = cut_line i
fronted z m i s (a_record kind body rest) =
    line i kind (answered z s (decode kind body)).1 ++ trace_from z m (suc i) (answered z s (decode kind body)).0 rest

pub by_front : (z : Sizes) (m i : ℕ) (s : State) (l : List ℕ) → trace_from z (suc m) i s l ≡ fronted z m i s (front l)
by_front z m i s l = go (front l)
  where
    go : (f : Front)
        → elim f as (λ _. List ℕ) [
          | nothing ↦ []
          | cut ↦ cut_line i
          | a_record kind body rest ↦
              let r : State × Reply = answered z s (decode kind body) in
              line i kind r.1 ++ trace_from z m (suc i) r.0 rest
        ]
        ≡ fronted z m i s f
    go nothing = refl
    go cut = refl
    go (a_record kind body rest) = refl

module _ (z : Sizes) (i : ℕ) (s : State) where
  pub trace_none : (m : ℕ) (l : List ℕ) → length l ≡ 0 → trace_from z m i s l ≡ []
  trace_none zero [] e = refl
  trace_none (suc m) [] e = by_front z m i s []
  trace_none m (b ∷ l) e = absurd (omega arith)

  pub trace_full : (m : ℕ) (l : List ℕ) → m ≡ 0 → (length l ≡ 0 → ⊥) → trace_from z m i s l ≡ full_line i
  trace_full zero [] e some = absurd (some refl)
  trace_full zero (b ∷ l) e some = refl
  trace_full (suc m) l e some = absurd (omega arith)

  pub trace_short : (m : ℕ) (l : List ℕ) → (length l ≡ 0 → ⊥) → length l < header → trace_from z (suc m) i s l ≡ cut_line i
  trace_short m [] some lt = absurd (some refl)
  trace_short m (a ∷ []) some lt = by_front z m i s (a ∷ [])
  trace_short m (a ∷ b ∷ []) some lt = by_front z m i s (a ∷ b ∷ [])
  trace_short m (a ∷ b ∷ c ∷ []) some lt = by_front z m i s (a ∷ b ∷ c ∷ [])
  trace_short m (a ∷ b ∷ c ∷ d ∷ l) some lt = absurd (omega arith)

  module _ (m a b c d : ℕ) (l : List ℕ) where
    abbrev n : ℕ
    n = two a b

    pub trace_cut : length l < n → trace_from z (suc m) i s (a ∷ b ∷ c ∷ d ∷ l) ≡ cut_line i
    trace_cut lt =
        by_front z m i s (a ∷ b ∷ c ∷ d ∷ l)
        ∙ ap (λ (t : Bool). fronted z m i s (cond t (a_record (two c d) (take n l) (drop n l)) cut)) (lt-leb n (length l) lt)

    pub trace_record : n ≤ length l
        → trace_from z (suc m) i s (a ∷ b ∷ c ∷ d ∷ l)
        ≡ line i (two c d) (answered z s (decode (two c d) (take n l))).1 ++ trace_from z m (suc i) (answered z s (decode (two c d) (take n l))).0 (drop n l)
    trace_record le =
        by_front z m i s (a ∷ b ∷ c ∷ d ∷ l)
        ∙ ap (λ (t : Bool). fronted z m i s (cond t (a_record (two c d) (take n l) (drop n l)) cut)) (le-leb n (length l) le)

---- What a long body holds is of no account

drop_past : (p rest : List ℕ) (n : ℕ) → length p ≤ n → drop n (p ++ rest) ≡ drop (n - length p) rest
drop_past p rest n le =
    let e : n ≡ length p + (n - length p) = omega arith in
    ap (λ (k : ℕ). drop k (p ++ rest)) e ∙ drop-append-add p rest (n - length p)

module _ (z : Sizes) (i : ℕ) (s : State) (a b c d : ℕ) (p q rest : List ℕ) (e : length p ≡ length q)
    (many : most_body ≤ length p) (le : length p ≤ two a b) where
  abbrev size : ℕ
  size = two a b

  joined : length (p ++ rest) ≡ length (q ++ rest)
  joined = length-append p rest ∙ ap (λ (k : ℕ). k + length rest) e ∙ sym (length-append q rest)

  behind : drop size (p ++ rest) ≡ drop size (q ++ rest)
  behind = drop_past p rest size le ∙ ap (λ (k : ℕ). drop (size - k) rest) e ∙ sym (drop_past q rest size (subst (λ (k : ℕ). k ≤ size) e le))

  malformed_at : (l : List ℕ) → most_body ≤ length l → size ≤ length (l ++ rest) → most_body ≤ size → decode (two c d) (take size (l ++ rest)) ≡ malformed
  malformed_at l lo up enough = long_malformed (two c d) (take size (l ++ rest)) (omega (arith, length-take size (l ++ rest)))

  pub blind : (m : ℕ) → trace_from z m i s (a ∷ b ∷ c ∷ d ∷ (p ++ rest)) ≡ trace_from z m i s (a ∷ b ∷ c ∷ d ∷ (q ++ rest))
  blind zero = refl
  blind (suc m) = ⊎_elim by_cut by_record (lt_or_le (length (p ++ rest)) size)
    where
      by_cut : length (p ++ rest) < size → trace_from z (suc m) i s (a ∷ b ∷ c ∷ d ∷ (p ++ rest)) ≡ trace_from z (suc m) i s (a ∷ b ∷ c ∷ d ∷ (q ++ rest))
      by_cut lt =
          trace_cut z i s m a b c d (p ++ rest) lt
          ∙ sym (trace_cut z i s m a b c d (q ++ rest) (subst (λ (k : ℕ). k < size) joined lt))

      by_record : size ≤ length (p ++ rest) → trace_from z (suc m) i s (a ∷ b ∷ c ∷ d ∷ (p ++ rest)) ≡ trace_from z (suc m) i s (a ∷ b ∷ c ∷ d ∷ (q ++ rest))
      by_record up =
          let up' : size ≤ length (q ++ rest) = subst (λ (k : ℕ). size ≤ k) joined up in
          trace_record z i s m a b c d (p ++ rest) up
          ∙ ap₂ (λ (x : trace.Decoded) (y : List ℕ). line i (two c d) (answered z s x).1 ++ trace_from z m (suc i) (answered z s x).0 y)
          (malformed_at p many up (omega arith) ∙ sym (malformed_at q (omega (arith, e)) up' (omega arith))) behind
          ∙ sym (trace_record z i s m a b c d (q ++ rest) up')
