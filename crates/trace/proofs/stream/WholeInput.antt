-- What is written so far, and what is still to come. Assumes nothing.
use Prim.Native.Nat.{ℕ, ◌+◌, ◌-◌, ◌≤◌, ◌<◌, min}
use native.Mathlib.Omega.{arith}
use Rattle.queue.proofs.Rings.{lt_or_le}
use mathlib.Core.Path.{◌≡◌, refl, sym, ap, ap₂, subst, ◌∙◌}
use mathlib.Core.List.{List, [], ◌++◌, append_assoc, append-nil}
use mathlib.Core.Logic.{⊎_elim}
use Rattle.std.proofs.lemmas.List.{nil_from_length}
use lib.ListN.{length, take, drop, length-append, length-take, length-drop, drop_of_length-le}
use lib.Seq.{take_at, drop_at, take_all, take-nil, take-append-le, take-append-add, drop-drop}
use borrow.Rule.Slice.PartMut.{put_mid}
use Rattle.rules.specs.Trace.{trace}
use Rattle.records.specs.lines.Puts.{Prints}
use Rattle.trace.specs.declared.stream.Stream.{Stream}
use Rattle.trace.specs.declared.stream.Fed.{Fed}
use Rattle.trace.specs.stream.Contract.{future, left, beginning, Feeds}
use Rattle.trace.proofs.stream.Laws.{at_end_lem}
use Rattle.trace.proofs.stream.Pieces.{future_begins}
use Rattle.trace.specs.Numbers.{most_kept}

---- A line more in the buffer

-- the buffer d₀ holds as much of the text p as it has places for
abbrev Holding : List ℕ → List ℕ → List ℕ
Holding d₀ p = take (length d₀) p ++ drop (length p) d₀

module _ (d₀ p t : List ℕ) where
  abbrev N : ℕ
  N = length d₀

  abbrev w : ℕ
  w = min (length p) N

  long_holding : length (Holding d₀ p) ≡ N
  long_holding =
      length-append (take N p) (drop (length p) d₀) ∙ omega (arith, length-take N p, length-drop (length p) d₀)

  -- there is room for more
  room : length p < N → take w (Holding d₀ p) ++ (take (length (drop w (Holding d₀ p))) t ++ drop (length t) (drop w (Holding d₀ p))) ≡ Holding d₀ (p ++ t)
  room lt =
      let e : w ≡ length p = omega arith in
      let all : take N p ≡ p = take_all N p (omega arith) in
      let whole : Holding d₀ p ≡ p ++ drop (length p) d₀ = ap (λ (y : List ℕ). y ++ drop (length p) d₀) all in
      let front : take w (Holding d₀ p) ≡ p = ap₂ (λ (k : ℕ) (y : List ℕ). take k y) e whole ∙ take_at p (drop (length p) d₀) (length p) refl in
      let back : drop w (Holding d₀ p) ≡ drop (length p) d₀ = ap₂ (λ (k : ℕ) (y : List ℕ). drop k y) e whole ∙ drop_at p (drop (length p) d₀) (length p)
      refl in
      let rest : List ℕ = drop (length p) d₀ in
      ap₂ (λ (x y : List ℕ). x ++ (take (length y) t ++ drop (length t) y)) front back
      ∙ sym (append_assoc p (take (length rest) t) (drop (length t) rest))
      ∙ ap₂ (λ (x y : List ℕ). x ++ y)
      (ap (λ (k : ℕ). p ++ take k t) (length-drop (length p) d₀) ∙ sym (take_more lt))
      drop_drop_sum
    where
      take_more : length p < N → take N (p ++ t) ≡ p ++ take (N - length p) t
      take_more lt' =
          let k : N ≡ length p + (N - length p) = omega arith in
          ap (λ (j : ℕ). take j (p ++ t)) k ∙ take-append-add p t (N - length p)

      drop_drop_sum : drop (length t) (drop (length p) d₀) ≡ drop (length (p ++ t)) d₀
      drop_drop_sum = drop-drop (length t) (length p) d₀ ∙ ap (λ (k : ℕ). drop k d₀) (sym (length-append p t))

  -- there is none
  full : N ≤ length p → take w (Holding d₀ p) ++ (take (length (drop w (Holding d₀ p))) t ++ drop (length t) (drop w (Holding d₀ p))) ≡ Holding d₀ (p ++ t)
  full le =
      let none : drop w (Holding d₀ p) ≡ [] = drop_of_length-le (Holding d₀ p) (omega (arith, long_holding)) in
      let front : take w (Holding d₀ p) ≡ Holding d₀ p = take_all w (Holding d₀ p) (omega (arith, long_holding)) in
      ap₂ (λ (x y : List ℕ). x ++ (take (length y) t ++ drop (length t) y)) front none
      ∙ ap (λ (y : List ℕ). Holding d₀ p ++ y) (drop_of_length-le [] {i = length t} (omega arith))
      ∙ append-nil (Holding d₀ p)
      ∙ ap₂ (λ (x y : List ℕ). x ++ y) (sym (take-append-le N p t le))
      (drop_of_length-le d₀ le ∙ sym (drop_of_length-le d₀ {i = length (p ++ t)} (omega (arith, length-append p t))))

  -- the text t is printed behind p
  pub printed_behind : (k : ℕ) (m : List ℕ) → Prints (drop w (Holding d₀ p)) t k m
      → (take w (Holding d₀ p) ++ m ≡ Holding d₀ (p ++ t)) × (w + k ≡ min (length (p ++ t)) N)
  printed_behind k m h = (
    ap (λ (y : List ℕ). take w (Holding d₀ p) ++ y) h.buffer ∙ ⊎_elim room full (lt_or_le (length p) N),
    omega (arith, h.count, length-drop w (Holding d₀ p), long_holding, length-append p t),
  )

---- The buffer from a place on

module _ (w : ℕ) (dst : List ℕ) (le : w ≤ length dst) where
  the_rest : take (length dst - w) (drop w dst) ≡ drop w dst
  the_rest = take_all (length dst - w) (drop w dst) (omega (arith, length-drop w dst))

  pub from_place : (t : List ℕ) (k : ℕ) (m : List ℕ) → Prints (take (length dst - w) (drop w dst)) t k m → Prints (drop w dst) t k m
  from_place t k m h = subst (λ (y : List ℕ). Prints y t k m) the_rest h

  pub laid_back : (m : List ℕ) → put_mid w (length dst - w) dst m ≡ take w dst ++ m
  laid_back m =
      ap (λ (y : List ℕ). take w dst ++ y) (ap (λ (y : List ℕ). m ++ y) (drop_of_length-le (drop w dst) (omega (arith, length-drop w dst)))
      ∙ append-nil m)

---- whole

-- while the input is fed: a text is written into the buffer that held d₀, as much of it as it holds; then comes what is printed from here on
pub record Running (input d₀ bs ms os kept dst : List ℕ) (s : Stream) (rest : List ℕ) (w : ℕ) : Type 0 where
  pub text : List ℕ
  pub buffer : dst ≡ Holding d₀ text
  pub written : w ≡ min (length text) (length d₀)
  pub ahead : trace input ≡ text ++ future s bs ms os kept rest
  pub bytes : length bs ≡ 1024
  pub marks : length ms ≡ 1024
  pub out : length os ≡ 2048

pub running_begins : {input d₀ bs ms os kept rest : List ℕ} {s : Stream} → rest ≡ input → s ≡ beginning → length bs ≡ 1024 → length ms ≡ 1024
    → length os ≡ 2048 → Running input d₀ bs ms os kept d₀ s rest 0
running_begins {input} {d₀} {bs} {ms} {os} {kept} {rest} er e eb em eo =
    record {
      text = [];
      buffer = sym (ap (λ (y : List ℕ). y ++ d₀) (take-nil (length d₀)));
      written = omega arith;
      ahead = sym (ap (λ (y : Stream). future y bs ms os kept rest) e ∙ future_begins bs ms os kept rest eb em eo ∙ ap trace er);
      bytes = eb;
      marks = em;
      out = eo;
    }

module _ {input d₀ bs ms os kept dst : List ℕ} {s : Stream} {rest : List ℕ} {w : ℕ} (h : Running input d₀ bs ms os kept dst s rest w) where
  pub running_size : length dst ≡ length d₀
  running_size = ap length h.buffer ∙ long_holding d₀ h.text []

  pub running_room : w ≤ length dst
  running_room = omega (arith, h.written, running_size)

  -- a text more, written behind
  behind : (t : List ℕ) (k : ℕ) (m : List ℕ) → Prints (drop w dst) t k m
      → (take w dst ++ m ≡ Holding d₀ (h.text ++ t)) × (w + k ≡ min (length (h.text ++ t)) (length d₀))
  behind t k m p =
      let b =
      printed_behind d₀ h.text t k m (subst (λ (y : ℕ). Prints (drop y (Holding d₀ h.text)) t k m) h.written
      (subst (λ (y : List ℕ). Prints (drop w y) t k m) h.buffer p)) in (
        ap₂ (λ (j : ℕ) (y : List ℕ). take j y ++ m) h.written h.buffer ∙ b.0,
        ap (λ (j : ℕ). j + k) h.written ∙ b.1,
      )

  pub running_next : {r : Fed} {bs' ms' os' kept' m : List ℕ} → length bs' ≡ length bs → length ms' ≡ length ms → length os' ≡ length os
      → Feeds s bs ms os kept rest (take (length dst - w) (drop w dst)) r bs' ms' os' kept' m
      → Running input d₀ bs' ms' os' kept' (put_mid w (length dst - w) dst m) r.stream (take (length rest - r.used) (drop r.used rest)) (w + r.length)
  running_next {r} {bs'} {ms'} {os'} {kept'} {m} eb em eo f =
      let all : take (length rest - r.used) (drop r.used rest) ≡ drop r.used rest =
      take_all (length rest - r.used) (drop r.used rest) (omega (arith, length-drop r.used rest)) in
      let b = behind f.text r.length m (from_place w dst running_room f.text r.length m f.printed) in
      record {
        text = h.text ++ f.text;
        buffer = laid_back w dst running_room m ∙ b.0;
        written = b.1;
        ahead =
            h.ahead
            ∙ ap (λ (y : List ℕ). h.text ++ future s bs ms os kept y) (sym (append-nil rest))
            ∙ ap (λ (y : List ℕ). h.text ++ y) (f.along [])
            ∙ sym (append_assoc h.text f.text (future r.stream bs' ms' os' kept' (drop r.used rest ++ [])))
            ∙ ap (λ (y : List ℕ). (h.text ++ f.text) ++ future r.stream bs' ms' os' kept' y) (append-nil (drop r.used rest) ∙ sym all);
        bytes = eb ∙ h.bytes;
        marks = em ∙ h.marks;
        out = eo ∙ h.out;
      }

  pub running_done : {k : ℕ} {m : List ℕ} → length kept ≡ most_kept → length rest ≡ 0 → Prints (take (length dst - w) (drop w dst)) (left s kept) k m
      → Prints d₀ (trace input) (w + k) (put_mid w (length dst - w) dst m)
  running_done {k} {m} e none p =
      let b = behind (left s kept) k m (from_place w dst running_room (left s kept) k m p) in
      let all : trace input ≡ h.text ++ left s kept =
      h.ahead ∙ ap (λ (y : List ℕ). h.text ++ y) (ap (λ (y : List ℕ). future s bs ms os kept y) (nil_from_length rest none) ∙ at_end_lem s bs ms os kept e) in
      record {
        count = b.1 ∙ ap (λ (y : List ℕ). min (length y) (length d₀)) (sym all);
        buffer = laid_back w dst running_room m ∙ b.0 ∙ ap (λ (y : List ℕ). Holding d₀ y) (sym all);
      }
