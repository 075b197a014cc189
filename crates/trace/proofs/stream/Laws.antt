-- One lemma for each way out of the functions of this crate. Assumes nothing.
use Prim.Native.Nat.{ℕ, suc, ◌+◌, ◌-◌, ◌≤◌, ◌<◌}
use native.Mathlib.Omega.{arith}
use mathlib.Core.Path.{◌≡◌, refl, sym, ap, ap₂, subst, ◌∙◌}
use mathlib.Core.Bool.{Bool, true, false, ◌||◌, cond}
use mathlib.Core.List.{List, [], ◌++◌, append-nil}
use mathlib.Core.Logic.{⊎_elim}
use Rattle.queue.proofs.Rings.{lt_or_le}
use lib.ListN.{length}
use lib.Dec.{leb, eqb}
use lib.Seq.{take-nil}
use borrow.Author.Tests.{ltb-true, le-leb, lt-leb, ne_eqb, eqb-true, eqb-false}
use Rattle.rules.specs.Sizes.{Sizes, State}
use Rattle.rules.specs.Trace.{cut_line, full_line, trace_from}
use Rattle.port.specs.State.{sizes, get}
use Rattle.records.specs.lines.Puts.{Prints}
use Rattle.trace.specs.gathering.Contract.{size_of, is_open, pending}
use Rattle.trace.specs.stream.Contract.{future, left}
use Rattle.trace.specs.declared.stream.Stream.{Stream}
use Rattle.trace.proofs.Rules.{trace_none, trace_full}
use Rattle.trace.proofs.gathering.Keeping.{pending_long, cut_short}
use Rattle.trace.proofs.gathering.Laws.{begun_pending}
use Rattle.trace.specs.Numbers.{most_kept, most_records}

---- Nothing is printed

pub prints_none : (l : List ℕ) → Prints l [] 0 l
prints_none l = record { count = omega arith; buffer = sym (ap (λ (y : List ℕ). y ++ l) (take-nil (length l))) }

---- finish

abbrev pub none_there : Stream → List ℕ → Bool
none_there stream kept = eqb (length (pending kept stream.have)) 0

abbrev text_at_end : Stream → List ℕ
text_at_end stream = cond (leb most_records stream.index) (full_line stream.index) (cut_line stream.index)

-- bytes of a record have come
module _ (stream : Stream) (kept : List ℕ) {n : ℕ}
    (d : stream.done ≡ false) (en : n ≡ cond (is_open kept stream.have) stream.have 0) (some : n ≡ 0 → ⊥) where
  some_left : left stream kept ≡ text_at_end stream
  some_left =
      ap₂ (λ (s t : Bool). cond (s || t) [] (text_at_end stream)) d
      (ne_eqb (length (pending kept stream.have)) 0 (λ f. some (en ∙ sym (pending_long kept stream.have) ∙ f)))

  pub last_full : {l : List ℕ} {k : ℕ} {l' : List ℕ} → most_records ≤ stream.index → Prints l (full_line stream.index) k l' → Prints l (left stream kept) k l'
  last_full {l} {k} {l'} le h =
      subst (λ (y : List ℕ). Prints l y k l')
      (sym (some_left ∙ ap (λ (t : Bool). cond t (full_line stream.index) (cut_line stream.index)) (le-leb most_records stream.index le))) h

  pub last_cut : {l : List ℕ} {k : ℕ} {l' : List ℕ} → stream.index < most_records → Prints l (cut_line stream.index) k l' → Prints l (left stream kept) k l'
  last_cut {l} {k} {l'} lt h =
      subst (λ (y : List ℕ). Prints l y k l')
      (sym (some_left ∙ ap (λ (t : Bool). cond t (full_line stream.index) (cut_line stream.index)) (lt-leb most_records stream.index lt))) h

---- What is printed at the end is what was to be printed

module _ (stream : Stream) (bs ms os kept : List ℕ) where
  abbrev z : Sizes
  z = sizes stream.port bs ms os

  abbrev s : State
  s = get stream.port bs ms os

  abbrev waits : List ℕ
  waits = pending kept stream.have

  pub going : (rest : List ℕ) → stream.done ≡ false
      → future stream bs ms os kept rest ≡ trace_from z (most_records - stream.index) stream.index s (waits ++ rest)
  going rest d = ap (λ (t : Bool). cond t [] (trace_from z (most_records - stream.index) stream.index s (waits ++ rest))) d

  pub more : stream.index < most_records → most_records - stream.index ≡ suc (most_records - (stream.index + 1))
  more lt = omega arith

  pub over : (rest : List ℕ) → stream.done ≡ true → future stream bs ms os kept rest ≡ []
  over rest d = ap (λ (t : Bool). cond t [] (trace_from z (most_records - stream.index) stream.index s (waits ++ rest))) d

  -- the text at the end of the input
  pub at_end_lem : length kept ≡ most_kept → future stream bs ms os kept [] ≡ left stream kept
  at_end_lem e = by_done stream.done refl
    where
      no_rest : waits ++ [] ≡ waits
      no_rest = append-nil waits

      n_rest : length (waits ++ []) ≡ length waits
      n_rest = ap length no_rest

      open_below : (n : ℕ) → n ≡ cond (is_open kept stream.have) stream.have 0 → (n ≡ 0 → ⊥) → n < size_of kept
      open_below n en zn = by_open (is_open kept stream.have) refl en
        where
          by_open : (t : Bool) → is_open kept stream.have ≡ t → n ≡ cond t stream.have 0 → n < size_of kept
          by_open true o eh = omega (arith, ltb-true stream.have (size_of kept) o)
          by_open false o eh = absurd (zn eh)

      by_index : (n : ℕ) → length waits ≡ n → (n ≡ 0 → ⊥) → trace_from z (most_records - stream.index) stream.index s (waits ++ []) ≡ text_at_end stream
      by_index n en zn = ⊎_elim below above (lt_or_le stream.index most_records)
        where
          below : stream.index < most_records → trace_from z (most_records - stream.index) stream.index s (waits ++ []) ≡ text_at_end stream
          below lt =
              let begun : n ≡ cond (is_open kept stream.have) stream.have 0 = sym en ∙ pending_long kept stream.have in
              ap₂ (λ (k : ℕ) (y : List ℕ). trace_from z k stream.index s y) (more lt) (no_rest ∙ begun_pending kept stream.have n begun)
              ∙ cut_short z (most_records - (stream.index + 1)) stream.index s kept n e (omega arith) (open_below n begun zn)
              ∙ sym (ap (λ (t : Bool). cond t (full_line stream.index) (cut_line stream.index)) (lt-leb most_records stream.index lt))

          above : most_records ≤ stream.index → trace_from z (most_records - stream.index) stream.index s (waits ++ []) ≡ text_at_end stream
          above le =
              trace_full z stream.index s (most_records - stream.index) (waits ++ []) (omega arith) (λ f. zn (sym en ∙ sym n_rest ∙ f))
              ∙ sym (ap (λ (t : Bool). cond t (full_line stream.index) (cut_line stream.index)) (le-leb most_records stream.index le))

      by_some : stream.done ≡ false → (t : Bool) → none_there stream kept ≡ t → future stream bs ms os kept [] ≡ left stream kept
      by_some d true et =
          going [] d
          ∙ trace_none z stream.index s (most_records - stream.index) (waits ++ []) (n_rest ∙ eqb-true (length waits) 0 et)
          ∙ sym (ap₂ (λ (a b : Bool). cond (a || b) [] (text_at_end stream)) d et)
      by_some d false et =
          going [] d
          ∙ by_index (length waits) refl (eqb-false (length waits) 0 et)
          ∙ sym (ap₂ (λ (a b : Bool). cond (a || b) [] (text_at_end stream)) d et)

      by_done : (t : Bool) → stream.done ≡ t → future stream bs ms os kept [] ≡ left stream kept
      by_done true d = over [] d ∙ sym (ap (λ (t : Bool). cond (t || none_there stream kept) [] (text_at_end stream)) d)
      by_done false d = by_some d (none_there stream kept) refl
