-- In whatever pieces an input arrives, its lines are those of the whole. Assumes nothing.
use Prim.Native.Nat.{ℕ, ◌-◌, ◌≤◌, min}
use native.Mathlib.Omega.{arith}
use mathlib.Core.Path.{◌≡◌, sym, ap, ap₂, ◌∙◌}
use mathlib.Core.Bool.{Bool, true, false, ◌||◌, cond}
use mathlib.Core.List.{List, [], ◌++◌, append_assoc}
use Rattle.std.proofs.lemmas.List.{nil_from_length}
use lib.ListN.{length, take, drop, length-drop}
use lib.Seq.{take_all, take_at}
use lib.Dec.{leb}
use Rattle.rules.specs.Sizes.{Sizes, State, base}
use Rattle.rules.specs.Trace.{cut_line, full_line, trace_from, trace}
use Rattle.port.specs.State.{sizes, get}
use Rattle.port.specs.Sending as port
use Rattle.records.specs.lines.Puts.{Prints}
use Rattle.port.proofs.Fresh.{fresh_state}
use Rattle.trace.specs.declared.stream.Stream.{Stream}
use Rattle.trace.specs.declared.stream.Fed.{Fed}
use Rattle.trace.specs.stream.Contract.{future, left, beginning, Feeds}
use Rattle.trace.specs.stream.Pieces.{joined, Writes, feeds, used, finishes, WritesTheWhole, Passes}
use Rattle.trace.proofs.stream.Lengths.{cut_at_most, full_at_most}
use Rattle.trace.proofs.gathering.Keeping.{pending_none}
use Rattle.trace.proofs.stream.Laws.{none_there, at_end_lem}
use Rattle.trace.specs.Numbers.{most_line, most_records}

-- a buffer with room for it holds the whole text
written : (l t : List ℕ) (r : ℕ) (l' : List ℕ) → length t ≤ length l → Prints l t r l' → take r l' ≡ t
written l t r l' le h =
    let n : length t ≡ r = omega (arith, h.count) in
    ap (take r) (h.buffer ∙ ap (λ (y : List ℕ). y ++ drop (length t) l) (take_all (length l) t le)) ∙ take_at t (drop (length t) l) r n

left_at_most : (stream : Stream) (kept : List ℕ) → length (left stream kept) ≤ most_line
left_at_most stream kept = by (stream.done || none_there stream kept) (leb most_records stream.index)
  where
    by : (a b : Bool) → length (cond a [] (cond b (full_line stream.index) (cut_line stream.index))) ≤ most_line
    by true b = omega arith
    by false true = full_at_most stream.index
    by false false = cut_at_most stream.index

-- what is written is what was to be printed
pub writes_future : {ps : List (List ℕ)} {stream : Stream} {bs ms os kept t : List ℕ} → Writes ps stream bs ms os kept t
    → t ≡ future stream bs ms os kept (joined ps)
writes_future (feeds {stream} {bs} {ms} {os} {kept} {p} {l} {ps} {r} {bs'} {ms'} {os'} {kept'} {l'} {t} room h w) =
    ap₂ (λ (x y : List ℕ). x ++ y) (written l h.text r.length l' (omega (arith, h.short)) h.printed) (writes_future w)
    ∙ sym (h.along (joined ps))
writes_future (used w) = writes_future w
writes_future (finishes {stream} {bs} {ms} {os} {kept} {l} {r} {l'} e room h) =
    written l (left stream kept) r l' (omega (arith, left_at_most stream kept)) h ∙ sym (at_end_lem stream bs ms os kept e)

-- from the beginning, all is to be printed
pub future_begins : (bs ms os kept rest : List ℕ) → length bs ≡ 1024 → length ms ≡ 1024 → length os ≡ 2048 → future beginning bs ms os kept rest ≡ trace rest
future_begins bs ms os kept rest eb em eo =
    let z : sizes port.fresh bs ms os ≡ base =
    ap₂ (λ (a b : ℕ). record { line = 254; input = a; output = b }) (ap₂ min eb em) eo in
    ap (λ (y : List ℕ). trace_from (sizes port.fresh bs ms os) most_records 0 (get port.fresh bs ms os) (y ++ rest)) (pending_none kept)
    ∙ ap₂ (λ (y : Sizes) (x : State). trace_from y most_records 0 x rest) z (fresh_state bs ms os)

pub writes_the_whole : WritesTheWhole
writes_the_whole pieces bs ms os kept t eb em eo w = writes_future w ∙ future_begins bs ms os kept (joined pieces) eb em eo

---- A piece as a whole

-- some text is written for what is fed of it, and the rest is still to come
pub record Passing (stream : Stream) (bs ms os kept piece rest : List ℕ) (r : Stream) (bs' ms' os' kept' : List ℕ) : Type 0 where
  pub text : List ℕ
  pub along : (after : List ℕ) → future stream bs ms os kept (piece ++ after) ≡ text ++ future r bs' ms' os' kept' (rest ++ after)

-- nothing is fed of it yet
pub passing_begins : {stream : Stream} {bs ms os kept piece rest : List ℕ} → rest ≡ piece → Passing stream bs ms os kept piece rest stream bs ms os kept
passing_begins {stream} {bs} {ms} {os} {kept} e =
    record { text = []; along = λ after. ap (λ (y : List ℕ). future stream bs ms os kept (y ++ after)) (sym e) }

module _ {stream : Stream} {bs ms os kept piece rest : List ℕ} {s : Stream} {bs₁ ms₁ os₁ kept₁ : List ℕ}
    (h : Passing stream bs ms os kept piece rest s bs₁ ms₁ os₁ kept₁) where
  -- some of the rest is used
  pub passing_next : {l : List ℕ} {r : Fed} {bs₂ ms₂ os₂ kept₂ l₂ : List ℕ} → Feeds s bs₁ ms₁ os₁ kept₁ rest l r bs₂ ms₂ os₂ kept₂ l₂
      → Passing stream bs ms os kept piece (take (length rest - r.used) (drop r.used rest)) r.stream bs₂ ms₂ os₂ kept₂
  passing_next {l} {r} {bs₂} {ms₂} {os₂} {kept₂} f =
      let all : take (length rest - r.used) (drop r.used rest) ≡ drop r.used rest =
      take_all (length rest - r.used) (drop r.used rest) (omega (arith, length-drop r.used rest)) in
      record {
        text = h.text ++ f.text;
        along = λ after.
            h.along after
            ∙ ap (λ (y : List ℕ). h.text ++ y) (f.along after)
            ∙ sym (append_assoc h.text f.text (future r.stream bs₂ ms₂ os₂ kept₂ (drop r.used rest ++ after)))
            ∙ ap (λ (y : List ℕ). (h.text ++ f.text) ++ future r.stream bs₂ ms₂ os₂ kept₂ (y ++ after)) (sym all);
      }

  pub passing_done : length rest ≡ 0 → Passes stream bs ms os kept piece s bs₁ ms₁ os₁ kept₁
  passing_done none =
      record {
        text = h.text;
        along = λ after.
            h.along after
            ∙ ap (λ (y : List ℕ). h.text ++ future s bs₁ ms₁ os₁ kept₁ (y ++ after)) (nil_from_length rest none);
      }
