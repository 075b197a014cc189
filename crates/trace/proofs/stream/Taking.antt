-- One lemma for each way out of `take_in`. Assumes nothing.
use Prim.Native.Nat.{ℕ, ◌+◌, ◌-◌, ◌≤◌, ◌<◌}
use native.Mathlib.Omega.{arith}
use mathlib.Core.Path.{◌≡◌, refl, sym, ap, ◌∙◌}
use mathlib.Core.Bool.{Bool, true, false, cond}
use mathlib.Core.List.{List, [], ◌++◌, append-nil}
use mathlib.Core.Logic.{⊎_elim, ◌⊎◌}
use lib.ListN.{length, drop, length-append}
use borrow.Author.Tests.{ltb-false}
use Rattle.rules.specs.Trace.{full_line, trace_from}
use Rattle.port.specs.State.{sizes, get}
use Rattle.records.specs.lines.Puts.{Prints}
use Rattle.trace.specs.gathering.Contract.{size_of, is_open, come, pending, Gathers}
use Rattle.trace.proofs.gathering.Laws.{begun_pending}
use Rattle.trace.proofs.Rules.{trace_full}
use Rattle.trace.specs.stream.Contract.{future, TakesIn}
use Rattle.trace.specs.declared.stream.Stream.{Stream}
use Rattle.trace.specs.declared.stream.Taken.TheVariants.{Nothing, Full, Open, Complete}
use Rattle.trace.proofs.stream.Laws.{prints_none, going, over}
use Rattle.trace.proofs.stream.Lengths.{full_at_most}
use Rattle.trace.specs.Numbers.{most_records}

module _ {stream : Stream} {kept piece l : List ℕ} where
  -- all is done, or the piece is empty
  pub takes_nothing : (stream.done ≡ true) ⊎ (length piece ≡ 0) → TakesIn stream kept piece l Nothing kept l
  takes_nothing none =
      record {
        upto = omega arith;
        further = λ some. some;
        text = [];
        printed = prints_none l;
        short = omega arith;
        silent = λ f. refl;
        along = λ bs ms os rest. ⊎_elim (all_done bs ms os rest) (no_piece bs ms os rest) none;
      }
    where
      all_done : (bs ms os rest : List ℕ) → stream.done ≡ true
          → future stream bs ms os kept (piece ++ rest) ≡ future stream bs ms os kept (drop (length piece) piece ++ rest)
      all_done bs ms os rest d = over stream bs ms os kept (piece ++ rest) d ∙ sym (over stream bs ms os kept (drop (length piece) piece ++ rest) d)

      no_piece : (bs ms os rest : List ℕ) → length piece ≡ 0
          → future stream bs ms os kept (piece ++ rest) ≡ future stream bs ms os kept (drop (length piece) piece ++ rest)
      no_piece bs ms os rest n = sym (ap (λ (k : ℕ). future stream bs ms os kept (drop k piece ++ rest)) n)

  pub takes_full : {k : ℕ} {l' : List ℕ} → stream.done ≡ false → (length piece ≡ 0 → ⊥) → most_records ≤ stream.index
      → Prints l (full_line stream.index) k l' → TakesIn stream kept piece l (Full k) kept l'
  takes_full d some le h =
      record {
        upto = omega arith;
        further = λ lt. lt;
        text = full_line stream.index;
        printed = h;
        short = full_at_most stream.index;
        silent = λ f. refl;
        along = λ bs ms os rest.
            going stream bs ms os kept (piece ++ rest) d
            ∙ trace_full (sizes stream.port bs ms os) stream.index (get stream.port bs ms os) (most_records - stream.index)
            (pending kept stream.have ++ (piece ++ rest)) (omega arith)
            (λ f. some (omega (arith, f, length-append (pending kept stream.have) (piece ++ rest), length-append piece rest)))
            ∙ sym (append-nil (full_line stream.index));
      }

-- bytes of the piece are kept behind those of the record that has begun
gathered : (stream : Stream) (kept piece : List ℕ) (n u : ℕ) (kept' : List ℕ) → stream.done ≡ false → n ≡ cond (is_open kept stream.have) stream.have 0
    → Gathers kept n piece u kept' → (bs ms os rest : List ℕ) → future stream bs ms os kept (piece ++ rest)
    ≡ trace_from (sizes stream.port bs ms os) (most_records - stream.index) stream.index (get stream.port bs ms os)
    (come kept' (n + u) ++ (drop u piece ++ rest))
gathered stream kept piece n u kept' d en h bs ms os rest =
    going stream bs ms os kept (piece ++ rest) d
    ∙ ap (λ (y : List ℕ). trace_from (sizes stream.port bs ms os) (most_records - stream.index) stream.index (get stream.port bs ms os)
    (y ++ (piece ++ rest))) (begun_pending kept stream.have n en)
    ∙ h.same (sizes stream.port bs ms os) (most_records - stream.index) stream.index (get stream.port bs ms os) rest

module _ {stream : Stream} {kept piece l : List ℕ} {n u : ℕ} {kept' : List ℕ} (d : stream.done ≡ false) (lt : stream.index < most_records)
    (en : n ≡ cond (is_open kept stream.have) stream.have 0) (h : Gathers kept n piece u kept') where
  pub takes_open : is_open kept' (n + u) ≡ true → TakesIn stream kept piece l (Open u (n + u)) kept' l
  takes_open o =
      record {
        upto = h.used;
        further = h.further;
        text = [];
        printed = prints_none l;
        short = omega arith;
        silent = λ f. h.all o;
        along = λ bs ms os rest.
            gathered stream kept piece n u kept' d en h bs ms os rest
            ∙ ap (λ (y : List ℕ). trace_from (sizes stream.port bs ms os) (most_records - stream.index) stream.index (get stream.port bs ms os)
            (y ++ (drop u piece ++ rest)))
            (sym (ap (λ (t : Bool). cond t (come kept' (n + u)) []) o))
            ∙ sym (going (record stream { have = n + u }) bs ms os kept' (drop u piece ++ rest) d);
      }

  pub takes_complete : is_open kept' (n + u) ≡ false → TakesIn stream kept piece l (Complete u) kept' l
  takes_complete o =
      let size : n + u ≡ size_of kept' = omega (arith, h.upto, ltb-false (n + u) (size_of kept') o) in
      record {
        upto = h.used;
        further = h.further;
        below = lt;
        long = h.long;
        line = refl;
        along = λ bs ms os rest.
            gathered stream kept piece n u kept' d en h bs ms os rest
            ∙ ap (λ (k : ℕ). trace_from (sizes stream.port bs ms os) (most_records - stream.index) stream.index (get stream.port bs ms os)
            (come kept' k ++ (drop u piece ++ rest))) size;
      }
