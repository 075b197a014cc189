-- One lemma for each way out of the functions. Assumes nothing.
use Prim.Native.Nat.{ℕ, suc, ◌+◌, ◌-◌, min}
use native.Mathlib.Numerals.{add-one}
use native.Mathlib.Omega.{arith}
use mathlib.Core.Path.{◌≡◌, sym, ap, ap₂, subst, ◌∙◌}
use mathlib.Core.Bool.{false}
use mathlib.Core.List.{List, [], ◌++◌}
use mathlib.Core.Logic.{inr}
use lib.ListN.{length, take, drop, get_or, length-append}
use Rattle.rules.specs.Sizes.{Sizes, State}
use Rattle.rules.specs.Refusals.{Reply, handed}
use Rattle.rules.specs.Trace.{two, text, decimal, hex_or_dash, outcome_word, line, trace_from}
use Rattle.port.specs.State.{sizes, get}
use Rattle.trace.specs.Contract.{answered_of, Records}
use Rattle.trace.specs.declared.Recorded.{Recorded}
use Rattle.trace.specs.gathering.Contract.{size_of, kind_of, end_of, body_of, come}
use Rattle.trace.specs.stream.Contract.{Completed, Feeds}
use Rattle.trace.specs.declared.stream.Stream.{Stream}
use Rattle.trace.proofs.stream.Laws.{more}
use Rattle.trace.proofs.stream.Lengths.{line_at_most}
use Rattle.trace.proofs.gathering.Keeping.{pending_none, whole_record}
use Rattle.trace.specs.Numbers.{header, most_body, most_records}

-- a line has bytes: it ends with a newline
line_some : (i k : ℕ) (r : Reply) → line i k r ≡ [] → ⊥
line_some i k r f =
    no_end (decimal i ++ text " " ++ decimal k ++ text " " ++ outcome_word r.answer.outcome ++ text " " ++ decimal r.answer.count ++ text " "
    ++ hex_or_dash (handed r)) f
  where
    no_end : (t : List ℕ) → t ++ text "\n" ≡ [] → ⊥
    no_end t e = omega (arith, ap length e, length-append t (text "\n"))

module _ {stream : Stream} {bs ms os kept piece l : List ℕ} {used : ℕ} {kept' l₁ : List ℕ} where
  pub feeds_record : {kind to : ℕ} {r : Recorded} {bs' ms' os' l' : List ℕ} → Completed stream kept piece l used kept' l₁
      → kind ≡ kind_of kept' → to ≡ end_of kept'
      → Records stream.port bs ms os stream.index kind (take (to - header) (drop header kept')) l₁ r bs' ms' os' l'
      → Feeds stream bs ms os kept piece l (record {
        stream = record { port = r.port; index = stream.index + 1; have = 0; done = false };
        used = used;
        length = r.length;
      }) bs' ms' os' kept' l'
  feeds_record {kind} {to} {r} {bs'} {ms'} {os'} {l'} w ek et hr₁ =
      let v : State × Reply = answered_of stream.port bs ms os (kind_of kept') (body_of kept') in
      let hr = record_as w.line ek (omega (arith, et)) hr₁ in
      record {
        text = line stream.index (kind_of kept') v.1;
        printed = hr.line;
        short = line_at_most (sizes stream.port bs ms os) (get stream.port bs ms os) stream.index (kind_of kept') (body_of kept');
        used = w.upto;
        further = w.further;
        silent = λ f. absurd (line_some stream.index (kind_of kept') v.1 f);
        along = λ rest.
            w.along bs ms os rest
            ∙ ap (λ (j : ℕ). trace_from (sizes stream.port bs ms os) j stream.index (get stream.port bs ms os)
            (come kept' (size_of kept') ++ (drop used piece ++ rest))) (more stream bs ms os kept w.below)
            ∙ whole_record (sizes stream.port bs ms os) (most_records - (stream.index + 1)) stream.index (get stream.port bs ms os)
            (drop used piece ++ rest) kept' w.long
            ∙ ap₂ (λ (y : Sizes) (x : State). line stream.index (kind_of kept') v.1
            ++ trace_from y (most_records - (stream.index + 1)) (suc stream.index) x (drop used piece ++ rest))
            (sym hr.now.sizes) (sym hr.now.state)
            ∙ ap₂ (λ (j : ℕ) (y : List ℕ). line stream.index (kind_of kept') v.1
            ++ trace_from (sizes r.port bs' ms' os') (most_records - (stream.index + 1)) j (get r.port bs' ms' os') (y ++ (drop used piece ++ rest)))
            (sym (add-one stream.index)) (sym (pending_none kept'));
        exact = inr hr;
      }
    where
      record_as : l₁ ≡ l → kind ≡ kind_of kept' → to - header ≡ min (two (get_or kept' 0 0) (get_or kept' 1 0)) most_body
          → Records stream.port bs ms os stream.index kind (take (to - header) (drop header kept')) l₁ r bs' ms' os' l'
          → Records stream.port bs ms os stream.index (kind_of kept') (body_of kept') l r bs' ms' os' l'
      record_as el e en x =
          subst (λ (y : List ℕ). Records stream.port bs ms os stream.index (kind_of kept') (body_of kept') y r bs' ms' os' l') el
          (subst (λ (k : ℕ). Records stream.port bs ms os stream.index k (body_of kept') l₁ r bs' ms' os' l') e
          (subst (λ (n : ℕ). Records stream.port bs ms os stream.index kind (take n (drop header kept')) l₁ r bs' ms' os' l') en x))
