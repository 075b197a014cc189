-- One lemma for each way out of the functions of this crate. Assumes nothing.
use Rattle.std.specs.Prelude.{Option, Some, None}
use Prim.Native.Nat.{ℕ, ◌≤◌, min}
use native.Mathlib.Omega.{arith}
use mathlib.Core.Path.{◌≡◌, refl, sym, ap, ap₂, subst, ◌∙◌}
use mathlib.Core.Bool.{Bool, true, false}
use mathlib.Core.List.{List, ◌++◌, append_assoc}
use lib.ListN.{length, take, drop, length-append, replicate}
use lib.Seq.{length-take-le, take_at, take_all}
use lib.Dec.{eqb}
use Rattle.rules.specs.declared.Answer.{Answer}
use Rattle.rules.specs.declared.Call.{Call}
use Rattle.rules.specs.declared.Call.TheVariants.{Set, Receive, Read, Write, Transmit, Flush, Cancel, Foreground, ReadVerdict, WriteVerdict, SettingsVerdict}
use Rattle.rules.specs.declared.Outcome.TheVariants.{Refused}
use Rattle.rules.specs.declared.Refusal.TheVariants.{OutOfRange}
use Rattle.rules.specs.Sizes.{Sizes, State}
use Rattle.rules.specs.Refusals.{Reply, handed}
use Rattle.rules.specs.Output as rule
use Rattle.rules.specs.Reads as reads
use Rattle.rules.specs.Step.{step}
use Rattle.rules.specs.Trace.{decode, answered, asks, well_formed, malformed}
use Rattle.rules.specs.Trace as trace
use Rattle.rules.proofs.OutputLaws.{append_nil}
use Rattle.rules.proofs.Handed.{HandsNone, none_handed}
use Rattle.port.specs.State.{sizes, get}
use Rattle.port.specs.declared.Port.{Port}
use Rattle.port.specs.declared.Answered.{Answered}
use Rattle.records.specs.lines.Lines.{line_of}
use Rattle.records.specs.lines.Puts.{Prints}
use Rattle.records.specs.Records.{Decodes, lent_of, meant, told}
use Rattle.records.specs.declared.Asked as records
use Rattle.discipline.specs.Contract.{Held, Exact, Stepped, held}
use Rattle.discipline.proofs.Promises.{one_exact}
use Rattle.records.proofs.lines.Front.{prints_unique}
use Rattle.trace.specs.Contract.{answered_of, given_of, lent_from, Exactly, Carries, Records}
use Rattle.trace.specs.declared.Recorded.{Recorded}
use Rattle.trace.specs.declared.Carried.{Carried}
use Rattle.rules.specs.Asked.{Asked}
use Rattle.rules.proofs.Asked.{asked_of}
use Rattle.trace.specs.Numbers.{most_lent}

---- What a call hands out, and counts

module _ (z : Sizes) (s : State) (l : List ℕ) where
  -- of one reply
  abbrev Counted : Call → Reply → Type 0
  Counted call r = length (handed r) ≡ given_of call r.answer.count

  ruled_counted : (nonblocking a b c : Bool) (n : ℕ) → Counted (Read nonblocking) (reads.ruled_on a b c s n).1
  ruled_counted nonblocking true true c n = refl
  ruled_counted nonblocking true false c n = refl
  ruled_counted nonblocking false b true n = refl
  ruled_counted nonblocking false b false n = refl

  read_counted : (a b c nonblocking : Bool) (n : ℕ) → Counted (Read nonblocking) (reads.read_on a b c s nonblocking n).1
  read_counted true b c nonblocking n = refl
  read_counted false true c nonblocking n = refl
  read_counted false false true nonblocking n = refl
  read_counted false false false nonblocking n =
      ruled_counted nonblocking nonblocking (reads.is_empty s.input.finished) (reads.done_on s.settings.icanon s n) n

  handed_none : (call : Call) → HandsNone call → length (handed (step z s call l).1) ≡ 0
  handed_none call k = ap length (none_handed s z call l k)

  pub handed_count : (call : Call) → Counted call (step z s call l).1
  handed_count (Set x) = handed_none (Set x) tt
  handed_count (Receive e) = handed_none (Receive e) tt
  handed_count (Read nonblocking) =
      read_counted s.hung_up (reads.clashes s.waiting nonblocking (length l)) (eqb (length l) 0) nonblocking (length l)
  handed_count Write = handed_none Write tt
  handed_count Transmit = ap length (append_nil (rule.oldest s.output (length l)))
  handed_count (Flush choice) = handed_none (Flush choice) tt
  handed_count Cancel = handed_none Cancel tt
  handed_count (Foreground group orphaned) = handed_none (Foreground group orphaned) tt
  handed_count (ReadVerdict p) = handed_none (ReadVerdict p) tt
  handed_count (WriteVerdict p) = handed_none (WriteVerdict p) tt
  handed_count (SettingsVerdict p) = handed_none (SettingsVerdict p) tt

---- The call of a record is made with what the rules lend

-- a buffer of n bytes whose first are the body's: for a write it is the body, and no other call looks at what the buffer holds
loaded_step : (z : Sizes) (s : State) (call : Call) (n : ℕ) (body l m : List ℕ) → n ≡ length (lent_of call n body) → n ≤ length l → length m ≡ length l
    → m ≡ take (min n (min (length body) (length l))) body ++ drop (min n (min (length body) (length l))) l
    → step z s call (take n m) ≡ step z s call (lent_of call n body)
loaded_step z s (Set x) n body l m en le em e = refl
loaded_step z s (Receive x) n body l m en le em e = refl
loaded_step z s (Read nonblocking) n body l m en le em e = ap (reads.read s nonblocking) (length-take-le n m (omega arith) ∙ en)
loaded_step z s Write n body l m en le em e =
    let k : min n (min (length body) (length l)) ≡ n = omega arith in
    let same : take n m ≡ body =
    ap (take n) (e ∙ ap (λ (j : ℕ). take j body ++ drop j l) k)
    ∙ take_at (take n body) (drop n l) n (length-take-le n body (omega arith))
    ∙ take_all n body (omega arith) in
    ap (step z s Write) same
loaded_step z s Transmit n body l m en le em e = ap (rule.transmit s) (length-take-le n m (omega arith) ∙ en)
loaded_step z s (Flush choice) n body l m en le em e = refl
loaded_step z s Cancel n body l m en le em e = refl
loaded_step z s (Foreground group orphaned) n body l m en le em e = refl
loaded_step z s (ReadVerdict p) n body l m en le em e = refl
loaded_step z s (WriteVerdict p) n body l m en le em e = refl
loaded_step z s (SettingsVerdict p) n body l m en le em e = refl

-- how many bytes an answer of the decoder lends
abbrev lent_by : Option records.Asked → ℕ
lent_by (Some a) = a.lent
lent_by None = 0

---- carry

module _ {kind : ℕ} {body : List ℕ} {d : Option records.Asked} (h : Decodes kind body d) where
  pub malformed_carried : {p : Port} {bs ms os l : List ℕ} → d ≡ None
      → Carries p bs ms os kind body l (record { port = p; answer = record { outcome = Refused OutOfRange; count = 0 }; given = 0 }) bs ms os l
  malformed_carried {p} {bs} {ms} {os} {l} e =
      let w : malformed ≡ decode kind body = sym (ap (λ (y : Option records.Asked). meant y body) e) ∙ h.means in
      let r : answered (sizes p bs ms os) (get p bs ms os) malformed ≡ answered_of p bs ms os kind body =
      ap (answered (sizes p bs ms os) (get p bs ms os)) w in
      record {
        answer = ap (λ (y : State × Reply). y.1.answer) r;
        given = ap (λ (y : State × Reply). handed y.1) r;
        upto = omega arith;
        now = record { state = ap (λ (y : State × Reply). y.0) r; sizes = refl };
        exact =
            subst (λ (y : trace.Decoded). Exactly y p bs ms os l body (answered_of p bs ms os kind body).1.answer p bs ms os) w (refl, refl, refl, refl);
      }

  module _ {call : Call} {n : ℕ} (e : d ≡ Some (record { call = call; lent = n })) where
    asked : asks call (lent_of call n body) ≡ decode kind body
    asked = sym (ap (λ (y : Option records.Asked). meant y body) e) ∙ h.means

    as_long : n ≡ length (lent_of call n body)
    as_long = ap lent_by (sym e ∙ h.tells ∙ ap told (sym asked))

    pub at_most : n ≤ most_lent
    at_most =
        let bounds : Asked kind body (asks call (lent_of call n body)) = subst (Asked kind body) (sym asked) (asked_of kind body) in
        omega (arith, as_long, bounds.few)

    -- the call as the record asks for it
    made : (p : Port) (bs ms os l m l' bs' ms' os' : List ℕ) (r : Answered) (a : Answer)
        → m ≡ take (min n (min (length body) (length l))) body ++ drop (min n (min (length body) (length l))) l
        → r.answer ≡ a → Exact p (held bs ms os (take n m)) call r (held bs' ms' os' l')
        → Exactly (decode kind body) p bs ms os l body a r.port bs' ms' os'
    made p bs ms os l m l' bs' ms' os' r a lm ea x =
        let lent : take n m ≡ lent_from l (length (lent_of call n body)) body = ap (take n) lm ∙ ap (λ (k : ℕ). lent_from l k body) as_long in
        subst (λ (y : trace.Decoded). Exactly y p bs ms os l body a r.port bs' ms' os') asked
        (record {
          after = l';
          exact =
              subst (λ (y : List ℕ). Exact p (held bs ms os y) call (record { port = r.port; answer = a }) (held bs' ms' os' l')) lent
              (subst (λ (y : Answer). Exact p (held bs ms os (take n m)) call (record { port = r.port; answer = y }) (held bs' ms' os' l')) ea x);
        })

    pub carried : {p : Port} {bs ms os l m l' bs' ms' os' : List ℕ} {r : Answered} {g : ℕ} → most_lent ≤ length l → length m ≡ length l
        → m ≡ take (min n (min (length body) (length l))) body ++ drop (min n (min (length body) (length l))) l
        → Stepped p (held bs ms os (take n m)) call r (held bs' ms' os' l') → g ≡ given_of call r.answer.count
        → Carries p bs ms os kind body l (record { port = r.port; answer = r.answer; given = g }) bs' ms' os' (l' ++ drop n m)
    carried {p} {bs} {ms} {os} {l} {m} {l'} {bs'} {ms'} {os'} {r} {g} big em lm s eg =
        let z : Sizes = sizes p bs ms os in
        let v : State = get p bs ms os in
        let reply : Reply = (step z v call (take n m)).1 in
        let same : step z v call (take n m) ≡ answered_of p bs ms os kind body =
        loaded_step z v call n body l m as_long (omega (arith, at_most)) em lm ∙ ap (answered z v) asked in
        let long : length (handed reply) ≡ g =
        handed_count z v (take n m) call ∙ ap (λ (a : Answer). given_of call a.count) (sym s.answer) ∙ sym eg in
        let whole : l' ++ drop n m ≡ handed reply ++ (drop (length (handed reply)) (take n m) ++ drop n m) =
        ap (λ (y : List ℕ). y ++ drop n m) s.buffer ∙ append_assoc (handed reply) (drop (length (handed reply)) (take n m)) (drop n m) in
        record {
          answer = s.answer ∙ ap (λ (y : State × Reply). y.1.answer) same;
          given =
              ap (take g) whole
              ∙ take_at (handed reply) (drop (length (handed reply)) (take n m) ++ drop n m) g long
              ∙ ap (λ (y : State × Reply). handed y.1) same;
          upto =
              omega (arith, long, ap length whole, length-append (handed reply) (drop (length (handed reply)) (take n m) ++ drop n m));
          now = record { state = s.now.state ∙ ap (λ (y : State × Reply). y.0) same; sizes = s.now.sizes };
          exact =
              made p bs ms os l m l' bs' ms' os' r (answered_of p bs ms os kind body).1.answer lm
              (s.answer ∙ ap (λ (y : State × Reply). y.1.answer) same) s.exact;
        }

---- record

pub recorded : {p : Port} {bs ms os : List ℕ} {index kind : ℕ} {body l l' : List ℕ} {c : Carried} {k : ℕ} {bs' ms' os' lent' : List ℕ}
    → Carries p bs ms os kind body (replicate most_lent 0) c bs' ms' os' lent' → Prints l (line_of index kind c.answer (take c.given lent')) k l'
    → Records p bs ms os index kind body l (record { port = c.port; length = k }) bs' ms' os' l'
recorded {index} {kind} {l} {l'} {k} h t =
    record {
      line =
          subst (λ (y : List ℕ). Prints l y k l')
          (ap₂ (λ (a : Answer) (g : List ℕ). line_of index kind a g) h.answer h.given) t;
      now = h.now;
      exact = h.exact;
    }

---- No second port, slice or line

one_exactly : (x : trace.Decoded) (p : Port) (bs ms os l body : List ℕ) (a : Answer) (q r : Port) (bs' ms' os' cs ns qs : List ℕ)
    → Exactly x p bs ms os l body a q bs' ms' os' → Exactly x p bs ms os l body a r cs ns qs → (q ≡ r) × (bs' ≡ cs) × (ms' ≡ ns) × (os' ≡ qs)
one_exactly (well_formed y) p bs ms os l body a q r bs' ms' os' cs ns qs h k =
    let s =
    one_exact p (held bs ms os (lent_from l (length y.lent) body)) y.call (record { port = q; answer = a }) (record { port = r; answer = a })
    (held bs' ms' os' h.after) (held cs ns qs k.after) h.exact k.exact in (
      ap (λ (z : Answered). z.port) s.0,
      ap (λ (z : Held). z.bytes) s.1,
      ap (λ (z : Held). z.marks) s.1,
      ap (λ (z : Held). z.out) s.1,
    )
one_exactly malformed p bs ms os l body a q r bs' ms' os' cs ns qs h k =
    (h.0 ∙ sym k.0, h.1 ∙ sym k.1, h.2 ∙ sym k.2, h.3 ∙ sym k.3)

pub one_record : (p : Port) (bs ms os : List ℕ) (index kind : ℕ) (body l : List ℕ) (r q : Recorded) (bs' ms' os' l' cs ns qs k : List ℕ)
    → Records p bs ms os index kind body l r bs' ms' os' l' → Records p bs ms os index kind body l q cs ns qs k
    → (r ≡ q) × (bs' ≡ cs) × (ms' ≡ ns) × (os' ≡ qs) × (l' ≡ k)
one_record p bs ms os index kind body l r q bs' ms' os' l' cs ns qs k h j =
    let s =
    one_exactly (decode kind body) p bs ms os (replicate most_lent 0) body (answered_of p bs ms os kind body).1.answer r.port q.port bs' ms' os' cs ns qs
    h.exact j.exact in
    let t = prints_unique r.length q.length l' k h.line j.line in
    (ap₂ (λ (y : Port) (n : ℕ). record { port = y; length = n }) s.0 t.0, s.1, s.2, s.3, t.1)
