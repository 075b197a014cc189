-- One lemma for each way out of the functions of a read. Assumes nothing.
use mathlib.Core.Path.{◌≡◌, refl, sym, ap, subst, ◌∙◌}
use mathlib.Core.Bool.{Bool, true, false, cond, ◌||◌}
use mathlib.Core.List.{List, [], ◌∷◌}
use Prim.Native.Nat.{ℕ, ◌+◌, ◌-◌, ◌%◌}
use native.Mathlib.Omega.{arith}
use lib.ListN.{length, take}
use Rattle.rules.specs.declared.Outcome.{Outcome}
use Rattle.rules.specs.declared.Outcome.TheVariants.{Ok, Wait, Refused}
use Rattle.rules.specs.declared.Waiting.{Waiting}
use Rattle.rules.specs.declared.Waiting.TheVariants.{Idle}
use Rattle.rules.specs.Sizes.{State, used, with_waiting, Place, Input as RuledInput}
use Rattle.rules.specs.Refusals.{Reply, says}
use Rattle.rules.specs.Reads as rule
use Rattle.input.specs.Contract as input
use Rattle.input.specs.declared.Input.{Input}
use Rattle.input.specs.reading.Contract as reading
use Rattle.queue.specs.declared.Counted.{Counted}
use Rattle.port.specs.State.{get, capacity, place_bytes, place_marks}
use Rattle.port.specs.Sending.{refused}
use Rattle.port.specs.declared.Port.{Port}
use Rattle.port.specs.declared.Answered.{Answered}
use Rattle.port.specs.Layers.{assembled}
use Rattle.port.proofs.Layers.{input_stays}
use Rattle.discipline.specs.reads.Contract.{state_of, took, ReadsFrom, finds, Reads}
use lib.Dec.{eqb, ltb}
use borrow.Author.Tests.{eq-eqb, ne_eqb}
use Rattle.rules.specs.declared.Refusal.TheVariants.{Nothing, ReadWaits}
use Rattle.input.proofs.Laws.{finished_length}
use Rattle.output.specs.Contract as output
use Rattle.port.proofs.Calls.{fitted_reads}
use Rattle.waiting.proofs.Laws.{some}

-- the answer by another name
as_read : {v w : State × Reply} (p : Port) (i : Input) (bs ms d : List ℕ) (r : Answered) (d' : List ℕ) → v ≡ w → ReadsFrom p i bs ms d v r d'
    → ReadsFrom p i bs ms d w r d'
as_read p i bs ms d r d' e t = subst (λ (y : State × Reply). ReadsFrom p i bs ms d y r d') e t

---- One lemma for each way out

module _ (p : Port) (i : Input) (bs ms d : List ℕ) (h : input.Sound i bs ms) where
  abbrev s : State
  s = state_of p i bs ms

  -- no place is gone
  pub same_place : i ≡ input.put (input.get i bs ms) ((i.queue.head + reading.gone (input.get i bs ms) (input.get i bs ms)) % length bs)
  same_place =
      let b = input_stays i bs ms h.same h.within in
      let k : i.queue.head ≡ i.queue.head + (used (input.get i bs ms) - used (input.get i bs ms)) = omega arith in
      b.input ∙ ap (λ (y : ℕ). input.put (input.get i bs ms) (y % length bs)) k

  -- nothing is taken; the waiting read is w
  none_taken : (w : Waiting) (o : Outcome) (q : Port) (r : Answered) → refused (record { outcome = o; count = 0 }) ≡ false
      → q ≡ assembled p i p.output w
      → r ≡ record { port = q; answer = record { outcome = o; count = 0 } } → ReadsFrom p i bs ms d (with_waiting s w, says o 0) r d
  none_taken w o q r kept eq er =
      record {
        answer = ap (λ (y : Answered). y.answer) er;
        buffer = refl;
        port =
            ap (λ (y : Answered). y.port) er
            ∙ eq
            ∙ ap (λ (y : Input). assembled p y p.output w) same_place
            ∙ ap (λ (y : Bool). cond y p (took p i bs ms (with_waiting s w))) (sym kept);
      }

  refused_of : (o : Outcome) (r : Answered) → refused (record { outcome = o; count = 0 }) ≡ true
      → r ≡ record { port = p; answer = record { outcome = o; count = 0 } }
      → ReadsFrom p i bs ms d (s, says o 0) r d
  refused_of o r kept er =
      record {
        answer = ap (λ (y : Answered). y.answer) er;
        buffer = refl;
        port = ap (λ (y : Answered). y.port) er ∙ ap (λ (y : Bool). cond y p (took p i bs ms s)) (sym kept);
      }

  -- a part is given
  given : (t : rule.Part) (k : Counted Input) (q : Port) (r : Answered) (d' : List ℕ) → reading.ReadsPart i bs ms d t k d'
      → q ≡ assembled p k.rest p.output Idle
      → r ≡ record { port = q; answer = record { outcome = Ok; count = k.count } } → ReadsFrom p i bs ms d (rule.finish s t) r d'
  given t k q r d' b eq er =
      record {
        answer = ap (λ (y : Answered). y.answer) er ∙ ap (λ (n : ℕ). record { outcome = Ok; count = n }) b.count;
        buffer = b.buffer;
        port = ap (λ (y : Answered). y.port) er ∙ eq ∙ ap (λ (y : Input). assembled p y p.output Idle) b.input;
      }

  pub line_given : (k : Counted Input) (q : Port) (r : Answered) (d' : List ℕ) → p.settings.icanon ≡ true → reading.ReadsLine i bs ms d k d'
      → q ≡ assembled p k.rest p.output Idle → r ≡ record { port = q; answer = record { outcome = Ok; count = k.count } }
      → ReadsFrom p i bs ms d (rule.finish s (rule.part_of p.settings.icanon (length d) (input.get i bs ms).finished)) r d'
  line_given k q r d' c b eq er =
      as_read p i bs ms d r d' (ap (λ (y : Bool). rule.finish s (rule.part_of y (length d) (input.get i bs ms).finished)) (sym c))
      (given (rule.first_line (length d) (input.get i bs ms).finished) k q r d' b eq er)

  pub bytes_given : (k : Counted Input) (q : Port) (r : Answered) (d' : List ℕ) → p.settings.icanon ≡ false → reading.ReadsBytes i bs d k d'
      → q ≡ assembled p k.rest p.output Idle → r ≡ record { port = q; answer = record { outcome = Ok; count = k.count } }
      → ReadsFrom p i bs ms d (rule.finish s (rule.part_of p.settings.icanon (length d) (input.get i bs ms).finished)) r d'
  bytes_given k q r d' c b eq er =
      as_read p i bs ms d r d' (ap (λ (y : Bool). rule.finish s (rule.part_of y (length d) (input.get i bs ms).finished)) (sym c))
      (given (rule.first_bytes (length d) (input.get i bs ms).finished) k q r d' (b ms h.same) eq er)

  ---- ruled

  ready : length (input.get i bs ms).finished ≡ i.ready
  ready = finished_length i bs ms h.same h.within

  empty_by : (l : List Place) → eqb (length l) 0 ≡ rule.is_empty l
  empty_by [] = refl
  empty_by (q ∷ l) = ne_eqb (length (q ∷ l)) 0 (λ e. omega arith)

  is_empty_lem : eqb i.ready 0 ≡ rule.is_empty (input.get i bs ms).finished
  is_empty_lem = ap (λ (n : ℕ). eqb n 0) (sym ready) ∙ empty_by (input.get i bs ms).finished

  -- the read is done, in the rules' words
  is_done : (n : ℕ) → finds p.settings i.ready p.waiting n ≡ rule.done_on p.settings.icanon s n
  is_done n = ap (λ (k : ℕ). finds p.settings k p.waiting n) (sym ready) ∙ by p.settings.icanon
    where
      l : List Place
      l = (input.get i bs ms).finished

      by : (c : Bool) → cond c (ltb 0 (length l)) (rule.enough p.settings n (length l) || rule.expired p.waiting) ≡ rule.done_on c s n
      by true = sym (some l (length l) refl)
      by false = refl

  -- by the tests
  ruled_as : (n : ℕ) (nb nonblocking empty done : Bool) → nonblocking ≡ nb → rule.is_empty (input.get i bs ms).finished ≡ empty
      → rule.done_on p.settings.icanon s n ≡ done → rule.ruled_on nb empty done s n ≡ rule.ruled s nonblocking n
  ruled_as n nb nonblocking empty done e₁ e₂ e₃ =
      sym
      (ap (λ (y : Bool). rule.ruled_on y (rule.is_empty (input.get i bs ms).finished) (rule.done_on p.settings.icanon s n) s n) e₁
      ∙ ap (λ (y : Bool). rule.ruled_on nb y (rule.done_on p.settings.icanon s n) s n) e₂
      ∙ ap (λ (y : Bool). rule.ruled_on nb empty y s n) e₃)

  abbrev part : rule.Part
  part = rule.part_of p.settings.icanon (length d) (input.get i bs ms).finished

  pub nothing_there : (nonblocking : Bool) (r : Answered) → nonblocking ≡ true → i.ready ≡ 0
      → r ≡ record { port = p; answer = record { outcome = Refused Nothing; count = 0 } } → ReadsFrom p i bs ms d (rule.ruled s nonblocking (length d)) r d
  nothing_there nonblocking r e z er =
      as_read p i bs ms d r d
      (ruled_as (length d) true nonblocking true (rule.done_on p.settings.icanon s (length d)) e (sym is_empty_lem ∙ eq-eqb i.ready 0 z) refl)
      (refused_of (Refused Nothing) r refl er)

  pub at_once : (nonblocking : Bool) (r : Answered) (d' : List ℕ) → nonblocking ≡ true → (i.ready ≡ 0 → ⊥) → ReadsFrom p i bs ms d (rule.finish s part) r d'
      → ReadsFrom p i bs ms d (rule.ruled s nonblocking (length d)) r d'
  at_once nonblocking r d' e some t =
      as_read p i bs ms d r d'
      (ruled_as (length d) true nonblocking false (rule.done_on p.settings.icanon s (length d)) e (sym is_empty_lem ∙ ne_eqb i.ready 0 some) refl) t

  pub done_now : (nonblocking t : Bool) (r : Answered) (d' : List ℕ) → nonblocking ≡ false → t ≡ finds p.settings i.ready p.waiting (length d)
      → t ≡ true
      → ReadsFrom p i bs ms d (rule.finish s part) r d' → ReadsFrom p i bs ms d (rule.ruled s nonblocking (length d)) r d'
  done_now nonblocking t r d' e et yes' k =
      as_read p i bs ms d r d'
      (ruled_as (length d) false nonblocking (rule.is_empty (input.get i bs ms).finished) true e refl (sym (is_done (length d)) ∙ sym et ∙ yes')) k

  pub waits_on_lem : (nonblocking t : Bool) (b w : Waiting) (q : Port) (r : Answered) → nonblocking ≡ false
      → t ≡ finds p.settings i.ready p.waiting (length d)
      → t ≡ false → ((ps : List Place) → length ps ≡ i.ready → b ≡ rule.begins p.settings ps (length d)) → w ≡ rule.waits_on b p.waiting
      → q ≡ assembled p i p.output w → r ≡ record { port = q; answer = record { outcome = Wait; count = 0 } }
      → ReadsFrom p i bs ms d (rule.ruled s nonblocking (length d)) r d
  waits_on_lem nonblocking t b w q r e et no' eb ew eq er =
      as_read p i bs ms d r d
      (ap (λ (y : Waiting). (with_waiting s y, says Wait 0)) (ew ∙ ap (λ (y : Waiting). rule.waits_on y p.waiting) (eb (input.get i bs ms).finished ready))
      ∙ ruled_as (length d) false nonblocking (rule.is_empty (input.get i bs ms).finished) false e refl (sym (is_done (length d)) ∙ sym et ∙ no'))
      (none_taken w Wait q r refl eq er)

  ---- ordered

  read_as : (nonblocking hung clash none : Bool) → p.hung ≡ hung → rule.clashes p.waiting nonblocking (length d) ≡ clash → eqb (length d) 0 ≡ none
      → rule.read_on hung clash none s nonblocking (length d) ≡ rule.read s nonblocking (length d)
  read_as nonblocking hung clash none e₁ e₂ e₃ =
      sym
      (ap (λ (y : Bool). rule.read_on y (rule.clashes p.waiting nonblocking (length d)) (eqb (length d) 0) s nonblocking (length d)) e₁
      ∙ ap (λ (y : Bool). rule.read_on hung y (eqb (length d) 0) s nonblocking (length d)) e₂
      ∙ ap (λ (y : Bool). rule.read_on hung clash y s nonblocking (length d)) e₃)

  module _ (nonblocking : Bool) (r : Answered) where
    pub hung_read : (q : Port) → p.hung ≡ true → q ≡ assembled p i p.output Idle → r ≡ record { port = q; answer = record { outcome = Ok; count = 0 } }
        → ReadsFrom p i bs ms d (rule.read s nonblocking (length d)) r d
    hung_read q e eq er =
        as_read p i bs ms d r d
        (read_as nonblocking true (rule.clashes p.waiting nonblocking (length d)) (eqb (length d) 0) e refl refl)
        (none_taken Idle Ok q r refl eq er)

    pub clash_read : (t : Bool) → p.hung ≡ false → t ≡ rule.clashes p.waiting nonblocking (length d) → t ≡ true
        → r ≡ record { port = p; answer = record { outcome = Refused ReadWaits; count = 0 } } → ReadsFrom p i bs ms d (rule.read s nonblocking (length d)) r d
    clash_read t e et taken er =
        as_read p i bs ms d r d (read_as nonblocking false true (eqb (length d) 0) e (sym et ∙ taken) refl)
        (refused_of (Refused ReadWaits) r refl er)

    pub none_read : (t : Bool) (q : Port) → p.hung ≡ false → t ≡ rule.clashes p.waiting nonblocking (length d) → t ≡ false → length d ≡ 0
        → q ≡ assembled p i p.output p.waiting → r ≡ record { port = q; answer = record { outcome = Ok; count = 0 } }
        → ReadsFrom p i bs ms d (rule.read s nonblocking (length d)) r d
    none_read t q e et left z eq er =
        as_read p i bs ms d r d (read_as nonblocking false false true e (sym et ∙ left) (eq-eqb (length d) 0 z))
        (none_taken p.waiting Ok q r refl eq er)

    pub ruled_read : (t : Bool) (d' : List ℕ) → p.hung ≡ false → t ≡ rule.clashes p.waiting nonblocking (length d) → t ≡ false → (length d ≡ 0 → ⊥)
        → ReadsFrom p i bs ms d (rule.ruled s nonblocking (length d)) r d' → ReadsFrom p i bs ms d (rule.read s nonblocking (length d)) r d'
    ruled_read t d' e et left some k =
        as_read p i bs ms d r d' (read_as nonblocking false false false e (sym et ∙ left) (ne_eqb (length d) 0 some)) k

---- The call

module _ (p : Port) (bs ms : List ℕ) where
  -- the state of the layers below is what get reads
  pub there : state_of p (input.fitted (capacity bs ms) p.input) (place_bytes bs ms) (place_marks bs ms) ≡ get p bs ms []
  unfolding get
  there =
      ap (λ (y : RuledInput). record {
        settings = p.settings;
        input = y;
        output = output.get p.output [];
        foreground = p.foreground;
        hung_up =
            p.hung;
        waiting = p.waiting;
      })
      (fitted_reads bs ms p)

  pub read_of : (f : Input) (n : ℕ) (d d' : List ℕ) (nonblocking : Bool) (r : Answered) → n ≡ capacity bs ms → f ≡ input.fitted n p.input
      → ReadsFrom p f (take n bs) (take n ms) d (rule.read (state_of p f (take n bs) (take n ms)) nonblocking (length d)) r d'
      → Reads p bs ms d nonblocking r d'
  read_of f n d d' nonblocking r en ef t =
      as_read p (input.fitted (capacity bs ms) p.input) (place_bytes bs ms) (place_marks bs ms) d r d'
      (ap (λ (y : State). rule.read y nonblocking (length d)) there)
      (subst (λ (k : ℕ). ReadsFrom p (input.fitted k p.input) (take k bs) (take k ms) d
      (rule.read (state_of p (input.fitted k p.input) (take k bs) (take k ms)) nonblocking (length d)) r d') en
      (subst (λ (y : Input). ReadsFrom p y (take n bs) (take n ms) d (rule.read (state_of p y (take n bs) (take n ms)) nonblocking (length d)) r d') ef t))
