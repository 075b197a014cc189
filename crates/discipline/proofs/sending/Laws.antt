-- One lemma for each way out of the calls on the output. Assumes nothing.
use mathlib.Core.Path.{◌≡◌, refl, sym, ap, ◌∙◌, ap₂}
use mathlib.Core.Bool.{Bool, true, false, ◌&&◌, false≢true, cond}
use mathlib.Core.List.{List, [], ◌++◌, ◌∷◌}
use Prim.Native.Nat.{ℕ, ◌%◌, ◌≤◌, ◌+◌, ◌-◌, min, suc}
use lib.ListN.{length, take, drop, length-take, length-drop}
use lib.Dec.{ltb, eqb}
use borrow.Author.Tests.{eqb-true}
use Rattle.queue.specs.Ring.{stores, ring}
use Rattle.queue.specs.declared.Counted.{Counted}
use Rattle.queue.proofs.Rings.{stores_length, ring_length, drop_ring}
use Rattle.queue.proofs.Laws.{laid_again, put_same}
use Rattle.rules.specs.declared.Outcome.TheVariants.{Ok, Refused}
use Rattle.rules.specs.declared.Refusal.TheVariants.{Nothing, HungUp}
use Rattle.rules.specs.Sizes.{State}
use Rattle.rules.specs.Output as rule
use Rattle.rules.proofs.OutputLaws.{append_nil}
use Rattle.output.specs.Contract as output
use Rattle.output.specs.declared.Output.{Output}
use Rattle.port.specs.State.{get, with_output}
use Rattle.port.specs.Sending.{keeps, after_write_by, after_write, result, after_transmit, Outcomes}
use Rattle.port.specs.declared.Port.{Port}
use Rattle.port.specs.declared.Answered.{Answered}
use native.Mathlib.Omega.{arith}
use Rattle.queue.specs.Queue.{held}
use lib.Seq.{take_all}
use Rattle.rules.specs.declared.Settings.{Settings}
use Rattle.discipline.specs.sending.Contract.{second, third, MovesThrough}

module _ (p : Port) (os src : List ℕ) where
  pub hung_of : (a : Answered) → a ≡ record { port = p; answer = record { outcome = Refused HungUp; count = 0 } } → p.hung ≡ true
      → result a os src ≡ after_write p os src
  unfolding after_write get
  hung_of a e h = ap (λ (y : Answered). result y os src) e ∙ rw h

  module _ (w : Counted Output) (m : List ℕ) (b : output.Writes p.settings p.output os src w m) (h : p.hung ≡ false) where
    -- the slice, where nothing is taken
    untouched : w.count ≡ 0 → m ≡ os
    unfolding output.get
    untouched z =
        let o : Output = p.output in
        let n : output.takes p.settings o os src ≡ 0 = sym b.count ∙ z in
        b.rest.slice
        ∙ ap (λ (k : ℕ). stores (length os) os (o.queue.head % length os) (rule.written p.settings (output.get o os) (take k src)).queue) n
        ∙ ap (stores (length os) os (o.queue.head % length os)) (append_nil (output.get o os).queue)
        ∙ sym (laid_again o.queue os)

    pub none_of : (a : Answered) (t : Bool) → a ≡ record { port = p; answer = record { outcome = Refused Nothing; count = 0 } }
        → t ≡ (ltb 0 (length src) && eqb w.count 0) → t ≡ true → w.count ≡ 0 → result a m src ≡ after_write p os src
    unfolding after_write get output.get
    none_of a t e f g z =
        ap (λ (y : Answered). result y m src) e
        ∙ ap (λ (y : List ℕ). keeps p y src (record { outcome = Refused Nothing; count = 0 })) (untouched z)
        ∙ rw (h, ← b.count, ← f, g)

    as_counted : output.OutputBecomes p.output os (rule.written p.settings (output.get p.output os) (take w.count src)) w.rest m
    as_counted = rw b.count b.rest

    -- the rule, where the port is not hung up and something is taken
    opened : (t : Bool) → t ≡ (ltb 0 (length src) && eqb w.count 0) → t ≡ false
        → after_write p os src
        ≡ after_write_by (rule.written_on false false (get p [] [] os) src w.count) p os src
    unfolding after_write get output.get
    opened t f g =
        let n : ℕ = output.takes p.settings p.output os src in
        ap (λ (y : Bool). after_write_by (rule.written_on y (ltb 0 (length src) && eqb n 0) (get p [] [] os) src n) p os src) h
        ∙ ap (λ (y : ℕ). after_write_by (rule.written_on false (ltb 0 (length src) && eqb y 0) (get p [] [] os) src y) p os src) (sym b.count)
        ∙ ap (λ (y : Bool). after_write_by (rule.written_on false y (get p [] [] os) src w.count) p os src) (sym f ∙ g)

    pub some_of : (a : Answered) (q : Port) (t : Bool) → q ≡ with_output p w.rest
        → a ≡ record { port = q; answer = record { outcome = Ok; count = w.count } }
        → t ≡ (ltb 0 (length src) && eqb w.count 0) → t ≡ false → result a m src ≡ after_write p os src
    unfolding after_write get output.get
    some_of a q t eq e f g =
        ap (λ (y : Answered). result y m src) e
        ∙ ap (λ (y : Port). result (record { port = y; answer = record { outcome = Ok; count = w.count } }) m src) eq
        ∙ (λ i. record {
          port = with_output p (as_counted.output i);
          slice = as_counted.slice i;
          lent = src;
          answer = record { outcome = Ok; count = w.count };
        })
        ∙ sym (opened t f g)

---- A write leaves the slice as long as it was

size_by : (a b : Bool) (p : Port) (s : State) (os src : List ℕ) (n : ℕ) → length (after_write_by (rule.written_on a b s src n) p os src).slice ≡ length os
size_by true b p s os src n = refl
size_by false true p s os src n = refl
size_by false false p s os src n =
    stores_length (length os) (p.output.queue.head % length os) os (rule.written s.settings s.output (take n src)).queue

pub size_written : (p : Port) (os src : List ℕ) → length (after_write p os src).slice ≡ length os
unfolding after_write get
size_written p os src =
    let n : ℕ = rule.taken (length os) p.settings (length (output.get p.output os).queue) (output.get p.output os).column src in
    size_by p.hung (ltb 0 (length src) && eqb n 0) p (get p [] [] os) os src n

---- none of one byte or more

pub counted_none : (t : Bool) (a : Bool) (n : ℕ) → t ≡ (a && eqb n 0) → t ≡ true → n ≡ 0
counted_none t true n e f = eqb-true n 0 (sym e ∙ f)
counted_none t false n e f = absurd (false≢true (sym e ∙ f))

---- The way out of a transmit: what is left stands where it stood

cond_le : (t : Bool) (n : ℕ) (l : List ℕ) → length (cond t [] (take n l)) ≤ length l
cond_le true n l = omega arith
cond_le false n l = omega (arith, length-take n l)

left_there : (o : Output) (os d : List ℕ) → let k : ℕ = length (rule.oldest (output.get o os) (length d)) in
    os ≡ stores (length os) os ((o.queue.head + k) % length os) (drop k (output.get o os).queue)
unfolding output.get held
left_there o os d =
    let N : ℕ = length os in
    let n : ℕ = min o.queue.len N in
    let h : ℕ = o.queue.head in
    let k : ℕ = length (rule.oldest (output.get o os) (length d)) in
    let le : k ≤ n = omega (arith, cond_le o.stopped (length d) (ring N n h os), ring_length N n h os) in
    put_same N (n - k) (h + k) os
    ∙ ap (stores N os ((h + k) % N)) (sym (drop_ring N k n h os le))

pub sent_of : (p q : Port) (os d d' : List ℕ) (r : Counted Output) (a : Answered) → output.Sends p.output os d r d' → q ≡ with_output p r.rest
    → a ≡ record { port = q; answer = record { outcome = Ok; count = r.count } } → result a os d' ≡ after_transmit p os d
unfolding after_transmit get output.get
sent_of p q os d d' r a b eq e =
    ap (λ (y : Answered). result y os d') e
    ∙ ap (λ (y : Port). result (record { port = y; answer = record { outcome = Ok; count = r.count } }) os d') eq
    ∙ (λ i. record {
      port = with_output p (b.rest i);
      slice = left_there p.output os d i;
      lent = (b.buffer ∙ ap (λ (y : List ℕ). y ++ drop (length y) d) (sym (append_nil (rule.oldest (output.get p.output os) (length d))))) i;
      answer = record { outcome = Ok; count = b.count i };
    })

---- Laws of a write that goes on from the rest

---- A write that goes on from the rest

taken_le : (N : ℕ) (x : Settings) (n c : ℕ) (bs : List ℕ) → rule.taken N x n c bs ≤ length bs
taken_le N x n c [] = omega arith
taken_le N x n c (b ∷ bs) =
    by (rule.room N n (rule.expand x c b)) (taken_le N x (n + length (rule.expand x c b)) (rule.columns_after x c (rule.expand x c b)) bs)
  where
    by : (t : Bool) {m : ℕ} → m ≤ length bs → cond t (suc m) 0 ≤ suc (length bs)
    by true le = omega arith
    by false le = omega arith

count_by : (a b : Bool) (p : Port) (s : State) (os src : List ℕ) (n : ℕ) → n ≤ length src
    → (after_write_by (rule.written_on a b s src n) p os src).answer.count ≤ length src
count_by true b p s os src n le = omega arith
count_by false true p s os src n le = omega arith
count_by false false p s os src n le = le

pub count_le : (p : Port) (os src : List ℕ) → (after_write p os src).answer.count ≤ length src
unfolding after_write get
count_le p os src =
    let n : ℕ = rule.taken (length os) p.settings (length (output.get p.output os).queue) (output.get p.output os).column src in
    count_by p.hung (ltb 0 (length src) && eqb n 0) p (get p [] [] os) os src n
    (taken_le (length os) p.settings (length (output.get p.output os).queue) (output.get p.output os).column src)

-- the three calls one after another
pub through_of : (p : Port) (os src d d' m k : List ℕ) (a b c : Answered) → result a m src ≡ after_write p os src
    → result b m d' ≡ after_transmit a.port m d → result c k (drop a.answer.count src) ≡ after_write b.port m (drop a.answer.count src)
    → MovesThrough p os src d (record { port = c.port; written = a.answer.count + c.answer.count; given = b.answer.count }) k d'
through_of p os src d d' m k a b c e f g =
    let f' : result b m d' ≡ second p os src d = f ∙ ap (λ (y : Outcomes). after_transmit y.port y.slice d) e in
    let rest : Outcomes → Outcomes → Outcomes = λ y z. after_write y.port y.slice (drop z.answer.count src) in
    let g' : result c k (drop a.answer.count src) ≡ third p os src d =
    g ∙ ap (λ (y : Outcomes). rest y (result a m src)) f' ∙ ap (rest (second p os src d)) e in
    record {
      port = ap (λ (y : Outcomes). y.port) g';
      slice = ap (λ (y : Outcomes). y.slice) g';
      buffer = ap (λ (y : Outcomes). y.lent) f';
      written = ap₂ (λ (y z : Outcomes). y.answer.count + z.answer.count) e g';
      given = ap (λ (y : Outcomes). y.answer.count) f';
    }

---- The part of the buffer that is left

pub the_rest : (n : ℕ) (src : List ℕ) → take (length src - n) (drop n src) ≡ drop n src
the_rest n src = take_all (length src - n) (drop n src) (rw length-drop (omega arith))

-- the second write is of the rest
pub rest_of : (c : Answered) (k : List ℕ) (q : Port) (m src : List ℕ) (n j : ℕ) → n ≡ j
    → result c k (take (length src - n) (drop n src)) ≡ after_write q m (take (length src - n) (drop n src))
    → result c k (drop j src) ≡ after_write q m (drop j src)
rest_of c k q m src n j e g =
    let r : take (length src - n) (drop n src) ≡ drop j src = the_rest n src ∙ ap (λ (y : ℕ). drop y src) e in
    ap (result c k) (sym r) ∙ g ∙ ap (after_write q m) r
