-- What the promise of a read is worth: no second result meets it, and the state after a read is the rules' next state, whatever the
-- output is. Assumes nothing.
use mathlib.Core.Path.{◌≡◌, refl, sym, ap, subst, ◌∙◌}
use mathlib.Core.Bool.{Bool, true, false, cond, false≢true}
use mathlib.Core.List.{List, [], ◌++◌}
use Prim.Native.Nat.{ℕ, ◌+◌, ◌%◌}
use lib.ListN.{length, drop}
use lib.Dec.{eqb}
use Rattle.rules.specs.declared.Call.TheVariants.{Read, Cancel}
use Rattle.rules.specs.declared.Outcome.TheVariants.{Wait, Refused}
use Rattle.rules.specs.declared.Refusal.TheVariants.{Nothing, ReadWaits}
use Rattle.rules.specs.declared.Waiting.TheVariants.{Idle}
use Rattle.rules.specs.declared.Waiting.{Waiting}
use Rattle.rules.specs.Sizes.{State, Place, Output as RuledOutput, with_output, with_waiting}
use Rattle.rules.specs.Refusals.{Reply, says, gives, lent_after}
use Rattle.rules.specs.Reads as rule
use Rattle.input.specs.Contract as input
use Rattle.input.specs.declared.Input.{Input}
use Rattle.output.specs.Contract as output
use Rattle.input.specs.reading.Contract as reading
use Rattle.input.proofs.reading.Laws.{line_after, bytes_after}
use Rattle.port.specs.State.{capacity, place_bytes, place_marks, sizes, get}
use Rattle.port.specs.Sending.{refused}
use Rattle.port.specs.declared.Port.{Port}
use Rattle.port.specs.declared.Answered.{Answered}
use Rattle.port.specs.Calls.{step_of, Now, cancelled}
use Rattle.port.proofs.Calls.{fitted_sound}
use Rattle.port.proofs.Promises.{same_answered, same_state}
use Rattle.discipline.specs.reads.Contract.{Reads, state_of, took, ReadsFrom}
use Rattle.discipline.proofs.reads.Laws.{there, same_place}

---- No second result

pub one_taken : {p : Port} {i : Input} {bs ms d : List ℕ} {w : State × Reply} {r q : Answered} {d' e' : List ℕ} → ReadsFrom p i bs ms d w r d'
    → ReadsFrom p i bs ms d w q e' → (r ≡ q) × (d' ≡ e')
one_taken {r = r} {q = q} h k = (
  same_answered r q (h.port ∙ sym k.port) (h.answer ∙ sym k.answer),
  h.buffer ∙ sym k.buffer,
)

---- The state after

-- What a read leaves: on a refusal the state itself; else an input that the numbers and the slices read as, and nothing else changed.
record Fine (p : Port) (i : Input) (bs ms : List ℕ) (w : State × Reply) : Type 0 where
  kept : refused w.1.answer ≡ true → w.0 ≡ state_of p i bs ms
  input : input.get (took p i bs ms w.0).input bs ms ≡ w.0.input
  settings : w.0.settings ≡ p.settings
  output : w.0.output ≡ output.get p.output []
  foreground : w.0.foreground ≡ p.foreground
  hung : w.0.hung_up ≡ p.hung

module _ (p : Port) (i : Input) (bs ms d : List ℕ) (h : input.Sound i bs ms) where
  abbrev s : State
  s = state_of p i bs ms

  abbrev finished : List Place
  finished = (input.get i bs ms).finished

  -- the numbers after the part t is read
  abbrev behind : rule.Part → Input
  behind t =
      input.put (reading.leaves (input.get i bs ms) t.left)
      ((i.queue.head + reading.gone (input.get i bs ms) (reading.leaves (input.get i bs ms) t.left)) % length bs)

  reads_part : (t : rule.Part)
      → reading.ReadsPart i bs ms d t (record { rest = behind t; count = length t.bytes }) (t.bytes ++ drop (length t.bytes) d)
  reads_part t = record { count = refl; input = refl; buffer = refl }

  part_left : (c : Bool)
      → input.get (behind (rule.part_of c (length d) finished)) bs ms ≡ reading.leaves (input.get i bs ms) (rule.part_of c (length d) finished).left
  part_left true =
      let t : rule.Part = rule.first_line (length d) finished in
      (line_after i bs ms h d (record { rest = behind t; count = length t.bytes }) (t.bytes ++ drop (length t.bytes) d) (reads_part t)).meaning
  part_left false =
      let t : rule.Part = rule.first_bytes (length d) finished in
      (bytes_after i bs ms h d (record { rest = behind t; count = length t.bytes }) (t.bytes ++ drop (length t.bytes) d) (reads_part t)).meaning

  part_fine : Fine p i bs ms (rule.finish s (rule.part_of p.settings.icanon (length d) finished))
  part_fine =
      record {
        kept = λ f. absurd (false≢true f);
        input = part_left p.settings.icanon;
        settings = refl;
        output = refl;
        foreground = refl;
        hung = refl;
      }

  -- nothing is taken
  none_fine : (w : Waiting) (r : Reply) → (refused r.answer ≡ true → w ≡ p.waiting) → Fine p i bs ms (with_waiting s w, r)
  none_fine w r e =
      record {
        kept = λ f. ap (with_waiting s) (e f);
        input = ap (λ (y : Input). input.get y bs ms) (sym (same_place p i bs ms d h));
        settings = refl;
        output = refl;
        foreground = refl;
        hung = refl;
      }

  ruled_fine : (a b c : Bool) → Fine p i bs ms (rule.ruled_on a b c s (length d))
  ruled_fine true true c = none_fine p.waiting (says (Refused Nothing) 0) (λ f. refl)
  ruled_fine true false c = part_fine
  ruled_fine false b true = part_fine
  ruled_fine false b false = none_fine (rule.waits_on (rule.begins p.settings finished (length d)) p.waiting) (says Wait 0) (λ f. absurd (false≢true f))

  read_fine : (a b c nonblocking : Bool) → Fine p i bs ms (rule.read_on a b c s nonblocking (length d))
  read_fine true b c nonblocking = none_fine Idle (gives []) (λ f. absurd (false≢true f))
  read_fine false true c nonblocking = none_fine p.waiting (says (Refused ReadWaits) 0) (λ f. refl)
  read_fine false false true nonblocking = none_fine p.waiting (gives []) (λ f. refl)
  read_fine false false false nonblocking =
      ruled_fine nonblocking (rule.is_empty finished) (rule.done_on p.settings.icanon s (length d))

---- Whatever the output is

module _ (s : State) (o : RuledOutput) (n : ℕ) where
  -- the same read at a state with the output o
  abbrev Alike : State × Reply → State × Reply → Type 0
  Alike v w = (v.0 ≡ with_output w.0 o) × (v.1 ≡ w.1)

  ruled_alike : (a b c : Bool) → Alike (rule.ruled_on a b c (with_output s o) n) (rule.ruled_on a b c s n)
  ruled_alike true true c = (refl, refl)
  ruled_alike true false c = (refl, refl)
  ruled_alike false b true = (refl, refl)
  ruled_alike false b false = (refl, refl)

  done_alike : (c : Bool) → rule.done_on c (with_output s o) n ≡ rule.done_on c s n
  done_alike true = refl
  done_alike false = refl

  read_alike : (a b c nonblocking : Bool) → Alike (rule.read_on a b c (with_output s o) nonblocking n) (rule.read_on a b c s nonblocking n)
  read_alike true b c nonblocking = (refl, refl)
  read_alike false true c nonblocking = (refl, refl)
  read_alike false false true nonblocking = (refl, refl)
  read_alike false false false nonblocking =
      subst (λ (y : Bool). Alike (rule.ruled_on nonblocking (rule.is_empty s.input.finished) y (with_output s o) n) (rule.ruled s nonblocking n))
      (sym (done_alike s.settings.icanon)) (ruled_alike nonblocking (rule.is_empty s.input.finished) (rule.done_on s.settings.icanon s n))

---- The call

-- What is known after a read, with any slice of the output.
pub record ReadNow (p : Port) (bs ms os d : List ℕ) (nonblocking : Bool) (r : Answered) (d' : List ℕ) : Type 0 where
  pub now : Now p bs ms os (step_of p bs ms os (Read nonblocking) d).0 r.port bs ms os
  pub answer : r.answer ≡ (step_of p bs ms os (Read nonblocking) d).1.answer
  pub buffer : d' ≡ lent_after d (step_of p bs ms os (Read nonblocking) d).1

module _ (p : Port) (bs ms os d : List ℕ) (nonblocking : Bool) where
  abbrev N : ℕ
  N = capacity bs ms

  abbrev i₀ : Input
  i₀ = input.fitted N p.input

  abbrev w₀ : State × Reply
  w₀ = step_of p bs ms [] (Read nonblocking) d

  abbrev took₀ : Port
  took₀ = took p i₀ (place_bytes bs ms) (place_marks bs ms) w₀.0

  fine : Fine p i₀ (place_bytes bs ms) (place_marks bs ms) w₀
  fine =
      subst (λ (y : State). Fine p i₀ (place_bytes bs ms) (place_marks bs ms) (rule.read y nonblocking (length d))) (there p bs ms)
      (read_fine p i₀ (place_bytes bs ms) (place_marks bs ms) d (fitted_sound bs ms p i₀ N refl refl) p.hung
      (rule.clashes p.waiting nonblocking (length d)) (eqb (length d) 0) nonblocking)

  alike : ((step_of p bs ms os (Read nonblocking) d).0 ≡ with_output w₀.0 (output.get p.output os)) × ((step_of p bs ms os (Read nonblocking) d).1 ≡ w₀.1)
  unfolding get
  alike =
      read_alike (get p bs ms []) (output.get p.output os) (length d) p.hung (rule.clashes p.waiting nonblocking (length d)) (eqb (length d) 0)
      nonblocking

  -- by whether it is refused
  left : (t : Bool) → refused w₀.1.answer ≡ t → get (cond t p took₀) bs ms os ≡ with_output w₀.0 (output.get p.output os)
  unfolding get
  left true e = ap (λ (y : State). with_output y (output.get p.output os)) (sym (there p bs ms) ∙ sym (fine.kept e))
  left false e =
      same_state p.settings w₀.0.settings (input.get took₀.input (place_bytes bs ms) (place_marks bs ms)) w₀.0.input
      (output.get p.output os) (output.get p.output os) p.foreground w₀.0.foreground p.hung w₀.0.hung_up w₀.0.waiting w₀.0.waiting
      (sym fine.settings) fine.input refl (sym fine.foreground) (sym fine.hung) refl

  same_sizes : (t : Bool) → sizes (cond t p took₀) bs ms os ≡ sizes p bs ms os
  same_sizes true = refl
  same_sizes false = refl

  pub read_now : (r : Answered) (d' : List ℕ) → Reads p bs ms d nonblocking r d' → ReadNow p bs ms os d nonblocking r d'
  read_now r d' h =
      record {
        now =
            record {
              state = ap (λ (y : Port). get y bs ms os) h.port ∙ left (refused w₀.1.answer) refl ∙ sym alike.0;
              sizes = ap (λ (y : Port). sizes y bs ms os) h.port ∙ same_sizes (refused w₀.1.answer);
            };
        answer = h.answer ∙ ap (λ (y : Reply). y.answer) (sym alike.1);
        buffer = h.buffer ∙ ap (lent_after d) (sym alike.1);
      }

---- Cancel

module _ (p : Port) (bs ms os : List ℕ) where
  pub cancelled_now : (r : Answered) → r ≡ cancelled p (step_of p [] [] [] Cancel [])
      → Now p bs ms os (step_of p bs ms os Cancel []).0 r.port bs ms os × (r.answer ≡ (step_of p bs ms os Cancel []).1.answer)
  unfolding get
  cancelled_now r e = (
    record { state = ap (λ (y : Answered). get y.port bs ms os) e; sizes = ap (λ (y : Answered). sizes y.port bs ms os) e },
    ap (λ (y : Answered). y.answer) e,
  )
