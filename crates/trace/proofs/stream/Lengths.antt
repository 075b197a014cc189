-- The lines at the end have at most 4,123 bytes. Assumes nothing.
use Prim.Native.Nat.{ℕ, zero, suc, ◌+◌, ◌/◌, ◌%◌, ◌≤◌}
use native.Mathlib.Omega.{arith}
use mathlib.Core.Bool.{Bool, true, false, cond}
use mathlib.Core.List.{[], ◌∷◌, ◌++◌, List}
use lib.ListN.{length, length-append, take, length-take}
use lib.Dec.{ltb, eqb}
use Rattle.rules.specs.Trace.{text, digits, decimal, cut_line, full_line, hex, hex_or_dash, signal_word, verdict_word, outcome_word, well_formed, malformed}
use Rattle.rules.specs.Trace.{decode, answered, line}
use mathlib.Core.Path.{◌≡◌, refl}
use Rattle.rules.specs.declared.Call.{Call}
use Rattle.rules.specs.declared.Call.TheVariants.{Set, Receive, Read, Write, Transmit, Flush, Cancel, Foreground, ReadVerdict, WriteVerdict}
use Rattle.rules.specs.declared.Call.TheVariants.{SettingsVerdict}
use Rattle.rules.specs.declared.Outcome.{Outcome}
use Rattle.rules.specs.declared.Outcome.TheVariants.{Ok, Wait, Reports, Judged, Refused}
use Rattle.rules.specs.declared.Signal.{Signal}
use Rattle.rules.specs.declared.Signal.TheVariants.{Int, Quit, Tstp, Hup}
use Rattle.rules.specs.declared.Verdict.{Verdict}
use Rattle.rules.specs.declared.Verdict.TheVariants.{Allowed, Eio, Ttin, Ttou}
use Rattle.rules.specs.Sizes.{Sizes, State, Place}
use Rattle.rules.specs.Refusals.{Reply, number_of, handed}
use Rattle.rules.specs.Output as rule
use Rattle.rules.specs.Reads as reads
use Rattle.rules.specs.Step.{step}
use Rattle.rules.specs.Trace as trace
use Rattle.input.proofs.reading.FirstLine.{line_count, bytes_count}
use Rattle.rules.specs.Asked.{Asked}
use Rattle.rules.proofs.Asked.{asked_of}
use Rattle.trace.proofs.Laws.{handed_count}
use Rattle.trace.specs.Numbers.{most_lent, most_line}

pub digits_short : (k n : ℕ) → length (digits k n) ≤ k
digits_short zero n = omega arith
digits_short (suc k) n = by (ltb n 10) (digits_short k (n / 10))
  where
    by : (t : Bool) → length (digits k (n / 10)) ≤ k → length (cond t ((48 + n) ∷ []) (digits k (n / 10) ++ ((48 + n % 10) ∷ []))) ≤ suc k
    by true le = omega arith
    by false le = omega (arith, length-append (digits k (n / 10)) ((48 + n % 10) ∷ []))

pub cut_at_most : (i : ℕ) → length (cut_line i) ≤ most_line
cut_at_most i = omega (arith, length-append (decimal i) (text " cut\n"), digits_short 5 i)

pub full_at_most : (i : ℕ) → length (full_line i) ≤ most_line
full_at_most i = omega (arith, length-append (decimal i) (text " full\n"), digits_short 5 i)

---- No line has more than 4,123 bytes. Assumes nothing

---- What a call hands out

part_short : (icanon : Bool) (n : ℕ) (ps : List Place) → length (reads.part_of icanon n ps).bytes ≤ n
part_short true n ps = line_count n ps
part_short false n ps = bytes_count n ps

module _ (s : State) (n : ℕ) where
  ruled_short : (a b c : Bool) → length (handed (reads.ruled_on a b c s n).1) ≤ n
  ruled_short true true c = omega arith
  ruled_short true false c = part_short s.settings.icanon n s.input.finished
  ruled_short false b true = part_short s.settings.icanon n s.input.finished
  ruled_short false b false = omega arith

  read_short : (a b c nonblocking : Bool) → length (handed (reads.read_on a b c s nonblocking n).1) ≤ n
  read_short true b c nonblocking = omega arith
  read_short false true c nonblocking = omega arith
  read_short false false true nonblocking = omega arith
  read_short false false false nonblocking =
      ruled_short nonblocking (reads.is_empty s.input.finished) (reads.done_on s.settings.icanon s n)

  oldest_short : length (rule.oldest s.output n) ≤ n
  oldest_short = by s.output.stopped
    where
      by : (t : Bool) → length (cond t [] (take n s.output.queue)) ≤ n
      by true = omega arith
      by false = omega (arith, length-take n s.output.queue)

module _ (z : Sizes) (s : State) (l : List ℕ) where
  handed_short : (call : Call) → length (handed (step z s call l).1) ≤ length l
  handed_short (Set x) = omega (arith, handed_count z s l (Set x))
  handed_short (Receive e) = omega (arith, handed_count z s l (Receive e))
  handed_short (Read nonblocking) =
      read_short s (length l) s.hung_up (reads.clashes s.waiting nonblocking (length l)) (eqb (length l) 0) nonblocking
  handed_short Write = omega (arith, handed_count z s l Write)
  handed_short Transmit = omega (arith, oldest_short s (length l), length-append (rule.oldest s.output (length l)) [])
  handed_short (Flush choice) = omega (arith, handed_count z s l (Flush choice))
  handed_short Cancel = omega (arith, handed_count z s l Cancel)
  handed_short (Foreground group orphaned) = omega (arith, handed_count z s l (Foreground group orphaned))
  handed_short (ReadVerdict p) = omega (arith, handed_count z s l (ReadVerdict p))
  handed_short (WriteVerdict p) = omega (arith, handed_count z s l (WriteVerdict p))
  handed_short (SettingsVerdict p) = omega (arith, handed_count z s l (SettingsVerdict p))

answered_short : (z : Sizes) (s : State) (kind : ℕ) (body : List ℕ) (x : trace.Decoded) → Asked kind body x → length (handed (answered z s x).1) ≤ most_lent
answered_short z s kind body (well_formed a) b = omega (arith, handed_short z s a.lent a.call, b.few)
answered_short z s kind body malformed b = omega arith

---- What is printed for it

signal_short : (g : Signal) → length (signal_word g) ≤ 7
signal_short Int = omega arith
signal_short Quit = omega arith
signal_short Tstp = omega arith
signal_short Hup = omega arith

verdict_short : (v : Verdict) → length (verdict_word v) ≤ 7
verdict_short Allowed = omega arith
verdict_short Eio = omega arith
verdict_short Ttin = omega arith
verdict_short Ttou = omega arith

outcome_short : (o : Outcome) → length (outcome_word o) ≤ 7
outcome_short Ok = omega arith
outcome_short Wait = omega arith
outcome_short (Reports g) = signal_short g
outcome_short (Judged v) = verdict_short v
outcome_short (Refused r) = omega (arith, length-append (text "r") (decimal (number_of r)), digits_short 5 (number_of r))

hex_length : (l : List ℕ) → length (hex l) ≡ length l + length l
hex_length [] = refl
hex_length (b ∷ l) = omega (arith, hex_length l)

hex_short : (l : List ℕ) → length l ≤ most_lent → length (hex_or_dash l) ≤ 4096
hex_short [] le = omega arith
hex_short (b ∷ l) le = omega (arith, hex_length (b ∷ l))

-- ten texts, one after the other
ten : (a b c d e f g h i j : List ℕ) → length (a ++ b ++ c ++ d ++ e ++ f ++ g ++ h ++ i ++ j)
    ≡ length a + length b + length c + length d + length e + length f + length g + length h + length i + length j
ten a b c d e f g h i j =
    omega (
      arith,
      length-append a b,
      length-append (a ++ b) c,
      length-append (a ++ b ++ c) d,
      length-append (a ++ b ++ c ++ d) e,
      length-append (a ++ b ++ c ++ d ++ e) f,
      length-append (a ++ b ++ c ++ d ++ e ++ f) g,
      length-append (a ++ b ++ c ++ d ++ e ++ f ++ g) h,
      length-append (a ++ b ++ c ++ d ++ e ++ f ++ g ++ h) i,
      length-append (a ++ b ++ c ++ d ++ e ++ f ++ g ++ h ++ i) j,
    )

reply_short : (i k : ℕ) (r : Reply) → length (handed r) ≤ most_lent → length (line i k r) ≤ most_line
reply_short i k r le =
    omega (
      arith,
      ten (decimal i) (text " ") (decimal k) (text " ") (outcome_word r.answer.outcome) (text " ") (decimal r.answer.count) (text " ")
          (hex_or_dash (handed r)) (text "\n"),
      digits_short 5 i,
      digits_short 5 k,
      outcome_short r.answer.outcome,
      digits_short 5 r.answer.count,
      hex_short (handed r) le,
    )

pub line_at_most : (z : Sizes) (s : State) (i kind : ℕ) (body : List ℕ) → length (line i kind (answered z s (decode kind body)).1) ≤ most_line
line_at_most z s i kind body =
    reply_short i kind (answered z s (decode kind body)).1 (answered_short z s kind body (decode kind body) (asked_of kind body))
