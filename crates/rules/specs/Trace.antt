-- Document 01, 'The trace program': from the bytes of a trace to the bytes printed.
use Rattle.std.specs.Prelude.{ℕ, zero, suc, ◌+◌, ◌*◌, ◌/◌, ◌%◌, ◌^◌, leb, ltb, eqb, Bool, true, false, ◌&&◌, cond}
use Rattle.std.specs.Prelude.{List, [], ◌∷◌, ◌++◌, length, take, drop, replicate}
use Prim.Native.String.{String, len, char_at}
use Prim.Native.Char.{code}
use Rattle.rules.specs.Types.{Good, Parity, Framing, Break, Tick, Hangup, Event, Call, Set, Receive, Read, Write, Transmit, Flush, Cancel}
use Rattle.rules.specs.Types.{Foreground, Signal, Int, Quit, Tstp, Hup, Verdict, Allowed, Eio, Ttin, Ttou, OutOfRange, Outcome, Ok, Wait}
use Rattle.rules.specs.Types.{Reports, Judged, Refused}
use Rattle.rules.specs.Sizes.{Sizes, State, base}
use Rattle.rules.specs.Settings.{settings_of, fresh}
use Rattle.rules.specs.Refusals.{Reply, number_of, says, handed}
use Rattle.rules.specs.Step.{Asked, step_of}

---- Text

-- the bytes of a text, from place i on
abbrev pub text_from : String → ℕ → ℕ → List ℕ
text_from t i zero = []
text_from t i (suc n) = code (char_at t i) ∷ text_from t (suc i) n

abbrev pub text : String → List ℕ
text t = text_from t 0 (len t)

-- in decimal, with at most as many digits as the first number says
abbrev pub digits : ℕ → ℕ → List ℕ
digits zero n = []
digits (suc k) n = cond (ltb n 10) ((48 + n) ∷ []) (digits k (n / 10) ++ ((48 + n % 10) ∷ []))

-- a number below 100,000: an index, a kind and a count are at most 65,535
abbrev pub decimal : ℕ → List ℕ
decimal n = digits 5 n

-- 'lower hex'
abbrev pub hex_digit : ℕ → ℕ
hex_digit d = cond (ltb d 10) (48 + d) (87 + d)

abbrev pub hex : List ℕ → List ℕ
hex [] = []
hex (b ∷ bs) = hex_digit (b / 16) ∷ hex_digit (b % 16) ∷ hex bs

-- 'bytes given in lower hex or `-`'
abbrev pub hex_or_dash : List ℕ → List ℕ
hex_or_dash [] = text "-"
hex_or_dash (b ∷ bs) = hex (b ∷ bs)

-- 'outcome (`ok`, `wait`, `int`, `quit`, `tstp`, `hup`, or `r` and a refusal number)'; verdicts are no records
abbrev pub signal_word : Signal → List ℕ
signal_word Int = text "int"
signal_word Quit = text "quit"
signal_word Tstp = text "tstp"
signal_word Hup = text "hup"

abbrev pub verdict_word : Verdict → List ℕ
verdict_word Allowed = text "allowed"
verdict_word Eio = text "eio"
verdict_word Ttin = text "ttin"
verdict_word Ttou = text "ttou"

abbrev pub outcome_word : Outcome → List ℕ
outcome_word Ok = text "ok"
outcome_word Wait = text "wait"
outcome_word (Reports g) = signal_word g
outcome_word (Judged v) = verdict_word v
outcome_word (Refused r) = text "r" ++ decimal (number_of r)

---- Records: 'two-byte length of the body, two-byte kind, body, little-endian'

abbrev pub two : ℕ → ℕ → ℕ
two low high = low + 256 * high

abbrev pub four : ℕ → ℕ → ℕ → ℕ → ℕ
four a b c d = two a b + 65536 * two c d

-- What a record asks for: 'Unknown kinds, wrong lengths and other values are malformed.'
pub data Decoded : Type 0 where
  well_formed : Asked → Decoded
  malformed : Decoded

abbrev pub asks : Call → List ℕ → Decoded
asks c lent = well_formed (record { call = c; lent = lent })

-- '0 or 1'
abbrev pub is_flag : ℕ → Bool
is_flag b = ltb b 2

abbrev pub flag : ℕ → Bool
flag b = eqb b 1

abbrev pub bit_of : ℕ → ℕ → Bool
bit_of flags i = eqb (flags / 2 ^ i % 2) 1

-- '1 settings (4 flag bytes, 15 values)'. There are 15 values.
abbrev pub settings_record_on : Bool → ℕ → List ℕ → Decoded
settings_record_on true flags values = asks (Set (settings_of (bit_of flags) values)) []
settings_record_on false flags values = malformed

abbrev pub settings_record : List ℕ → Decoded
settings_record [] = malformed
settings_record (a ∷ []) = malformed
settings_record (a ∷ b ∷ []) = malformed
settings_record (a ∷ b ∷ c ∷ []) = malformed
settings_record (a ∷ b ∷ c ∷ d ∷ values) = settings_record_on (eqb (length values) 15) (four a b c d) values

-- '2 good, 3 parity, 4 framing byte (1)'
abbrev pub byte_record : (ℕ → Event) → List ℕ → Decoded
byte_record e [] = malformed
byte_record e (b ∷ []) = asks (Receive (e b)) []
byte_record e (b ∷ c ∷ bs) = malformed

-- '5 break, 6 tick, 7 hangup, 12 cancel (0)'
abbrev pub empty_record : Call → List ℕ → Decoded
empty_record c [] = asks c []
empty_record c (b ∷ bs) = malformed

-- '8 read (2-byte count to 1,024, then 0 or 1 for non-blocking)'. Count and flag are such.
abbrev pub read_record_on : Bool → ℕ → ℕ → Decoded
read_record_on true n c = asks (Read (flag c)) (replicate n 0)
read_record_on false n c = malformed

abbrev pub read_record : List ℕ → Decoded
read_record [] = malformed
read_record (a ∷ []) = malformed
read_record (a ∷ b ∷ []) = malformed
read_record (a ∷ b ∷ c ∷ []) = read_record_on (leb (two a b) 1024 && is_flag c) (two a b) c
read_record (a ∷ b ∷ c ∷ d ∷ bs) = malformed

-- '9 write (0 to 512)'
abbrev pub write_record : List ℕ → Decoded
write_record bs = cond (leb (length bs) 512) (asks Write bs) malformed

-- '10 transmit (2-byte count to 2,048)'. The count is such.
abbrev pub transmit_record_on : Bool → ℕ → Decoded
transmit_record_on true n = asks Transmit (replicate n 0)
transmit_record_on false n = malformed

abbrev pub transmit_record : List ℕ → Decoded
transmit_record [] = malformed
transmit_record (a ∷ []) = malformed
transmit_record (a ∷ b ∷ []) = transmit_record_on (leb (two a b) 2048) (two a b)
transmit_record (a ∷ b ∷ c ∷ bs) = malformed

-- '11 flush (1 input, 2 output, 3 both)'
abbrev pub flush_record : List ℕ → Decoded
flush_record [] = malformed
flush_record (a ∷ []) = cond (ltb 0 a && leb a 3) (asks (Flush a) []) malformed
flush_record (a ∷ b ∷ bs) = malformed

-- '13 foreground (4-byte group to 2,147,483,647, 0 for none; orphaned 0 or 1)'
abbrev pub foreground_record : List ℕ → Decoded
foreground_record [] = malformed
foreground_record (a ∷ []) = malformed
foreground_record (a ∷ b ∷ []) = malformed
foreground_record (a ∷ b ∷ c ∷ []) = malformed
foreground_record (a ∷ b ∷ c ∷ d ∷ []) = malformed
foreground_record (a ∷ b ∷ c ∷ d ∷ e ∷ []) =
    cond (leb (four a b c d) 2147483647 && is_flag e) (asks (Foreground (four a b c d) (flag e)) []) malformed
foreground_record (a ∷ b ∷ c ∷ d ∷ e ∷ f ∷ bs) = malformed

-- Kinds 1 to 13, in their order.
abbrev pub decode : ℕ → List ℕ → Decoded
decode kind body =
    cond (eqb kind 1) (settings_record body)
    (cond (eqb kind 2) (byte_record Good body)
    (cond (eqb kind 3) (byte_record Parity body)
    (cond (eqb kind 4) (byte_record Framing body)
    (cond (eqb kind 5) (empty_record (Receive Break) body)
    (cond (eqb kind 6) (empty_record (Receive Tick) body)
    (cond (eqb kind 7) (empty_record (Receive Hangup) body)
    (cond (eqb kind 8) (read_record body)
    (cond (eqb kind 9) (write_record body)
    (cond (eqb kind 10) (transmit_record body)
    (cond (eqb kind 11) (flush_record body)
    (cond (eqb kind 12) (empty_record Cancel body)
    (cond (eqb kind 13) (foreground_record body) malformed))))))))))))

-- A malformed record is refusal 2, and the port is not called.
abbrev pub answered : Sizes → State → Decoded → State × Reply
answered z s (well_formed a) = step_of z s a
answered z s malformed = (s, says (Refused OutOfRange) 0)

---- Lines

-- 'index from 0, kind, outcome, count, bytes given'
abbrev pub line : ℕ → ℕ → Reply → List ℕ
line index kind r =
    decimal index ++ text " " ++ decimal kind ++ text " " ++ outcome_word r.answer.outcome
    ++ text " " ++ decimal r.answer.count ++ text " " ++ hex_or_dash (handed r) ++ text "\n"

-- 'A cut last record prints its index and `cut`.'
abbrev pub cut_line : ℕ → List ℕ
cut_line index = decimal index ++ text " cut\n"

-- 'one more, even cut, prints its index and `full` and ends'
abbrev pub full_line : ℕ → List ℕ
full_line index = decimal index ++ text " full\n"

-- What stands at the front of the input: nothing, a record that is cut, a record with what comes after it.
pub data Front : Type 0 where
  nothing : Front
  cut : Front
  a_record : ℕ → List ℕ → List ℕ → Front  -- its kind, its body, the rest

abbrev pub body_of : ℕ → ℕ → List ℕ → Front
body_of n kind rest = cond (leb n (length rest)) (a_record kind (take n rest) (drop n rest)) cut

abbrev pub front : List ℕ → Front
front [] = nothing
front (a ∷ []) = cut
front (a ∷ b ∷ []) = cut
front (a ∷ b ∷ c ∷ []) = cut
front (a ∷ b ∷ c ∷ d ∷ rest) = body_of (two a b) (two c d) rest

abbrev pub overfull : ℕ → List ℕ → List ℕ
overfull index [] = []
overfull index (b ∷ bs) = full_line index

-- The lines for the input from here on, of which at most so many records are read.
abbrev pub trace_from : Sizes → ℕ → ℕ → State → List ℕ → List ℕ
trace_from z zero index s input = overfull index input
trace_from z (suc more) index s input =
    elim (front input) as (λ _. List ℕ) [
      | nothing ↦ []
      | cut ↦ cut_line index
      | a_record kind body rest ↦
          let r : State × Reply = answered z s (decode kind body) in
          line index kind r.1 ++ trace_from z more (suc index) r.0 rest
    ]

-- 'At most 65,535 records are read.'
abbrev pub trace : List ℕ → List ℕ
trace input = trace_from base 65535 0 fresh input
