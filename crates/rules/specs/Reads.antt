-- Document 01, 'Reads', and the order of a read's refusals.
use Rattle.std.specs.Prelude.{ℕ, zero, suc, min, Bool, true, false, not, ◌||◌, cond, List, [], ◌∷◌, map, length, take, drop, ltb, leb, eqb}
use Rattle.rules.specs.Types.{Settings, Nothing, ReadWaits, Wait, Waiting, Idle, Untimed, Timed}
use Rattle.rules.specs.Sizes.{Place, State, with_waiting}
use Rattle.rules.specs.Refusals.{Reply, says, gives, refuses}

abbrev pub bytes_of : List Place → List ℕ
bytes_of ps = map (λ (p : Place). p.byte) ps

abbrev pub is_empty : List Place → Bool
is_empty [] = true
is_empty (p ∷ ps) = false

-- The bytes of a read, and the places that it leaves.
pub record Part : Type 0 where
  pub bytes : List ℕ
  pub left : List Place

abbrev pub behind : ℕ → Part → Part
behind b r = record { bytes = b ∷ r.bytes; left = r.left }

-- 'at most the requested bytes of the first finished line, its NL, EOL or EOL2 included. Taking the last byte before a mark
-- takes the mark. A mark alone answers 0.' Here n bytes are still requested.
abbrev pub first_line : ℕ → List Place → Part
first_line n [] = record { bytes = []; left = [] }
first_line zero (p ∷ ps) = cond p.mark (record { bytes = []; left = ps }) (record { bytes = []; left = p ∷ ps })
first_line (suc n) (p ∷ ps) =
    let rest : Part = first_line n ps in
    cond p.mark (record { bytes = []; left = ps })
    (cond p.ends (record { bytes = p.byte ∷ []; left = ps }) (behind p.byte rest))

-- 'A done read takes min(n, stored).'
abbrev pub first_bytes : ℕ → List Place → Part
first_bytes n ps = record { bytes = bytes_of (take n ps); left = drop n ps }

abbrev pub part_of : Bool → ℕ → List Place → Part
part_of true n ps = first_line n ps
part_of false n ps = first_bytes n ps

-- The read is done: no read waits any more.
abbrev pub finish : State → Part → State × Reply
finish s r = (
  record {
    settings = s.settings;
    input = record { finished = r.left; current = s.input.current; literal_next = s.input.literal_next };
    output = s.output;
    foreground = s.foreground;
    hung_up = s.hung_up;
    waiting = Idle;
  },
  gives r.bytes,
)

-- The timer has expired.
abbrev pub expired : Waiting → Bool
expired Idle = false
expired (Untimed n) = false
expired (Timed n t) = eqb t.left 0

-- 'Noncanonical, n requested: done when min(MIN, n) bytes are stored, or, for MIN 0, when one is. MIN and TIME both 0: at
-- once, 0 if empty.' Here k bytes are stored. 'at zero the read is done with what is stored at the next call'
abbrev pub enough : Settings → ℕ → ℕ → Bool
enough x n k = cond (eqb x.min 0) (eqb x.time 0 || ltb 0 k) (leb (min x.min n) k)

-- A read of n bytes finds what it asks for: canonical, a finished line; else as above.
abbrev pub done_on : Bool → State → ℕ → Bool
done_on true s n = not (is_empty s.input.finished)
done_on false s n = enough s.settings n (length s.input.finished) || expired s.waiting

-- 'MIN and TIME above 0: the timer starts at TIME with the read if any byte is stored then'; 'MIN 0, TIME above 0: it starts
-- with the read'. ICANON; TIME above 0; MIN 0 or a byte is stored.
abbrev pub begins_on : Bool → Bool → Bool → Settings → ℕ → Waiting
begins_on true timed starts x n = Untimed n
begins_on false true true x n = Timed n (record { left = x.time })
begins_on false true false x n = Untimed n
begins_on false false starts x n = Untimed n

abbrev pub begins : Settings → List Place → ℕ → Waiting
begins x ps n = begins_on x.icanon (ltb 0 x.time) (eqb x.min 0 || not (is_empty ps)) x n

-- A poll of the waiting read leaves it as it is.
abbrev pub waits_on : Waiting → Waiting → Waiting
waits_on new Idle = new
waits_on new (Untimed n) = Untimed n
waits_on new (Timed n t) = Timed n t

abbrev pub waits : State → ℕ → State × Reply
waits s n = (with_waiting s (waits_on (begins s.settings s.input.finished n) s.waiting), says Wait 0)

-- 'Non-blocking takes that at once, whatever MIN and TIME are, or gives refusal 3 if no byte is stored; canonical, if no
-- line is finished. Otherwise the answer is "wait".' Non-blocking; nothing is there; the read is done.
abbrev pub ruled_on : Bool → Bool → Bool → State → ℕ → State × Reply
ruled_on true true done s n = refuses s Nothing
ruled_on true false done s n = finish s (part_of s.settings.icanon n s.input.finished)
ruled_on false empty true s n = finish s (part_of s.settings.icanon n s.input.finished)
ruled_on false empty false s n = waits s n

abbrev pub ruled : State → Bool → ℕ → State × Reply
ruled s nonblocking n =
    ruled_on nonblocking (is_empty s.input.finished) (done_on s.settings.icanon s n) s n

-- refusal 4: 'a read waits, and .. a read comes non-blocking or with another length'
abbrev pub clashes : Waiting → Bool → ℕ → Bool
clashes Idle nonblocking n = false
clashes (Untimed m) nonblocking n = nonblocking || not (eqb m n)
clashes (Timed m t) nonblocking n = nonblocking || not (eqb m n)

-- 'A read on a hung-up port answers 0 bytes and ends any waiting read; otherwise 4, then length 0 (answers 0, takes
-- nothing), then the rules below.'
abbrev pub read_on : Bool → Bool → Bool → State → Bool → ℕ → State × Reply
read_on true clash none s nonblocking n = (with_waiting s Idle, gives [])
read_on false true none s nonblocking n = refuses s ReadWaits
read_on false false true s nonblocking n = (s, gives [])
read_on false false false s nonblocking n = ruled s nonblocking n

abbrev pub read : State → Bool → ℕ → State × Reply
read s nonblocking n = read_on s.hung_up (clashes s.waiting nonblocking n) (eqb n 0) s nonblocking n
