-- Document 01, 'Output'.
use Rattle.std.specs.Prelude.{ℕ, suc, ◌+◌, ◌-◌, ◌*◌, ◌/◌, ◌%◌, ltb, leb, eqb, Bool, true, false, ◌&&◌, ◌||◌, cond}
use Rattle.std.specs.Prelude.{List, [], ◌∷◌, ◌++◌, length, take, drop, replicate}
use Rattle.rules.specs.Types.{Settings, Nothing, HungUp, Ok}
use Rattle.rules.specs.Sizes.{Sizes, Output, State, with_output}
use Rattle.rules.specs.Refusals.{Reply, says, sends, refuses}

-- 'ONLCR turns a written 10 into 13,10, or 10 alone under ONOCR at column 0.'
abbrev pub newline : Settings → ℕ → List ℕ
newline x c = cond x.onlcr (cond (x.onocr && eqb c 0) (10 ∷ []) (13 ∷ 10 ∷ [])) (10 ∷ [])

-- 'OCRNL turns 13 into 10, not expanded again; ONOCR drops a 13 still to be sent at column 0.'
abbrev pub return : Settings → ℕ → List ℕ
return x c = cond x.ocrnl (10 ∷ []) (cond (x.onocr && eqb c 0) [] (13 ∷ []))

-- 'TAB3 turns 9 into 8 − (column mod 8) spaces.'
abbrev pub tab : Settings → ℕ → List ℕ
tab x c = cond x.tab3 (replicate (8 - c % 8) 32) (9 ∷ [])

-- 'ONOEOT drops 4.'
abbrev pub end_of_transmission : Settings → List ℕ
end_of_transmission x = cond x.onoeot [] (4 ∷ [])

-- what the byte b turns into at column c, 'with OPOST'
unfoldable pub expand : Settings → ℕ → ℕ → List ℕ
expand x c b =
    cond x.opost
    (cond (eqb b 4) (end_of_transmission x)
    (cond (eqb b 9) (tab x c)
    (cond (eqb b 13) (return x c)
    (cond (eqb b 10) (newline x c) (b ∷ [])))))
    (b ∷ [])

abbrev pub capped : ℕ → ℕ
capped c = cond (ltb 65535 c) 65528 c

-- '13 gives 0; 8 steps back, not below 0; 9 goes to the next multiple of 8; 10 gives 0 under OPOST and ONLRET; other bytes
-- below 32 and 127 leave it; the rest add one.'
abbrev pub moved : Settings → ℕ → ℕ → ℕ
moved x c b =
    cond (eqb b 13) 0
    (cond (eqb b 8) (c - 1)
    (cond (eqb b 9) (c / 8 * 8 + 8)
    (cond (eqb b 10 && x.opost && x.onlret) 0
    (cond (ltb b 32 || eqb b 127) c (c + 1)))))

-- 'A result above 65,535 becomes 65,528.'
unfoldable pub column_after : Settings → ℕ → ℕ → ℕ
column_after x c b = capped (moved x c b)

-- 'The column follows queued bytes.'
abbrev pub columns_after : Settings → ℕ → List ℕ → ℕ
columns_after x c [] = c
columns_after x c (b ∷ bs) = columns_after x (column_after x c b) bs

-- what a run of bytes turns into, each at the column just before it
abbrev pub processed : Settings → ℕ → List ℕ → List ℕ
processed x c [] = []
processed x c (b ∷ bs) = expand x c b ++ processed x (columns_after x c (expand x c b)) bs

-- bytes go to the end of the queue as they are
abbrev pub queued : Settings → Output → List ℕ → Output
queued x o bs =
    record { queue = o.queue ++ bs; column = columns_after x o.column bs; stopped = o.stopped }

-- the bytes fit behind n queued ones, in a queue of so many bytes
abbrev pub room : ℕ → ℕ → List ℕ → Bool
room size n bs = leb (n + length bs) size

-- bytes go to the end of the queue all together, or not at all
abbrev pub queued_whole : ℕ → Settings → Output → List ℕ → Output
queued_whole size x o bs = cond (room size (length o.queue) bs) (queued x o bs) o

-- a run of bytes is written, whatever the room
abbrev pub written : Settings → Output → List ℕ → Output
written x o bs = queued x o (processed x o.column bs)

-- 'A write takes bytes until one's whole expansion does not fit, then stops there; its count is the bytes taken.' Here n bytes
-- are queued, and the column is c.
abbrev pub taken : ℕ → Settings → ℕ → ℕ → List ℕ → ℕ
taken size x n c [] = 0
taken size x n c (b ∷ bs) =
    let e : List ℕ = expand x c b in
    cond (room size n e) (suc (taken size x (n + length e) (columns_after x c e) bs)) 0

-- 'A write tests 5, then 3.' Hung up; none of one byte or more could be taken.
abbrev pub written_on : Bool → Bool → State → List ℕ → ℕ → State × Reply
written_on true none s bs n = refuses s HungUp
written_on false true s bs n = refuses s Nothing
written_on false false s bs n = (with_output s (written s.settings s.output (take n bs)), says Ok n)

abbrev pub write : Sizes → State → List ℕ → State × Reply
write z s bs =
    let n : ℕ = taken z.output s.settings (length s.output.queue) s.output.column bs in
    written_on s.hung_up (ltb 0 (length bs) && eqb n 0) s bs n

-- 'Transmit hands out the oldest queued bytes, none while stopped.'
abbrev pub oldest : Output → ℕ → List ℕ
oldest o n = cond o.stopped [] (take n o.queue)

abbrev pub transmit : State → ℕ → State × Reply
transmit s n =
    let bs : List ℕ = oldest s.output n in
    (with_output s (record { queue = drop (length bs) s.output.queue; column = s.output.column; stopped = s.output.stopped }), sends bs)
