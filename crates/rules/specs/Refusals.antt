-- Document 01, 'Numbers of the refusals': what every call answers, and what a refusal leaves as it was.
use Rattle.std.specs.Prelude.{ℕ, List, [], ◌++◌, length, drop}
use Rattle.rules.specs.Types.{Refusal, BadSettings, OutOfRange, Nothing, ReadWaits, HungUp, Outcome, Ok, Refused, Answer}
use Rattle.rules.specs.Sizes.{State}

-- 1: 'settings where two enabled special characters are equal, or one is 10 or 13'
-- 2: 'a group above 2,147,483,647, or a process group of 0 in a verdict; a flush choice not 1, 2 or 3; a malformed trace record'
-- 3: 'a non-blocking read with nothing to give; a write of one byte or more of which none could be taken'
-- 4: 'a read waits, and settings are changed, or a read comes non-blocking or with another length'
-- 5: 'a write, even of no bytes, on a hung-up port'
abbrev pub number_of : Refusal → ℕ
number_of BadSettings = 1
number_of OutOfRange = 2
number_of Nothing = 3
number_of ReadWaits = 4
number_of HungUp = 5

-- What a call answers: its outcome and count, the bytes that a transmit hands out, the bytes that a read gives.
pub record Reply : Type 0 where
  pub answer : Answer
  pub sent : List ℕ
  pub given : List ℕ

-- an answer that hands out no byte
abbrev pub says : Outcome → ℕ → Reply
says o n = record { answer = record { outcome = o; count = n }; sent = []; given = [] }

-- the bytes sent, and the bytes given, with their count
abbrev pub sends : List ℕ → Reply
sends bs = record { answer = record { outcome = Ok; count = length bs }; sent = bs; given = [] }

abbrev pub gives : List ℕ → Reply
gives bs = record { answer = record { outcome = Ok; count = length bs }; sent = []; given = bs }

-- 'A refusal returns its number and count 0; port and buffers keep every byte.'
abbrev pub refuses : State → Refusal → State × Reply
refuses s r = (s, says (Refused r) 0)

-- 'bytes beyond the count given keep their values, and on "wait" all do': the lent buffer after the call
abbrev pub handed : Reply → List ℕ
handed r = r.sent ++ r.given

abbrev pub lent_after : List ℕ → Reply → List ℕ
lent_after lent r = handed r ++ drop (length (handed r)) lent
