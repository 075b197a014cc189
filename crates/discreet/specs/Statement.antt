-- Demand 3 of the port: two callers of `step` on one port and its slices, whose calls differ only in plain bytes received, see the same
-- answers, and buffers that differ only where a read delivers a differing byte. The words are those of secrecy's statement.
use Rattle.std.specs.Prelude.{ℕ, ◌≡◌, List, [], ◌∷◌}
use Rattle.rules.specs.declared.Settings.{Settings}
use Rattle.rules.specs.Step.{Asked}
use Rattle.secrecy.specs.Statement.{Each, NoRead, Quiet, MayDiffer, Delivered}
use Rattle.port.specs.declared.Port.{Port}
use Rattle.discipline.specs.Demand2.{Seen, Makes}

-- What is seen of a call. Outcome (a signal, a verdict, a refusal are outcomes) and count are the same; at each place of the buffer the bytes
-- are the same, or those of one call where the two runs' calls bring two bytes. The buffer of a call that is no read is the same.
pub record SeenAlike (x : Settings) (one other : List Asked) (a : Asked) (v w : Seen) : Type 0 where
  pub answer : v.answer ≡ w.answer
  pub lent : Each (Delivered x one other) v.lent w.lent
  pub others : NoRead a.call → v.lent ≡ w.lent

-- calls, and what two callers see, of the same length: R of the three at each place
pub data EachCall (R : Asked → Seen → Seen → Type 0) : List Asked → List Seen → List Seen → Type 0 where
  no_call : EachCall R [] [] []
  a_call : {a : Asked} {v w : Seen} {calls : List Asked} {seen read : List Seen} → R a v w → EachCall R calls seen read
      → EachCall R (a ∷ calls) (v ∷ seen) (w ∷ read)

abbrev pub LentAlike : Asked → Asked → Type 0
LentAlike a b = a.lent ≡ b.lent

-- ECHO clear, WERASE disabled, no change of settings; any port, any slices, any calls. What a transmit hands out stands in the buffer, and is
-- the same: a transmit is no read. A call that is no read in one run is none in the other.
abbrev pub Demand3 : Type 0
Demand3 =
    (p : Port) (bs ms os : List ℕ) (one other : List Asked) (seen read : List Seen)
    → Quiet p.settings → Each (MayDiffer p.settings) one other → Each LentAlike one other
    → Makes one seen p bs ms os → Makes other read p bs ms os → EachCall (SeenAlike p.settings one other) one seen read
