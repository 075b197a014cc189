-- Two traces to which demand 3 applies, and what they print: the premises can be met, and the texts differ in the hex of a read. Assumes nothing.
use Prim.Native.Nat.{ℕ}
use mathlib.Core.Path.{◌≡◌, refl}
use mathlib.Core.List.{List, [], ◌∷◌, ◌++◌}
use Rattle.rules.specs.Trace.{text, trace}
use Rattle.secrecy.specs.Statement.{Each, none, more, Quiet, good}
use Rattle.discreet.specs.traces.Statement.{Rec, encoded_all, Ends, in_record, RecordsDiffer, same, differ, settings_after}

-- the default settings, but ECHO clear and WERASE disabled
abbrev silent : List Rec
silent =
    record {
      kind = 1;
      body = 2 ∷ 59 ∷ 160 ∷ 46 ∷ 4 ∷ 255 ∷ 255 ∷ 127 ∷ 255 ∷ 21 ∷ 18 ∷ 3 ∷ 28 ∷ 26 ∷ 17 ∷ 19 ∷ 22 ∷ 1 ∷ 0 ∷ [];
    } ∷ []

-- a byte, NL, a read, a transmit
abbrev typed : ℕ → List Rec
typed b =
    record { kind = 2; body = b ∷ [] } ∷ record { kind = 2; body = 10 ∷ [] } ∷ record { kind = 8; body = 8 ∷ 0 ∷ 0 ∷ [] }
    ∷ record { kind = 10; body = 16 ∷ 0 ∷ [] } ∷ []

pub is_quiet : Quiet (settings_after silent)
is_quiet = record { no_echo = refl; no_word_erase = refl }

pub may_differ : Each (RecordsDiffer (settings_after silent)) (typed 97) (typed 98)
may_differ =
    more (differ _ _ 97 98 refl refl refl (good refl) (good refl)) (more (same refl tt) (more (same refl tt) (more (same refl tt) none)))

pub is_cut : Ends (7 ∷ [])
is_cut = in_record refl

-- what is printed, with these bytes read
abbrev lines : List ℕ → List ℕ
lines read =
    text "0 1 ok 0 -\n" ++ text "1 2 ok 1 -\n" ++ text "2 2 ok 1 -\n" ++ text "3 8 ok 2 " ++ read ++ text "\n" ++ text "4 10 ok 0 -\n" ++ text "5 cut\n"

pub prints_a : trace (encoded_all silent ++ (encoded_all (typed 97) ++ (7 ∷ []))) ≡ lines (text "610a")
prints_a = refl

pub prints_b : trace (encoded_all silent ++ (encoded_all (typed 98) ++ (7 ∷ []))) ≡ lines (text "620a")
prints_b = refl
