-- E13 of document 01, and how a trace ends, as theorems about `trace`.
use Prim.Native.Nat.{ℕ, ◌*◌, ◌+◌, ◌-◌}
use mathlib.Core.Path.{◌≡◌, refl}
use mathlib.Core.Bool.{cond}
use mathlib.Core.List.{List, [], ◌∷◌, ◌++◌}
use lib.Dec.{ltb}
use Rattle.rules.specs.Sizes.{base}
use Rattle.rules.specs.Settings.{fresh}
use Rattle.rules.specs.Output.{expand, column_after}
use Rattle.rules.specs.Trace.{text, trace_from, trace}

-- the bytes that a text in lower hex stands for
abbrev value : ℕ → ℕ
value d = cond (ltb d 58) (d - 48) (d - 87)

abbrev pairs : List ℕ → List ℕ
pairs [] = []
pairs (a ∷ []) = []
pairs (a ∷ b ∷ more) = (value a * 16 + value b) ∷ pairs more

abbrev E13 : List ℕ
E13 =
    pairs (text "05000d000700000000" ++ text "0100020068" ++ text "010002000d" ++ text "02000a001000"
    ++ text "03000800080000" ++ text "03000800080000" ++ text "0100020003" ++ text "02000a001000")

abbrev E13_lines : List ℕ
E13_lines =
    text "0 13 ok 0 -\n" ++ text "1 2 ok 1 -\n" ++ text "2 2 ok 1 -\n" ++ text "3 10 ok 3 680d0a\n"
    ++ text "4 8 ok 2 680a\n" ++ text "5 8 wait 0 -\n" ++ text "6 2 int 1 -\n" ++ text "7 10 ok 2 5e43\n"

pub E13_holds : trace E13 ≡ E13_lines
unfolding expand column_after
E13_holds = refl

-- a malformed record (a flush choice of 4, an unknown kind), then a record that is cut in its body and one cut in its header
pub malformed_and_cut : trace (pairs (text "01000b0004" ++ text "0200ff7f0102" ++ text "0300080001"))
    ≡ text "0 11 r2 0 -\n" ++ text "1 32767 r2 0 -\n" ++ text "2 cut\n"
malformed_and_cut = refl

pub cut_in_the_header : trace (pairs (text "0000060000")) ≡ text "0 6 ok 0 -\n" ++ text "1 cut\n"
cut_in_the_header = refl

pub no_input : trace [] ≡ []
no_input = refl

-- where one record is read at most: one more, even cut, ends the lines
pub one_more : trace_from base 1 0 fresh (pairs (text "0000060000")) ≡ text "0 6 ok 0 -\n" ++ text "1 full\n"
one_more = refl

pub just_full : trace_from base 1 0 fresh (pairs (text "00000600")) ≡ text "0 6 ok 0 -\n"
just_full = refl
