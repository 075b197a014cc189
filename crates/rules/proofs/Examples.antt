-- E1 to E12 of document 01 as one list, and further examples that catch known mistakes.
use Prim.Native.Nat.{ℕ}
use mathlib.Core.Path.{refl}
use mathlib.Core.Bool.{false, not, ◌&&◌, ◌||◌}
use mathlib.Core.List.{List, [], ◌∷◌, ◌++◌}
use lib.ListN.{replicate}
use Rattle.rules.specs.Types.{Settings, Event, Good, Break, Tick, Call, Receive, Read, Write, Transmit, Flush, Ok, Wait, Refused, Nothing}
use Rattle.rules.specs.Sizes.{base}
use Rattle.rules.specs.Settings.{elem, settings_of, default_flags, default_values, defaults}
use Rattle.rules.specs.Refusals.{Reply, says, sends, gives}
use Rattle.rules.specs.Output.{expand, column_after}
use Rattle.rules.specs.Step.{Asked}
use Rattle.rules.specs.Trace.{text}
use Rattle.rules.proofs.Check.{the_rules, Example, Holds}

---- Names for calls and answers

abbrev pub plain : Call → List Asked
plain c = record { call = c; lent = [] } ∷ []

abbrev pub good : List ℕ → List Asked
good [] = []
good (b ∷ bs) = record { call = Receive (Good b); lent = [] } ∷ good bs

abbrev pub event : Event → List Asked
event e = plain (Receive e)

abbrev pub read : ℕ → List Asked
read n = record { call = Read false; lent = replicate n 0 } ∷ []

abbrev pub write : List ℕ → List Asked
write bs = record { call = Write; lent = bs } ∷ []

abbrev pub transmit : ℕ → List Asked
transmit n = record { call = Transmit; lent = replicate n 0 } ∷ []

-- n bytes are taken, one call each; a call with nothing to tell; a read that waits
abbrev pub taken : ℕ → List Reply
taken n = replicate n (says Ok 1)

abbrev pub ok : List Reply
ok = says Ok 0 ∷ []

abbrev pub waits : List Reply
waits = says Wait 0 ∷ []

abbrev pub given : List ℕ → List Reply
given bs = gives bs ∷ []

abbrev pub sent : List ℕ → List Reply
sent bs = sends bs ∷ []

-- the default settings with some flags set, some cleared, and other values
abbrev pub but : List ℕ → List ℕ → List ℕ → Settings
but on off values = settings_of (λ i. (elem i default_flags || elem i on) && not (elem i off)) values

abbrev pub with_flags : List ℕ → List ℕ → Settings
with_flags on off = but on off default_values

-- MIN and TIME, with ICANON clear
abbrev pub timed : ℕ → ℕ → Settings
timed m t =
    but [] (27 ∷ []) (4 ∷ 255 ∷ 255 ∷ 127 ∷ 23 ∷ 21 ∷ 18 ∷ 3 ∷ 28 ∷ 26 ∷ 17 ∷ 19 ∷ 22 ∷ m ∷ t ∷ [])

abbrev PARMRK : ℕ
PARMRK = 3

abbrev INLCR : ℕ
INLCR = 6

abbrev IMAXBEL : ℕ
IMAXBEL = 11

abbrev OCRNL : ℕ
OCRNL = 14

abbrev TAB3 : ℕ
TAB3 = 15

abbrev ECHO : ℕ
ECHO = 20

abbrev ALTWERASE : ℕ
ALTWERASE = 28

abbrev NL : ℕ
NL = 10

abbrev EOF : ℕ
EOF = 4

abbrev ERASE : ℕ
ERASE = 127

abbrev WERASE : ℕ
WERASE = 23

abbrev LNEXT : ℕ
LNEXT = 22

abbrev pub example : Settings → List Asked → List Reply → Example
example x calls expected = record { sizes = base; settings = x; calls = calls; expected = expected }

---- E1 to E12, in the document's order

-- `ab` ERASE NL: read 10 gives `a` NL.
abbrev E1 : Example
E1 = example defaults (good (text "ab" ++ ERASE ∷ NL ∷ []) ++ read 10) (taken 4 ++ given (text "a\n"))

-- `a` NL ERASE `b` NL: two reads of 10 give `a` NL, `b` NL.
abbrev E2 : Example
E2 =
    example defaults (good (97 ∷ NL ∷ ERASE ∷ 98 ∷ NL ∷ []) ++ read 10 ++ read 10)
    (taken 5 ++ given (text "a\n") ++ given (text "b\n"))

-- NL NL: two reads give one NL each.
abbrev E3 : Example
E3 = example defaults (good (NL ∷ NL ∷ []) ++ read 10 ++ read 10) (taken 2 ++ given (text "\n") ++ given (text "\n"))

-- `abc` EOF: read 3 gives `abc`, the next waits.
abbrev E4 : Example
E4 = example defaults (good (text "abc" ++ EOF ∷ []) ++ read 3 ++ read 3) (taken 4 ++ given (text "abc") ++ waits)

-- EOF: read 0 gives 0, read 1 gives 0, read 1 waits.
abbrev E5 : Example
E5 = example defaults (good (EOF ∷ []) ++ read 0 ++ read 1 ++ read 1) (taken 1 ++ given [] ++ given [] ++ waits)

-- LNEXT NL `x` NL: read 10 gives 10,120,10.
abbrev E6 : Example
E6 = example defaults (good (LNEXT ∷ NL ∷ 120 ∷ NL ∷ []) ++ read 10) (taken 4 ++ given (10 ∷ 120 ∷ 10 ∷ []))

-- ICRNL and INLCR: 13 stores 10, 10 stores 13.
abbrev E7 : Example
E7 = example (with_flags (INLCR ∷ []) []) (good (10 ∷ 13 ∷ []) ++ read 10) (taken 2 ++ given (13 ∷ 10 ∷ []))

-- 254 `a`, then `b`: bell, `b` dropped; NL fits; read 300 gives 255. IMAXBEL clear: only NL is read.
abbrev full : List Asked
full = good (replicate 254 97 ++ 98 ∷ NL ∷ [])

abbrev E8 : Example
E8 =
    example defaults (full ++ transmit 300 ++ read 300)
    (taken 256 ++ sent (replicate 254 97 ++ 7 ∷ 13 ∷ 10 ∷ []) ++ given (replicate 254 97 ++ NL ∷ []))

abbrev E8_flushed : Example
E8_flushed = example (with_flags [] (IMAXBEL ∷ [])) (full ++ read 300) (taken 256 ++ given (NL ∷ []))

-- PARMRK: 255 ERASE NL reads NL.
abbrev E9 : Example
E9 = example (with_flags (PARMRK ∷ []) []) (good (255 ∷ ERASE ∷ NL ∷ []) ++ read 10) (taken 3 ++ given (NL ∷ []))

-- TAB3, column 5: three spaces, column 8; a second tab is then eight spaces.
abbrev E10 : Example
E10 =
    example (with_flags (TAB3 ∷ []) []) (write (text "abcde\t") ++ write (text "\t") ++ transmit 20)
    (says Ok 6 ∷ says Ok 1 ∷ sent (text "abcde           "))

-- `foo.bar;` WERASE leaves nothing; ALTWERASE leaves `foo.`; `ab12` leaves `ab`.
abbrev E11 : Example
E11 = example defaults (good (text "foo.bar;" ++ WERASE ∷ NL ∷ []) ++ read 10) (taken 10 ++ given (text "\n"))

abbrev E11_alternate : Example
E11_alternate =
    example (with_flags (ALTWERASE ∷ []) []) (good (text "foo.bar;" ++ WERASE ∷ NL ∷ []) ++ read 10)
    (taken 10 ++ given (text "foo.\n"))

abbrev E11_digits : Example
E11_digits =
    example (with_flags (ALTWERASE ∷ []) []) (good (text "ab12" ++ WERASE ∷ NL ∷ []) ++ read 10)
    (taken 6 ++ given (text "ab\n"))

-- ICANON clear, MIN 3, TIME 2: read 10, byte, tick, byte, tick, tick: 2 bytes.
abbrev E12 : Example
E12 =
    example (timed 3 2)
    (read 10 ++ good (97 ∷ []) ++ event Tick ++ good (98 ∷ []) ++ event Tick ++ read 10 ++ event Tick ++ read 10)
    (waits ++ taken 1 ++ ok ++ taken 1 ++ ok ++ waits ++ ok ++ given (text "ab"))

---- Further examples, each for a mistake that one of E1 to E12 does not show

-- ECHO clear: an erased unit shows nothing.
abbrev unseen : Example
unseen =
    example (with_flags [] (ECHO ∷ [])) (good (97 ∷ 98 ∷ ERASE ∷ []) ++ transmit 20) (taken 3 ++ sent [])

-- A timer that has expired is not restarted by a byte; a flush turns it off.
abbrev expired : Example
expired =
    example (timed 3 1) (read 10 ++ good (97 ∷ []) ++ event Tick ++ good (98 ∷ []) ++ read 10)
    (waits ++ taken 1 ++ ok ++ taken 1 ++ given (text "ab"))

abbrev turned_off : Example
turned_off =
    example (timed 3 1) (read 10 ++ good (97 ∷ []) ++ event Tick ++ plain (Flush 1) ++ read 10)
    (waits ++ taken 1 ++ ok ++ ok ++ waits)

-- An echo that does not fit leaves the column: `B` finds no room, and the tab goes from column 4 to 8.
abbrev no_room : Example
no_room =
    record {
      sizes = record { line = 254; input = 1024; output = 4 };
      settings = with_flags (TAB3 ∷ []) [];
      calls = write (text "abc") ++ good (65 ∷ 66 ∷ []) ++ transmit 9 ++ write (text "\t") ++ transmit 9;
      expected = says Ok 3 ∷ taken 2 ++ sent (text "abcA") ++ says Ok 1 ∷ sent (text "    ");
    }

-- OCRNL's 10 is not expanded again.
abbrev mapped_return : Example
mapped_return =
    example (with_flags (OCRNL ∷ []) []) (write (text "a\r") ++ transmit 9) (says Ok 2 ∷ sent (text "a\n"))

-- A write takes what fits, byte by byte; an expansion is never cut in two; then nothing is taken.
abbrev partly : Example
partly =
    record {
      sizes = record { line = 254; input = 1024; output = 4 };
      settings = defaults;
      calls = write (text "ab\ncd") ++ write (text "\nd") ++ transmit 9 ++ write (text "\nd") ++ transmit 9;
      expected = says Ok 3 ∷ says (Refused Nothing) 0 ∷ sent (text "ab\r\n") ++ says Ok 2 ∷ sent (text "\r\nd");
    }

-- REPRINT shows a break's 0 not, and a good 0 as a caret pair.
abbrev reprinted : Example
reprinted =
    example (with_flags [] (1 ∷ [])) (event Break ++ good (0 ∷ 18 ∷ []) ++ transmit 20)
    (ok ++ taken 2 ++ sent (text "^@^R\r\n^@"))

abbrev pub examples : List Example
examples =
    E1 ∷ E2 ∷ E3 ∷ E4 ∷ E5 ∷ E6 ∷ E7 ∷ E8 ∷ E8_flushed ∷ E9 ∷ E10 ∷ E11 ∷ E11_alternate ∷ E11_digits ∷ E12 ∷ unseen ∷ expired ∷ turned_off ∷ no_room
    ∷ mapped_return ∷ partly ∷ reprinted ∷ []

pub examples_hold : Holds the_rules examples
unfolding expand column_after
examples_hold = (
  refl,
  (
    refl,
    (
      refl,
      (
        refl,
        (refl, (refl, (refl, (refl, (refl, (refl, (refl, (refl, (refl, (refl, (refl, (refl, (refl, (refl, (refl, (refl, (refl, (refl, tt)))))))))))))))))),
      ),
    ),
  ),
)
