-- What a read delivers in a small run, whatever the plain bytes are.
use mathlib.Core.Path.{◌≡◌, refl}
use mathlib.Core.List.{List, [], ◌∷◌, map}
use Rattle.secrecy.specs.Types.{Parity, Receive}
use Rattle.rules.specs.Sizes.{base}
use Rattle.rules.specs.Step.{Asked}
use Rattle.secrecy.specs.Reports.{fixed, of_call, Report}
use Rattle.secrecy.proofs.Theorem.{one_report}
use Rattle.secrecy.proofs.Weigh.{quiet, receives, reads}

abbrev typed : List Asked
typed =
    receives 97 ∷ receives 98 ∷ receives 127 ∷ record { call = Receive (Parity 99); lent = [] } ∷ receives 10 ∷ reads ∷ []

-- two bytes, ERASE, a byte with a parity error, NL: the read gives the bytes of the calls 0 and 3, and NL
pub which_events : map (λ (r : Report). r.given) (one_report base (quiet []) typed (record { no_echo = refl; no_word_erase = refl })).0
    ≡ [] ∷ [] ∷ [] ∷ [] ∷ [] ∷ (of_call 0 ∷ of_call 3 ∷ fixed 10 ∷ []) ∷ []
unfolding one_report
which_events = refl
