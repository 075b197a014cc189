-- Each premise of demand 3 is needed: without it even less than demand 3 is false, by a short pair of runs.
use Prim.Native.Nat.{ℕ, suc}
use mathlib.Core.Path.{◌≡◌, refl}
use mathlib.Core.Bool.{false}
use mathlib.Core.List.{List, [], ◌∷◌, ◌++◌}
use lib.ListN.{take, drop}
use lib.Dec.{eqb}
use Rattle.secrecy.specs.Types.{Settings, Call, Set}
use Rattle.rules.specs.Sizes.{Sizes, State, base, fresh_with}
use Rattle.rules.specs.Settings.{elem, characters, enabled_of}
use Rattle.rules.specs.Received.{step1}
use Rattle.rules.specs.Output.{expand, column_after}
use Rattle.rules.specs.Step.{Asked, run}
use Rattle.secrecy.specs.Statement.{Quiet, KeepsSettings, Plain, good, MayDiffer, same, differ, Each, none, more}
use Rattle.secrecy.proofs.Theorem.{secrecy}
use Rattle.secrecy.proofs.Weigh.{quiet_but, quiet, receives, reads, transmits, Seen, seen, weigh, refuted}

---- Demand 3 with the premises left open, for good bytes alone and without the bytes read

-- the same call, of which kept holds; or two good bytes, of which plain holds
pub data Differs (kept : Call → Type 0) (plain : ℕ → Type 0) (a b : Asked) : Type 0 where
  keeps : a ≡ b → kept a.call → Differs kept plain a b
  bytes : (m n : ℕ) → a ≡ receives m → b ≡ receives n → plain m → plain n → Differs kept plain a b

pub record Claim (settings : Settings → Type 0) (kept : Call → Type 0) (plain : Settings → ℕ → Type 0) : Type 0 where
  pub holds : (z : Sizes) (s : State) (one other : List Asked) → settings s.settings → Each (Differs kept (plain s.settings)) one other
      → Each Seen (run z s one) (run z s other)

may_differ : {x : Settings} {a b : Asked} → Differs KeepsSettings (Plain x) a b → MayDiffer x a b
may_differ (keeps e k) = same e k
may_differ (bytes m n e d p q) = differ m n (rw e (good p)) (rw d (good q))

all_may_differ : {x : Settings} {one other : List Asked} → Each (Differs KeepsSettings (Plain x)) one other → Each (MayDiffer x) one other
all_may_differ none = none
all_may_differ (more d ds) = more (may_differ d) (all_may_differ ds)

-- with all the premises it is true
pub all_premises : Claim Quiet KeepsSettings Plain
all_premises = record { holds = λ z s one other q ds. seen (secrecy z s one other q (all_may_differ ds)) }

---- Pairs of runs: some calls, a byte, further calls

abbrev All : (Call → Type 0) → List Asked → Type 0
All kept [] = Unit {0}
All kept (a ∷ l) = kept a.call × All kept l

module _ (kept : Call → Type 0) (plain : ℕ → Type 0) where
  all_keep : (l : List Asked) → All kept l → Each (Differs kept plain) l l
  all_keep [] k = none
  all_keep (a ∷ l) k = more (keeps refl k.0) (all_keep l k.1)

  one_byte : (before : List Asked) (m n : ℕ) (rest : List Asked) → All kept before → plain m → plain n → All kept rest
      → Each (Differs kept plain) (before ++ receives m ∷ rest) (before ++ receives n ∷ rest)
  one_byte [] m n rest j p q k = more (bytes m n refl refl p q) (all_keep rest k)
  one_byte (a ∷ l) m n rest j p q k = more (keeps refl j.0) (one_byte l m n rest j.1 p q k)

breaks : {settings : Settings → Type 0} {kept : Call → Type 0} {plain : Settings → ℕ → Type 0}
    (s : State) (before : List Asked) (m n : ℕ) (rest : List Asked)
    → settings s.settings → All kept before → plain s.settings m → plain s.settings n → All kept rest
    → eqb (weigh (run base s (before ++ receives m ∷ rest))) (weigh (run base s (before ++ receives n ∷ rest))) ≡ false
    → Claim settings kept plain → ⊥
breaks {kept} {plain} s before m n rest h j p q k t c =
    refuted _ _ t (c.holds base s _ _ h (one_byte kept (plain s.settings) before m n rest j p q k))

---- Without one of the premises it is false

-- ECHO set: the byte itself is transmitted
pub needs_no_echo : Claim (λ x. x.werase ≡ 255) KeepsSettings Plain → ⊥
unfolding expand column_after
needs_no_echo = breaks (quiet (20 ∷ [])) [] 97 98 (transmits ∷ []) refl tt refl refl (tt, tt) refl

-- WERASE enabled: of 'a b' it leaves two bytes, of 'acb' none
pub needs_no_word_erase : Claim (λ x. x.echo ≡ false) KeepsSettings Plain → ⊥
needs_no_word_erase =
    breaks (fresh_with (quiet_but [] 23)) (receives 97 ∷ []) 32 99 (receives 98 ∷ receives 23 ∷ receives 10 ∷ reads ∷ [])
    refl (tt, tt) refl refl (tt, (tt, (tt, (tt, tt)))) refl

-- a change of settings: ECHO is set before the byte comes
pub needs_no_change : Claim Quiet (λ c. Unit {0}) Plain → ⊥
unfolding expand column_after
needs_no_change =
    breaks (quiet []) (record { call = Set (quiet_but (20 ∷ []) 255); lent = [] } ∷ []) 97 98 (transmits ∷ [])
    (record { no_echo = refl; no_word_erase = refl }) (tt, tt) refl refl (tt, tt) refl

-- what is left of 'plain' if only these numbers are excluded, and these special characters
abbrev pub Outside : List ℕ → (Settings → List ℕ) → Settings → ℕ → Type 0
Outside numbers special x b = elem (step1 x b) (numbers ++ enabled_of (special x)) ≡ false

-- 10 ends a line
pub needs_not_newline : Claim Quiet KeepsSettings (Outside (13 ∷ 255 ∷ []) characters) → ⊥
needs_not_newline = breaks (quiet []) [] 10 97 (reads ∷ []) (record { no_echo = refl; no_word_erase = refl }) tt refl refl (tt, tt) refl

-- 13 does, under ICRNL
pub needs_not_return : Claim Quiet KeepsSettings (Outside (10 ∷ 255 ∷ []) characters) → ⊥
needs_not_return = breaks (quiet []) [] 13 97 (reads ∷ []) (record { no_echo = refl; no_word_erase = refl }) tt refl refl (tt, tt) refl

-- 255 is stored twice, under PARMRK
pub needs_not_255 : Claim Quiet KeepsSettings (Outside (10 ∷ 13 ∷ []) characters) → ⊥
needs_not_255 =
    breaks (quiet (3 ∷ [])) [] 255 97 (receives 10 ∷ reads ∷ []) (record { no_echo = refl; no_word_erase = refl }) tt refl refl (tt, (tt, tt)) refl

-- 138 is 10 after the strip to seven bits
pub needs_the_strip : Claim Quiet KeepsSettings (λ x b. elem b (10 ∷ 13 ∷ 255 ∷ enabled_of (characters x)) ≡ false) → ⊥
needs_the_strip = breaks (quiet (5 ∷ [])) [] 138 97 (reads ∷ []) (record { no_echo = refl; no_word_erase = refl }) tt refl refl (tt, tt) refl

-- the special characters but the k-th
abbrev pub others : ℕ → Settings → List ℕ
others k x = take k (characters x) ++ drop (suc k) (characters x)

abbrev pub Needs : ℕ → Type 0
Needs k = Claim Quiet KeepsSettings (Outside (10 ∷ 13 ∷ 255 ∷ []) (others k)) → ⊥

-- each changes what the read of a line gives: 'a', the byte, 'b', NL; with 'a' for the byte the weight is 8
needs : (k c : ℕ) → let x : Settings = (quiet []).settings in
    Outside (10 ∷ 13 ∷ 255 ∷ []) (others k) x c → Outside (10 ∷ 13 ∷ 255 ∷ []) (others k) x 97
    → eqb (weigh (run base (quiet []) (receives 97 ∷ receives c ∷ receives 98 ∷ receives 10 ∷ reads ∷ []))) 8 ≡ false → Needs k
needs k c p q t =
    breaks (quiet []) (receives 97 ∷ []) c 97 (receives 98 ∷ receives 10 ∷ reads ∷ []) (record { no_echo = refl; no_word_erase = refl }) (tt, tt) p q
    (tt, (tt, (tt, tt))) t

-- in their order; WERASE, the number 4, is disabled
pub needs_not_special : Needs 0 × Needs 1 × Needs 2 × Needs 3 × Needs 5 × Needs 6 × Needs 7 × Needs 8 × Needs 9 × Needs 10 × Needs 11 × Needs 12
needs_not_special = (
  needs 0 4 refl refl refl,
  needs 1 5 refl refl refl,
  needs 2 6 refl refl refl,
  needs 3 127 refl refl refl,
  needs 5 21 refl refl refl,
  needs 6 18 refl refl refl,
  needs 7 3 refl refl refl,
  needs 8 28 refl refl refl,
  needs 9 26 refl refl refl,
  needs 10 17 refl refl refl,
  needs 11 19 refl refl refl,
  needs 12 22 refl refl refl,
)
