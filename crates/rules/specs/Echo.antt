-- Document 01, 'Echo': the bytes that are shown, before output processing.
use Rattle.std.specs.Prelude.{ℕ, zero, suc, ◌+◌, not, ◌&&◌, cond, List, [], ◌∷◌, ◌++◌, eqb}
use Rattle.rules.specs.Types.{Settings}
use Rattle.rules.specs.Sizes.{Sizes, Place, State, with_output}
use Rattle.rules.specs.Classes.{is_control}
use Rattle.rules.specs.Output.{processed, queued_whole}
use Rattle.rules.specs.Editing.{Edit, erase, word_erase, kill, reprint}

-- '94 and the byte plus 64 (63 for 127)'
abbrev pub caret : ℕ → List ℕ
caret b = 94 ∷ cond (eqb b 127) 63 (b + 64) ∷ []

-- 'a byte shows as itself; under ECHOCTL controls but 10 show as' a caret pair
abbrev pub visible : Settings → ℕ → List ℕ
visible x b = cond (x.echoctl && is_control b && not (eqb b 10)) (caret b) (b ∷ [])

-- 'ECHO clear: nothing is shown'
abbrev pub echo_of : Settings → ℕ → List ℕ
echo_of x b = cond x.echo (visible x b) []

-- 'except 10 when it is stored by step 9 under ECHONL and ICANON'
abbrev pub stored_echo : Settings → ℕ → List ℕ
stored_echo x b =
    cond x.echo (visible x b) (cond (eqb b 10 && x.echonl && x.icanon) (10 ∷ []) [])

-- '8,32,8 for each unit removed'
abbrev pub rubout : ℕ → List ℕ
rubout zero = []
rubout (suc n) = 8 ∷ 32 ∷ 8 ∷ rubout n

-- what REPRINT shows of a unit: nothing of one that had no echo; a doubled 255 once
abbrev pub unit_echo : Settings → List Place → List ℕ
unit_echo x [] = []
unit_echo x (p ∷ ps) = cond p.silent [] (visible x p.byte)

-- units newest first; what is shown, oldest first
abbrev pub line_echo : Settings → List (List Place) → List ℕ
line_echo x [] = []
line_echo x (u ∷ us) = line_echo x us ++ unit_echo x u

-- The character b removes n units of us, with ECHO set.
-- 'ERASE and WERASE under ECHOE show 8,32,8 for each unit removed, else their own echo. KILL: ECHOKE 8,32,8 for each unit;
-- else its echo, and 10 if ECHOK. REPRINT: its echo, 10, then each unit's echo again.'
abbrev pub edit_shows : Settings → Edit → ℕ → ℕ → List (List Place) → List ℕ
edit_shows x erase b n us = cond x.echoe (rubout n) (visible x b)
edit_shows x word_erase b n us = cond x.echoe (rubout n) (visible x b)
edit_shows x kill b n us = cond x.echoke (rubout n) (visible x b ++ cond x.echok (10 ∷ []) [])
edit_shows x reprint b n us = visible x b ++ 10 ∷ line_echo x us

abbrev pub edit_echo : Settings → Edit → ℕ → ℕ → List (List Place) → List ℕ
edit_echo x e b n us = cond x.echo (edit_shows x e b n us) []

-- 'Echo passes through output processing. If one event's echo does not fit whole, none is queued.'
abbrev pub shown : Sizes → State → List ℕ → State
shown z s bs =
    with_output s (queued_whole z.output s.settings s.output (processed s.settings s.output.column bs))
