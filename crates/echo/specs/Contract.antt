-- What the functions of this crate promise: the output with these bytes echoed, whole or not at all.
use Rattle.std.specs.Prelude.{ℕ, Bool, cond, List, [], ◌∷◌, ◌++◌}
use Rattle.rules.specs.declared.Settings.{Settings}
use Rattle.echo.specs.declared.Seen.{Seen}
use Rattle.echo.specs.declared.Seen.TheVariants.{Itself, Caret}
use Rattle.rules.specs.Echo.{visible, rubout}

-- a byte as itself, or a caret pair
abbrev pub seen_bytes : Seen → List ℕ
seen_bytes (Itself b) = b ∷ []
seen_bytes (Caret b) = 94 ∷ b ∷ []

---- What an edit shows

-- what an edit shows by the character b, n units gone: each is rubbed out, or b shows, with 10 behind it or not
abbrev pub removed_echo : Settings → ℕ → ℕ → Bool → Bool → List ℕ
removed_echo x b n rubs line = cond x.echo (cond rubs (rubout n) (visible x b ++ cond line (10 ∷ []) [])) []

-- what ERASE and WERASE show by the character b, n units gone; what KILL shows
abbrev pub erased_echo : Settings → ℕ → ℕ → List ℕ
erased_echo x b n = cond x.echo (cond x.echoe (rubout n) (visible x b)) []

abbrev pub killed_echo : Settings → ℕ → ℕ → List ℕ
killed_echo x b n = cond x.echo (cond x.echoke (rubout n) (visible x b ++ cond x.echok (10 ∷ []) [])) []
