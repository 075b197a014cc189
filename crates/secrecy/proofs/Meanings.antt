-- What a good byte means: a plain one is stored and shows nothing; none erases a word; a renaming that leaves the byte alone leaves
-- what it means alone.
use Prim.Native.Nat.{ℕ, ◌<◌}
use mathlib.Core.Path.{◌≡◌, refl, sym, ap, ap₂, ◌∙◌}
use mathlib.Core.Bool.{Bool, true, false, not, ◌&&◌, ◌||◌, cond, true≢false, and-false}
use mathlib.Core.List.{List, [], ◌∷◌, map}
use lib.Dec.{eqb}
use native.Mathlib.Omega.{arith}
use borrow.Author.Tests.{eqb-true}
use Rattle.secrecy.specs.Types.{Settings}
use Rattle.rules.specs.Settings.{elem, enabled, is, enabled_of, characters}
use Rattle.rules.specs.Echo.{stored_echo}
use Rattle.rules.specs.Received.{Meaning, ends, stores, doubled, plainly, step9, step8, mapped, step7, step4, step3}
use Rattle.rules.proofs.Truth.{either, or_false}
use Rattle.secrecy.specs.Statement.{reserved}
use Rattle.secrecy.proofs.Rename.{Blind, meant}

---- A plain byte

-- b is none of the special characters cs that are enabled
abbrev NoneIs : ℕ → List ℕ → Type 0
NoneIs b [] = Unit {0}
NoneIs b (c ∷ cs) = (is b c ≡ false) × NoneIs b cs

none_more : (b c : ℕ) (cs : List ℕ) (t : Bool) → (elem b (enabled_of cs) ≡ false → NoneIs b cs)
    → elem b (cond t (c ∷ enabled_of cs) (enabled_of cs)) ≡ false → ((eqb b c && t) ≡ false) × NoneIs b cs
none_more b c cs true rest e =
    let p : (eqb b c ≡ false) × (elem b (enabled_of cs) ≡ false) = or_false _ _ e in
    (ap (λ (t : Bool). t && true) p.0, rest p.1)
none_more b c cs false rest e = (and-false (eqb b c), rest e)

none_is : (b : ℕ) (cs : List ℕ) → elem b (enabled_of cs) ≡ false → NoneIs b cs
none_is b [] e = tt
none_is b (c ∷ cs) e = none_more b c cs (enabled c) (none_is b cs) e

-- 10, 13 and 255 are reserved
newline_reserved : (x : Settings) → elem 10 (reserved x) ≡ true
newline_reserved x = refl

return_reserved : (x : Settings) → elem 13 (reserved x) ≡ true
return_reserved x = refl

reserved_255 : (x : Settings) → elem 255 (reserved x) ≡ true
reserved_255 x = refl

not_in : (b c : ℕ) (l : List ℕ) → elem b l ≡ false → elem c l ≡ true → eqb b c ≡ false
not_in b c l e d = go (eqb b c) refl
  where
    go : (t : Bool) → eqb b c ≡ t → t ≡ false
    go true h = absurd (true≢false (sym d ∙ ap (λ (n : ℕ). elem n l) (sym (eqb-true b c h)) ∙ e))
    go false h = refl

-- and so are the special characters that are enabled
special_apart : (x : Settings) (b : ℕ) → elem b (reserved x) ≡ false → NoneIs b (characters x)
special_apart x b e =
    let l : List ℕ = enabled_of (characters x) in
    none_is b (characters x)
    (or_false (eqb b 255) (elem b l) (or_false (eqb b 13) (elem b (255 ∷ l)) (or_false (eqb b 10) (elem b (13 ∷ 255 ∷ l)) e).1).1).1

-- what is asked of a plain byte, apart
record Apart (x : Settings) (b : ℕ) : Type 0 where
  newline : eqb b 10 ≡ false
  return : eqb b 13 ≡ false
  all_ones : eqb b 255 ≡ false
  special : NoneIs b (characters x)

apart : (x : Settings) (b : ℕ) → elem b (reserved x) ≡ false → Apart x b
apart x b e =
    record {
      newline = not_in b 10 (reserved x) e (newline_reserved x);
      return = not_in b 13 (reserved x) e (return_reserved x);
      all_ones = not_in b 255 (reserved x) e (reserved_255 x);
      special = special_apart x b e;
    }

plainly_stores : (x : Settings) (b : ℕ) → x.echo ≡ false → Apart x b → plainly x b ≡ stores b [] []
plainly_stores x b h a = rw (h, a.newline, a.all_ones)

step7_stores : (x : Settings) (b : ℕ) → x.echo ≡ false → Apart x b → step7 x b ≡ stores b [] []
step7_stores x b h a =
    let c : NoneIs b (characters x) = a.special in
    simp (
      and-false,
      h,
      a.newline,
      a.return,
      a.all_ones,
      c.0,
      c.1.0,
      c.1.1.0,
      c.1.1.1.0,
      c.1.1.1.1.0,
      c.1.1.1.1.1.0,
      c.1.1.1.1.1.1.0,
    )

step4_stores : (x : Settings) (b : ℕ) → x.echo ≡ false → Apart x b → step4 x b ≡ stores b [] []
step4_stores x b h a =
    let c : NoneIs b (characters x) = a.special in
    let d : NoneIs b (x.intr ∷ x.quit ∷ x.susp ∷ x.start ∷ x.stop ∷ x.lnext ∷ []) = c.1.1.1.1.1.1.1 in
    simp (and-false, d.0, d.1.0, d.1.1.0, d.1.1.1.0, d.1.1.1.1.0, d.1.1.1.1.1.0) (step7_stores x b h a)

pub plain_stores : (x : Settings) (l : Bool) (b : ℕ) → x.echo ≡ false → elem b (reserved x) ≡ false
    → step3 x l b ≡ stores b [] []
plain_stores x true b h e = plainly_stores x b h (apart x b e)
plain_stores x false b h e = step4_stores x b h (apart x b e)

---- With WERASE disabled no byte erases a word

disabled : (b c : ℕ) → c ≡ 255 → is b c ≡ false
disabled b c e = rw e (and-false (eqb b 255))

blind9 : (x : Settings) (b : ℕ) → Blind (step9 x b)
blind9 x b =
    either Blind (x.icanon && (eqb b 10 || is b x.eol || is b x.eol2)) tt (either Blind (x.icanon && is b x.eof) tt tt)

no_word : (x : Settings) (b : ℕ) → x.werase ≡ 255 → (x.icanon && is b x.werase) ≡ false
no_word x b e = ap (λ (t : Bool). x.icanon && t) (disabled b x.werase e) ∙ and-false x.icanon

blind8 : (x : Settings) (b : ℕ) → x.werase ≡ 255 → Blind (step8 x b)
blind8 x b e =
    either Blind (x.icanon && is b x.erase) tt
    (rw (no_word x b e)
    (either Blind (x.icanon && is b x.kill) tt (either Blind (x.icanon && is b x.reprint) tt (blind9 x b))))

pub blind : (x : Settings) (l : Bool) (b : ℕ) → x.werase ≡ 255 → Blind (step3 x l b)
blind x true b e = tt
blind x false b e =
    either Blind (x.iexten && is b x.lnext) tt
    (either Blind (x.isig && is b x.intr) tt
    (either Blind (x.isig && is b x.quit) tt
    (either Blind (x.isig && is b x.susp) tt
    (either Blind (x.ixon && is b x.stop) tt
    (either Blind (x.ixon && is b x.start) tt
    (either Blind (eqb b 13 && x.igncr) tt (blind8 x (mapped x b) e)))))))

---- A renaming that leaves bytes alone, and the byte in question

module _ (f : ℕ → ℕ) (bytes : (n : ℕ) → n < 256 → f n ≡ n) where
  abbrev Left : Meaning → Type 0
  Left m = meant f m ≡ m

  doubled_left : (x : Settings) (b : ℕ) → map f (doubled x b) ≡ doubled x b
  doubled_left x b =
      either (λ (l : List ℕ). map f l ≡ l) (eqb b 255 && x.parmrk && not x.ignpar && not x.istrip) (ap (λ (n : ℕ). n ∷ []) (bytes 255 (omega arith)))
      refl

  plainly_left : (x : Settings) (b : ℕ) → f b ≡ b → Left (plainly x b)
  plainly_left x b e = ap₂ (λ (n : ℕ) (more : List ℕ). stores n more (stored_echo x b)) e (doubled_left x b)

  left8 : (x : Settings) (b : ℕ) → f b ≡ b → Left (step8 x b)
  left8 x b e =
      either Left (x.icanon && is b x.erase) refl
      (either Left (x.icanon && is b x.werase) refl
      (either Left (x.icanon && is b x.kill) refl
      (either Left (x.icanon && is b x.reprint) refl
      (either Left (x.icanon && (eqb b 10 || is b x.eol || is b x.eol2)) (ap (λ (n : ℕ). ends n (stored_echo x b)) e)
      (either Left (x.icanon && is b x.eof) refl (plainly_left x b e))))))

  mapped_left : (x : Settings) (b : ℕ) → f b ≡ b → f (mapped x b) ≡ mapped x b
  mapped_left x b e =
      either (λ (n : ℕ). f n ≡ n) (eqb b 13 && x.icrnl) (bytes 10 (omega arith))
      (either (λ (n : ℕ). f n ≡ n) (eqb b 10 && x.inlcr) (bytes 13 (omega arith)) e)

  pub meaning_left : (x : Settings) (l : Bool) (b : ℕ) → f b ≡ b → meant f (step3 x l b) ≡ step3 x l b
  meaning_left x true b e = plainly_left x b e
  meaning_left x false b e =
      either Left (x.iexten && is b x.lnext) refl
      (either Left (x.isig && is b x.intr) refl
      (either Left (x.isig && is b x.quit) refl
      (either Left (x.isig && is b x.susp) refl
      (either Left (x.ixon && is b x.stop) refl
      (either Left (x.ixon && is b x.start) refl
      (either Left (eqb b 13 && x.igncr) refl (left8 x (mapped x b) (mapped_left x b e))))))))
