-- What a record asks for, by its kind. Assumes nothing.
use Prim.Native.Nat.{ℕ, ◌<◌}
use native.Mathlib.Omega.{arith}
use mathlib.Core.Path.{◌≡◌, refl}
use mathlib.Core.Bool.{Bool, true, false, ◌&&◌, cond, false≢true}
use mathlib.Core.List.{List, [], ◌∷◌}
use lib.ListN.{length, length-replicate}
use lib.Dec.{leb, ltb, eqb}
use borrow.Author.Tests.{leb-true, eqb-true}
use Rattle.rules.specs.declared.Call.{Call}
use Rattle.rules.specs.declared.Call.TheVariants.{Receive, Write, Flush, Cancel, Foreground}
use Rattle.rules.specs.declared.Event.{Event}
use Rattle.rules.specs.declared.Event.TheVariants.{Good, Parity, Framing, Break, Tick, Hangup}
use Rattle.rules.specs.Trace as trace
use Rattle.rules.specs.Trace.{Decoded, well_formed, malformed, decode}
use Rattle.rules.specs.Asked.{ReadBy, Asked}

left_true : (a b : Bool) → (a && b) ≡ true → a ≡ true
left_true true b e = refl
left_true false b e = absurd (false≢true e)

module _ (kind : ℕ) where
  either : (body : List ℕ) (t : Bool) (a b : Decoded) → (t ≡ true → Asked kind body a) → Asked kind body b → Asked kind body (cond t a b)
  either body true a b h k = h refl
  either body false a b h k = k

  settings_asks : (body : List ℕ) → Asked kind body (trace.settings_record body)
  settings_asks [] = tt
  settings_asks (a ∷ []) = tt
  settings_asks (a ∷ b ∷ []) = tt
  settings_asks (a ∷ b ∷ c ∷ []) = tt
  settings_asks (a ∷ b ∷ c ∷ d ∷ values) = by (eqb (length values) 15) refl
    where
      by : (t : Bool) → eqb (length values) 15 ≡ t → Asked kind (a ∷ b ∷ c ∷ d ∷ values) (trace.settings_record_on t (trace.four a b c d) values)
      by true e = record { short = omega (arith, eqb-true (length values) 15 e); few = omega arith; read = tt }
      by false e = tt

  byte_asks : (e : ℕ → Event) (body : List ℕ) → Asked kind body (trace.byte_record e body)
  byte_asks e [] = tt
  byte_asks e (b ∷ []) = record { short = omega arith; few = omega arith; read = tt }
  byte_asks e (b ∷ c ∷ bs) = tt

  empty_asks : (c : Call) (body : List ℕ) → ReadBy kind c → Asked kind body (trace.empty_record c body)
  empty_asks c [] r = record { short = omega arith; few = omega arith; read = r }
  empty_asks c (b ∷ bs) r = tt

  read_asks : (body : List ℕ) → kind ≡ 8 → Asked kind body (trace.read_record body)
  read_asks [] k = tt
  read_asks (a ∷ []) k = tt
  read_asks (a ∷ b ∷ []) k = tt
  read_asks (a ∷ b ∷ c ∷ []) k = by (leb (trace.two a b) 1024 && trace.is_flag c) refl
    where
      by : (t : Bool) → (leb (trace.two a b) 1024 && trace.is_flag c) ≡ t → Asked kind (a ∷ b ∷ c ∷ []) (trace.read_record_on t (trace.two a b) c)
      by true e =
          record {
            short = omega arith;
            few = omega (
              arith,
              length-replicate {A = ℕ} (trace.two a b) 0,
              leb-true (trace.two a b) 1024 (left_true (leb (trace.two a b) 1024) (trace.is_flag c) e),
            );
            read = k;
          }
      by false e = tt
  read_asks (a ∷ b ∷ c ∷ d ∷ bs) k = tt

  write_asks : (body : List ℕ) → Asked kind body (trace.write_record body)
  write_asks body =
      either body (leb (length body) 512) (trace.asks Write body) malformed
      (λ e. record { short = leb-true (length body) 512 e; few = omega (arith, leb-true (length body) 512 e); read = tt }) tt

  transmit_asks : (body : List ℕ) → Asked kind body (trace.transmit_record body)
  transmit_asks [] = tt
  transmit_asks (a ∷ []) = tt
  transmit_asks (a ∷ b ∷ []) = by (leb (trace.two a b) 2048) refl
    where
      by : (t : Bool) → leb (trace.two a b) 2048 ≡ t → Asked kind (a ∷ b ∷ []) (trace.transmit_record_on t (trace.two a b))
      by true e =
          record { short = omega arith; few = omega (arith, length-replicate {A = ℕ} (trace.two a b) 0, leb-true (trace.two a b) 2048 e); read = tt }
      by false e = tt
  transmit_asks (a ∷ b ∷ c ∷ bs) = tt

  flush_asks : (body : List ℕ) → Asked kind body (trace.flush_record body)
  flush_asks [] = tt
  flush_asks (a ∷ []) =
      either (a ∷ []) (ltb 0 a && leb a 3) (trace.asks (Flush a) []) malformed (λ e. record { short = omega arith; few = omega arith; read = tt }) tt
  flush_asks (a ∷ b ∷ bs) = tt

  foreground_asks : (body : List ℕ) → Asked kind body (trace.foreground_record body)
  foreground_asks [] = tt
  foreground_asks (a ∷ []) = tt
  foreground_asks (a ∷ b ∷ []) = tt
  foreground_asks (a ∷ b ∷ c ∷ []) = tt
  foreground_asks (a ∷ b ∷ c ∷ d ∷ []) = tt
  foreground_asks (a ∷ b ∷ c ∷ d ∷ e ∷ []) =
      either (a ∷ b ∷ c ∷ d ∷ e ∷ []) (leb (trace.four a b c d) 2147483647 && trace.is_flag e) (trace.asks (Foreground (trace.four a b c d) (trace.flag e)) [])
      malformed (λ w. record { short = omega arith; few = omega arith; read = tt }) tt
  foreground_asks (a ∷ b ∷ c ∷ d ∷ e ∷ f ∷ bs) = tt

  pub asked_of : (body : List ℕ) → Asked kind body (decode kind body)
  asked_of body =
      either body (eqb kind 1) (trace.settings_record body) _ (λ e. settings_asks body)
      (either body (eqb kind 2) (trace.byte_record Good body) _ (λ e. byte_asks Good body)
      (either body (eqb kind 3) (trace.byte_record Parity body) _ (λ e. byte_asks Parity body)
      (either body (eqb kind 4) (trace.byte_record Framing body) _ (λ e. byte_asks Framing body)
      (either body (eqb kind 5) (trace.empty_record (Receive Break) body) _ (λ e. empty_asks (Receive Break) body tt)
      (either body (eqb kind 6) (trace.empty_record (Receive Tick) body) _ (λ e. empty_asks (Receive Tick) body tt)
      (either body (eqb kind 7) (trace.empty_record (Receive Hangup) body) _ (λ e. empty_asks (Receive Hangup) body tt)
      (either body (eqb kind 8) (trace.read_record body) _ (λ e. read_asks body (eqb-true kind 8 e))
      (either body (eqb kind 9) (trace.write_record body) _ (λ e. write_asks body)
      (either body (eqb kind 10) (trace.transmit_record body) _ (λ e. transmit_asks body)
      (either body (eqb kind 11) (trace.flush_record body) _ (λ e. flush_asks body)
      (either body (eqb kind 12) (trace.empty_record Cancel body) _ (λ e. empty_asks Cancel body tt)
      (either body (eqb kind 13) (trace.foreground_record body) _ (λ e. foreground_asks body) tt))))))))))))

-- 'wrong lengths ... are malformed': a body of more than 512 bytes
pub long_malformed : (kind : ℕ) (body : List ℕ) → 512 < length body → decode kind body ≡ malformed
long_malformed kind body lt = by (decode kind body) (asked_of kind body)
  where
    by : (d : Decoded) → Asked kind body d → d ≡ malformed
    by (well_formed a) k = absurd (omega (arith, k.short))
    by malformed k = refl
