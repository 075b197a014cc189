-- A fresh port is the fresh state. Assumes nothing.
use Prim.Native.Nat.{ℕ, ◌≤◌}
use native.Mathlib.Omega.{arith}
use mathlib.Core.Bool.{false}
use mathlib.Core.Path.{◌≡◌, refl, ap₂}
use mathlib.Core.List.{List, [], ◌∷◌, reverse}
use lib.ListN.{length, take, drop}
use Rattle.queue.specs.Queue.{held as held_in, laid}
use Rattle.queue.proofs.Laws.{held_length}
use Rattle.std.specs.Prelude.{None}
use Rattle.rules.specs.declared.Waiting.TheVariants.{Idle}
use Rattle.rules.specs.Settings.{defaults, fresh}
use Rattle.input.specs.Contract as input
use Rattle.output.specs.Contract as output
use Rattle.port.specs.State.{place_bytes, place_marks, get}
use Rattle.port.specs.Sending as port

no_bytes : (l : List ℕ) → length l ≤ 0 → l ≡ []
no_bytes [] le = refl
no_bytes (b ∷ l) le = absurd (omega arith)

-- a fresh port with any slices is the fresh state
pub fresh_state : (bs ms os : List ℕ) → get port.fresh bs ms os ≡ fresh
unfolding get input.get input.all output.get
fresh_state bs ms os =
    let none : (l : List ℕ) → held_in (laid 0 []) l ≡ [] = λ l. no_bytes (held_in (laid 0 []) l) (omega (arith, held_length (laid 0 []) l)) in
    ap₂ (λ (l o : List ℕ). record {
      settings = defaults;
      input = record {
        finished = take 0 (input.places l (held_in (laid 0 []) (place_marks bs ms)));
        current =
            reverse (drop 0 (input.places l (held_in (laid 0 []) (place_marks bs ms))));
        literal_next = false;
      };
      output = record { queue = o; column = 0; stopped = false };
      foreground = None;
      hung_up = false;
      waiting = Idle;
    }) (none (place_bytes bs ms)) (none os)
