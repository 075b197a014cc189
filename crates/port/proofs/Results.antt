-- A call on the output: no second result meets its promise, and a port with its output replaced is the rules' state.
-- Assumes nothing.
use mathlib.Core.Path.{◌≡◌, sym, ap, ◌∙◌}
use mathlib.Core.List.{List}
use Prim.Native.Nat.{ℕ, ◌≤◌}
use lib.ListN.{length}
use Rattle.queue.specs.Ring.{stores}
use Rattle.rules.specs.Sizes.{Output as Ruled, with_output as output_replaced}
use Rattle.output.specs.Contract as output
use Rattle.output.proofs.Laws as law
use Rattle.port.specs.State.{get, with_output}
use Rattle.port.specs.Sending.{Outcomes, result}
use Rattle.port.specs.declared.Port.{Port}
use Rattle.port.specs.declared.Answered.{Answered}

pub one_answer : (o : Outcomes) (r q : Answered) (m k d e : List ℕ) → result r m d ≡ o → result q k e ≡ o → (r ≡ q) × (m ≡ k) × (d ≡ e)
one_answer o r q m k d e a b =
    let s : result r m d ≡ result q k e = a ∙ sym b in
    (ap (λ (y : Outcomes). record { port = y.port; answer = y.answer }) s, ap (λ (y : Outcomes). y.slice) s, ap (λ (y : Outcomes). y.lent) s)

-- the port with its output replaced, as a state
pub get_with : (p : Port) (bs ms os : List ℕ) (w : Ruled) (h : ℕ) → length w.queue ≤ length os
    → get (with_output p (output.put w h)) bs ms (stores (length os) os h w.queue) ≡ output_replaced (get p bs ms os) w
unfolding get
get_with p bs ms os w h le = ap (output_replaced (get p bs ms os)) (law.get_put w h os le)
