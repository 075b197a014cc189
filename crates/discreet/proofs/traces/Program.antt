-- Demand 3 of the trace program follows from that of traces, since what is written is the rules' trace of the whole input. Assumes nothing.
use Prim.Native.Nat.{ℕ}
use mathlib.Core.Path.{◌≡◌, ap, ◌∙◌}
use mathlib.Core.List.{List}
use Rattle.rules.specs.Trace.{trace}
use Rattle.trace.proofs.stream.Pieces.{writes_the_whole}
use Rattle.discreet.specs.traces.Program.{Caller, Demand3Program}
use Rattle.discreet.proofs.traces.Theorem.{demand_3_traces}

wrote : (input t : List ℕ) → Caller input t → t ≡ trace input
wrote input t c =
    writes_the_whole c.pieces c.bytes c.marks c.out c.kept t c.sizes.0 c.sizes.1 c.sizes.2 c.writes ∙ ap trace c.whole

-- DEMAND 3 of the program
pub demand_3_program : Demand3Program
demand_3_program before rs ts tail t u q ds e a b =
    let (l, m, f, s, p) = demand_3_traces before rs ts tail q ds e in (l, m, wrote _ t a ∙ f, wrote _ u b ∙ s, p)
