-- What ERASE, WERASE, KILL and REPRINT promise of a port.
use Rattle.std.specs.Prelude.{ℕ, ◌≡◌, Bool, true, false, List, length}
use Rattle.rules.specs.Sizes.{Sizes, State}
use Rattle.rules.specs.Editing.{Edit, removed, units}
use Rattle.rules.specs.Received.{edit_on}
use Rattle.input.specs.Contract.{shortened}
use Rattle.editing.specs.Contract.{Removes}
use Rattle.editing.specs.declared.Run.{Run}
use Rattle.output.specs.declared.Output.{Output}
use Rattle.port.specs.State.{with_output}
use Rattle.port.specs.declared.Port.{Port}
use Rattle.port.specs.Layers.{state, sizes_of, units_of, assembled, Becomes}

-- the port with its line cut where the run begins
abbrev pub without : Port → Run → Port
without p run = assembled p (shortened run.at p.input) p.output p.waiting

-- what is left of an edit by a run: on an empty line all; else the line is cut, and the output is one that Shows says
abbrev pub Removed : Bool → (List ℕ → Output → List ℕ → Type 0) → Port → Run → List ℕ → Port → List ℕ → Type 0
Removed true Shows p run os r os' = (r ≡ p) × (os' ≡ os)
Removed false Shows p run os r os' = (o : Output) × Shows os o os' × (r ≡ with_output (without p run) o)

-- the edit e by the character b
abbrev pub edits : Edit → ℕ → Sizes → State → State
edits e b z s = edit_on (units s.input.current) z s e b

-- The run is what the edit e removes: then the port is the rules' state after it.
abbrev pub Edited : Port → ℕ → List ℕ → Run → ℕ → Port → List ℕ → Edit → Type 0
Edited p n os run b r os' e =
    (bs ms : List ℕ) → length bs ≡ n → length ms ≡ n → Removes p.input bs ms (removed p.settings e (units_of p bs ms)) run
    → Becomes p bs ms os (edits e b (sizes_of p n (length os)) (state p bs ms os)) r bs ms os'
