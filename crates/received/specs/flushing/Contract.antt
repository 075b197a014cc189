-- The input with 'literal next' so, and the output stopped so.
use Rattle.std.specs.Prelude.{Bool}
use Rattle.input.specs.declared.Input.{Input}
use Rattle.output.specs.declared.Output.{Output}

abbrev pub literal_to : Bool → Input → Input
literal_to l i = record { queue = i.queue; ready = i.ready; literal = l }

abbrev pub stop_to : Bool → Output → Output
stop_to t o = record { queue = o.queue; column = o.column; stopped = t }
