-- What the writers of lines promise.
use Rattle.std.specs.Prelude.{ℕ, ◌≡◌, List, [], ◌++◌}
use Rattle.records.specs.lines.Puts.{Puts}
use Rattle.records.specs.declared.lines.Line.{Line}
use Rattle.rules.specs.declared.Answer.{Answer}
use Rattle.rules.specs.declared.Refusal.{Refusal}
use Rattle.rules.specs.Refusals.{Reply, number_of}
use Rattle.rules.specs.Trace.{text, decimal, line}

-- the reply with this answer and these bytes handed out
abbrev pub reply_of : Answer → List ℕ → Reply
reply_of a given = record { answer = a; sent = []; given = given }

abbrev pub line_of : ℕ → ℕ → Answer → List ℕ → List ℕ
line_of index kind a given = line index kind (reply_of a given)

-- Below: what the private functions promise.

abbrev pub refusal_word : Refusal → List ℕ
refusal_word r = text "r" ++ decimal (number_of r)

-- the text t laid behind what the line l has
pub record Lays (l : Line) (t : List ℕ) (m : Line) : Type 0 where
  pub same : m.buffer.ghost_name ≡ l.buffer.ghost_name
  pub puts : Puts l.buffer.now l.at t m.at m.buffer.now
