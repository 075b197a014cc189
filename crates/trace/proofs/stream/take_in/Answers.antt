-- `trace::stream::take_in` meets its contract. Assumes nothing.
use mathlib.Core.Logic.{inl, inr}
use mathlib.Core.Path.{sym, ◌∙◌}
use borrow.Author.Tests.{eqb-true, eqb-false}
use Rattle.std.proofs.Common.{rules}
use Rattle.trace.proofs.stream.Taking.{takes_nothing, takes_full, takes_open, takes_complete}
use Rattle.trace.proofs.stream.take_in.Goals as goal
use Rattle.trace.proofs.stream.take_in.Goals.{then-stream-via-then-stream, then-stream-via-else-stream+then-is_empty}

pub returns-then-stream : goal.returns-then-stream
returns-then-stream c =
    takes_nothing (elim c.then-stream.branch [
      | then-stream-via-then-stream w ↦ inl w.if-stream.true
      | then-stream-via-else-stream+then-is_empty w ↦ inr (eqb-true _ 0 (sym w.is_empty.ensures ∙ w.if-is_empty.true))
    ])

pub returns-then-stream-ge-MOST : goal.returns-then-stream-ge-MOST
returns-then-stream-ge-MOST c =
    takes_full c.if-stream.false (eqb-false _ 0 (sym c.is_empty.ensures ∙ c.if-is_empty.false)) c.if-stream-ge-MOST.true c.put_full-length.ensures

pub returns-then-is_open : goal.returns-then-is_open
returns-then-is_open c =
    takes_open c.if-stream.false c.if-stream-ge-MOST.false c.begun-begun.ensures.value c.gather-used.ensures (search rules)

pub returns-else-is_open : goal.returns-else-is_open
returns-else-is_open c =
    takes_complete c.if-stream.false c.if-stream-ge-MOST.false c.begun-begun.ensures.value c.gather-used.ensures (cc)
