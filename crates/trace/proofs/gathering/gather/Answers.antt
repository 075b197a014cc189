-- `trace::gathering::gather` meets its contract. Assumes nothing.
use Prim.Native.Nat.{◌+◌}
use mathlib.Core.Path.{sym, ◌∙◌}
use native.Mathlib.Omega.{arith}
use borrow.Author.Tests.{ltb-true}
use Rattle.trace.specs.gathering.Contract.{size_of}
use Rattle.trace.proofs.gathering.Laws.{gathering_next, gathers_past}
use Rattle.trace.proofs.gathering.gather.Goals as goal

pub returns-then-have-at-ge-KEPT : goal.returns-then-have-at-ge-KEPT
returns-then-have-at-ge-KEPT c =
    let l = c.loop-at in
    let short = ltb-true (c.args.have + l.at) (size_of l.kept) (sym c.is_open.ensures.value ∙ c.if-not-is_open.false) in
    gathers_past (omega (arith, c.size.ensures.value, c.size.ensures.upper_bound)) l.at c.min.result l.invariant c.if-have-at-ge-KEPT.true
    c.loop-at-test.true short (omega (arith, c.size.ensures.value, c.min.ensures))

pub loop-at-preserved : goal.loop-at-preserved
loop-at-preserved c =
    let incomplete = c.if-not-is_open.false in
    gathering_next c.loop-at.invariant c.loop-at-test.true (sym c.is_open.ensures.value ∙ incomplete) (c.is_open.ensures.have_lt_most_size incomplete)
    c.keep.ensures
