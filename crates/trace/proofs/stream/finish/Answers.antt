-- `trace::stream::finish` meets its contract. Assumes nothing.
use Rattle.std.proofs.Common.{rules}
use Rattle.trace.proofs.stream.Laws.{last_full, last_cut}
use Rattle.trace.proofs.stream.finish.Goals as goal

pub returns-then-stream-ge-MOST : goal.returns-then-stream-ge-MOST
returns-then-stream-ge-MOST c =
    record {
      prints =
          last_full c.args.stream c.args.kept.now c.if-stream.false c.begun.ensures.value c.if-begun-eq0.false c.if-stream-ge-MOST.true c.put_full.ensures;
      kept_len = search rules;
    }

pub returns : goal.returns
returns c =
    record {
      prints =
          last_cut c.args.stream c.args.kept.now c.if-stream.false c.begun.ensures.value c.if-begun-eq0.false c.if-stream-ge-MOST.false c.put_cut.ensures;
      kept_len = search rules;
    }
