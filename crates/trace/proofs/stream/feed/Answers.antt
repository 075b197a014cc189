-- `trace::stream::feed` meets its contract. Assumes nothing.
use Rattle.trace.proofs.stream.Feeding.{feeds_record}
use Rattle.trace.proofs.stream.feed.Goals as goal

pub returns-in-Complete : goal.returns-in-Complete
returns-in-Complete c = feeds_record c.in-Complete.ensures c.kind_of-kind.ensures c.end_of.ensures c.record-recorded.ensures
