-- `received::hangs_up` meets its contract. Assumes nothing.
use Rattle.received.proofs.Events.{reports_of_lem, hung_up_lem}
use Rattle.received.proofs.hangs_up.Goals as goal

pub returns : goal.returns
returns c =
    λ bs ms eb em.
    reports_of_lem _ _ _ _ _ _ _ _ _ _ _ c.reports.ensures
    (hung_up_lem _ _ _ _ _ c.flush_both-flushed.ensures c.hung_up.ensures bs ms eb em)
