-- `discipline::step` meets its contract. Assumes nothing.
use Rattle.discipline.proofs.Laws.{called, steps_set, steps_receive, steps_read, steps_write, steps_transmit, steps_flush, steps_cancel}
use Rattle.discipline.proofs.Laws.{steps_foreground, steps_read_verdict, steps_write_verdict, steps_settings_verdict}
use Rattle.discipline.proofs.step.Goals as goal

pub returns-in-Set : goal.returns-in-Set
returns-in-Set c = called _ _ _ _ c.in-Set.is (steps_set _ _ _ _ _ _ _ _ _ c.set.ensures)

pub returns-in-Receive : goal.returns-in-Receive
returns-in-Receive c = called _ _ _ _ c.in-Receive.is (steps_receive _ _ _ _ _ _ _ _ _ _ c.receive.ensures)

pub returns-in-Read : goal.returns-in-Read
returns-in-Read c = called _ _ _ _ c.in-Read.is (steps_read _ _ _ _ _ _ _ _ c.read.ensures)

pub returns-in-Write : goal.returns-in-Write
returns-in-Write c = called _ _ _ _ c.in-Write.is (steps_write _ _ _ _ _ _ _ _ c.write.ensures)

pub returns-in-Transmit : goal.returns-in-Transmit
returns-in-Transmit c = called _ _ _ _ c.in-Transmit.is (steps_transmit _ _ _ _ _ _ _ c.transmit.ensures)

pub returns-in-Flush : goal.returns-in-Flush
returns-in-Flush c = called _ _ _ _ c.in-Flush.is (steps_flush _ _ _ _ _ _ _ c.flush.ensures)

pub returns-in-Cancel : goal.returns-in-Cancel
returns-in-Cancel c = called _ _ _ _ c.in-Cancel.is (steps_cancel _ _ _ _ _ _ c.cancel.ensures)

pub returns-in-Foreground : goal.returns-in-Foreground
returns-in-Foreground c = called _ _ _ _ c.in-Foreground.is (steps_foreground _ _ _ _ _ _ _ _ c.foreground.ensures)

pub returns-in-ReadVerdict : goal.returns-in-ReadVerdict
returns-in-ReadVerdict c = called _ _ _ _ c.in-ReadVerdict.is (steps_read_verdict _ _ _ _ _ _ _ c.read_verdict.ensures)

pub returns-in-WriteVerdict : goal.returns-in-WriteVerdict
returns-in-WriteVerdict c = called _ _ _ _ c.in-WriteVerdict.is (steps_write_verdict _ _ _ _ _ _ _ c.write_verdict.ensures)

pub returns-in-SettingsVerdict : goal.returns-in-SettingsVerdict
returns-in-SettingsVerdict c = called _ _ _ _ c.in-SettingsVerdict.is (steps_settings_verdict _ _ _ _ _ _ _ c.settings_verdict.ensures)
