-- The types of src/lib.rt under short names, for every file that cites them.
pub use Rattle.rules.specs.declared.Settings.{Settings}
pub use Rattle.rules.specs.declared.Event.{Event}
pub use Rattle.rules.specs.declared.Event.TheVariants.{Good, Parity, Framing, Break, Tick, Hangup}
pub use Rattle.rules.specs.declared.Process.{Process}
pub use Rattle.rules.specs.declared.Call.{Call}
pub use Rattle.rules.specs.declared.Call.TheVariants.{Set, Receive, Read, Write, Transmit, Flush, Cancel, Foreground, ReadVerdict}
pub use Rattle.rules.specs.declared.Call.TheVariants.{WriteVerdict, SettingsVerdict}
pub use Rattle.rules.specs.declared.Signal.{Signal}
pub use Rattle.rules.specs.declared.Signal.TheVariants.{Int, Quit, Tstp, Hup}
pub use Rattle.rules.specs.declared.Verdict.{Verdict}
pub use Rattle.rules.specs.declared.Verdict.TheVariants.{Allowed, Eio, Ttin, Ttou}
pub use Rattle.rules.specs.declared.Refusal.{Refusal}
pub use Rattle.rules.specs.declared.Refusal.TheVariants.{BadSettings, OutOfRange, Nothing, ReadWaits, HungUp}
pub use Rattle.rules.specs.declared.Outcome.{Outcome}
pub use Rattle.rules.specs.declared.Outcome.TheVariants.{Ok, Wait, Reports, Judged, Refused}
pub use Rattle.rules.specs.declared.Answer.{Answer}
pub use Rattle.rules.specs.declared.Group.{Group}
pub use Rattle.rules.specs.declared.Timer.{Timer}
pub use Rattle.rules.specs.declared.Waiting.{Waiting}
pub use Rattle.rules.specs.declared.Waiting.TheVariants.{Idle, Untimed, Timed}
pub use Rattle.rules.specs.declared.Class.{Class}
pub use Rattle.rules.specs.declared.Class.TheVariants.{Blank, Letter, Control, Other}
