-- What the code of this crate takes from specifications.
pub use Rattle.mscp_controller.specs.History.{Trace}
pub use Rattle.mscp_controller.specs.Holdings.{fresh}
pub use Rattle.mscp_drive.specs.Settings.{IsValid, Settings, bound}
pub use Rattle.mscp_judge.specs.Heard.{Gives, Heard, IsHeard, after_answer, after_lines, end_bytes, heard_log, hears, host_at, hosts_after_all, sends_on, silence, told, with_host}
pub use Rattle.mscp_judge.specs.Judged.{Breaks, Finds, HasLegalTrace, IsAhead, IsLegalVerdict, IsTold, Judges, JudgesLog, Passed, Tells}
pub use Rattle.mscp_judge.specs.Logs.{AreAnswers, Log, is_answer, nothing, telling}
pub use Rattle.mscp_judge.specs.Naming.{IsNamed, is_wanted}
pub use Rattle.mscp_judge.specs.Rights.{IsOpen, IsRightNext}
pub use Rattle.mscp_judge.specs.Rules.{IsStepRule, due_rule, is_service}
pub use Rattle.mscp_judge.specs.Standing.{BeginsWith, Came, HasShortLine, IsFirstLine, IsNamedAhead, IsSettled, Led, Stands, due, totals_of}
pub use Rattle.mscp_judge.specs.Starts.{starts_in}
pub use Rattle.mscp_judge.specs.Totals.{IsLarger, figure_queued}
pub use Rattle.mscp_judge.specs.declared.naming.Wanted.{Wanted}
pub use Rattle.mscp_judge.specs.declared.totals.Totals.{Totals}
pub use Rattle.mscp_reader.specs.Outcome.{asked_next}
pub use Rattle.mscp_reader.specs.Requests.{events_of}
pub use Rattle.mscp_reader.specs.declared.events.TheConstants.{MOST_EVENTS}
pub use Rattle.std.specs.List.{list_all}
