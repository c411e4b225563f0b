-- What comes of a begin, a finish and a step. The picker leaves a choice, so each is a relation.
use Rattle.std.specs.Prelude.{◌≡◌, ℕ, ℤ, Option, Result, Ok, Err}
use Rattle.mscp_drive.specs.declared.block.Block.{Block}
use Rattle.mscp_drive.specs.declared.connection.Connection.{Connection}
use Rattle.mscp_queue.specs.declared.report.Report.{Report}
use Rattle.mscp_queue.specs.declared.upcoming.Upcoming.{Upcoming}
use Rattle.mscp_queue.specs.Names.{name_on}
use Rattle.mscp_controller.specs.declared.entry.NotBegun.{NotBegun}
use Rattle.mscp_controller.specs.Holdings as controllers
use Rattle.mscp_memory.specs.ControllerHandles.{Handle, with_held}
use Rattle.mscp_memory.specs.Policies.{PolicyPicks}
use Rattle.mscp_c.specs.declared.status.TheConstants.{NOT_BEGUN}
use Rattle.mscp_c.specs.declared.outs.UpcomingOut.{UpcomingOut}
use Rattle.mscp_c.specs.declared.outs.ReportOut.{ReportOut}
use Rattle.mscp_c.specs.Told.{begin_code, report_code, report_told, upcoming_told}

-- status and out-struct tell a begin that the controller may make, and that is what is there then
pub record TellsBegin (old : Handle) (before : UpcomingOut)
    (status : ℤ) (new : Handle) (after : UpcomingOut) : Type 0 where
  pub upcoming : Option Upcoming
  pub begin : controllers.Foretells (PolicyPicks old.held.picker) old.held upcoming new.held
  pub rest : new ≡ with_held old new.held
  pub code : status ≡ begin_code upcoming
  pub told : after ≡ upcoming_told upcoming 0 before

-- they tell a step that the controller may make
pub record TellsStep (k : Block)
    (old : Handle) (before : ReportOut) (status : ℤ) (new : Handle) (after : ReportOut) : Type 0 where
  pub report : Report
  pub step : controllers.Steps (PolicyPicks old.held.picker) k old.held report new.held
  pub rest : new ≡ with_held old new.held
  pub code : status ≡ report_code report
  pub told : after ≡ report_told report before

-- the status of a finish, and what is told of it. A finish of a command that isn't begun tells nothing
abbrev pub finish_code : Result Report NotBegun → ℤ
finish_code (Ok report) = report_code report
finish_code (Err not_begun) = NOT_BEGUN

abbrev pub finish_told : Result Report NotBegun → ReportOut → ReportOut
finish_told (Ok report) out = report_told report out
finish_told (Err not_begun) out = out

-- they tell a finish that the controller may make
pub record TellsFinish (via : Connection) (reference : ℕ) (k : Block)
    (old : Handle) (before : ReportOut) (status : ℤ) (new : Handle) (after : ReportOut) : Type 0 where
  pub answer : Result Report NotBegun
  pub finish : controllers.Finishes (PolicyPicks old.held.picker) (name_on via reference) k old.held answer new.held
  pub rest : new ≡ with_held old new.held
  pub code : status ≡ finish_code answer
  pub told : after ≡ finish_told answer before
