-- What is told of a machine, by what it lends.
use Rattle.std.proofs.Common.{◌≡◌, ℕ, List, Bool, subst}
use Rattle.model.specs.declared.end.End.{End}
use Rattle.model.specs.declared.limits.Limits.{Limits}
use Rattle.model.specs.declared.report.EndState.{EndState}
use Rattle.model.specs.declared.report.Report.{Report}
use Rattle.model.specs.Classes.{Program}
use Rattle.linked_code.specs.declared.program.LinkedProgram.{LinkedProgram}
use Rattle.machine_state.specs.declared.state.Shared.{Shared}
use Rattle.machine.specs.declared.machine.Stopped.{Stopped}
use Rattle.machine.specs.Machines.{MachineOf}
use Rattle.machine.specs.machine_reports.Told.{AreQuietAt, Reports}
use Rattle.machine.specs.machine_replay.Shown.{Tells, end_of}

pub tells : (trees : Program) (m : MachineOf) (p : LinkedProgram) (shared : Shared) (limits : Limits) (done : ℕ) (why : Stopped)
    (r : Report) (end : End) (quiet : Bool) (ends : List EndState)
    → p ≡ m.program → shared ≡ m.shared → limits ≡ m.limits → Reports trees p shared limits.frames done r → ends ≡ r.threads.items
    → AreQuietAt ends quiet → end ≡ end_of why done quiet
    → Tells trees m done why r end
tells trees m p shared limits done why r end quiet ends program_is shared_is limits_are reports ends_are quiet_is end_is =
    let by_limits : Reports trees p shared m.limits.frames done r = subst (λ (l : Limits). Reports trees p shared l.frames done r) limits_are reports in
    let by_shared : Reports trees p m.shared m.limits.frames done r = subst (λ s. Reports trees p s m.limits.frames done r) shared_is by_limits in
    record {
      reports = subst (λ q. Reports trees q m.shared m.limits.frames done r) program_is by_shared;
      quiet = quiet;
      quiet_is = subst (λ l. AreQuietAt l quiet) ends_are quiet_is;
      end_is = end_is;
    }
