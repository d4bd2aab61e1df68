-- A machine that was opened has done no event.
use Rattle.std.proofs.Common.{Result, Ok, Err, ap}
use Rattle.std.specs.Prelude.{IfOk}
use Rattle.model.specs.declared.limits.Limits.{Limits}
use Rattle.model.specs.Classes.{Program}
use Rattle.model.specs.LimitStands.{bounds_of}
use Rattle.linked_code.specs.declared.program.LinkedProgram.{LinkedProgram}
use Rattle.machine_state.specs.shown_runs.Runs.{AreRunsOpened}
use Rattle.machine.specs.Machines.{MachineOf, IsOfAccepted, IsProgramOf, Opens}
use Rattle.machine.specs.machine_replay.Shown.{IsOpened}

pub of_accepted : (trees : Program) (p : LinkedProgram) → IsProgramOf trees p → IsOfAccepted p
of_accepted trees p h = record { files = h.files; trees = trees; accepted = h.accepted; program = h.program }

pub is_opened : AreRunsOpened → (trees : Program) (p : LinkedProgram) (limits : Limits) (m : MachineOf) → IsProgramOf trees p
    → Opens p limits m → IsOpened trees limits m
is_opened opens trees p limits m h o =
    let shows = o.1 h.files trees h.accepted h.program in
    record {
      files = h.files;
      limits_are = ap (λ (x : MachineOf). x.limits) o.0;
      done = record {
        accepted = h.accepted;
        program = shows.program;
        run = opens trees m.program (bounds_of m.limits) m.shared shows.shown;
      };
    }

-- where there was memory for it
pub opened_if : AreRunsOpened → (trees : Program) (p : LinkedProgram) (limits : Limits) → IsProgramOf trees p
    → {E : Type 0} (result : Result MachineOf E) → IfOk result (Opens p limits) → IfOk result (IsOpened trees limits)
opened_if opens trees p limits h (Ok m) o = is_opened opens trees p limits m h o
opened_if opens trees p limits h (Err e) o = tt
