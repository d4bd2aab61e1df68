use Rattle.std.proofs.Common.{◌⊎◌, subst}
use Rattle.std.specs.Prelude.{IfErr}
use Rattle.engines.specs.Commands.{KeepsSchedule}
use Rattle.engines.specs.Devices.{IsUnable}
use Rattle.engines.proofs.commands.before_files.check_trace.Goals as goal

pub returns-clause-kept : goal.returns-clause-kept
returns-clause-kept g c =
    subst (λ word. IfErr c.check_schedule.result (λ fault. IsUnable fault ⊎ KeepsSchedule (g.F.Folder.held c.args.folder.now) word fault)) c.as_str.ensures.value c.check_schedule.ensures.kept
