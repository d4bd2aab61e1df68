use Rattle.std.proofs.Common.{◌⊎◌, subst, sym}
use Rattle.std.specs.Prelude.{IfErr}
use Rattle.engines.specs.Commands.{IsKeptFirst, KeepsSchedule}
use Rattle.engines.specs.Devices.{IsUnable}
use Rattle.engines.proofs.commands.before_files.check_first.Goals as goal

pub returns-in-Races-clause-kept : goal.returns-in-Races-clause-kept
returns-in-Races-clause-kept g c =
    let held = g.F.Folder.held c.args.folder.now in
    let kept = subst (λ word. IfErr c.check_schedule.result (λ fault. IsUnable fault ⊎ KeepsSchedule held word fault)) c.as_str.ensures.value c.check_schedule.ensures.kept in
    subst (λ command. IfErr c.check_schedule.result (λ fault. IsUnable fault ⊎ IsKeptFirst held command fault)) (sym c.in-Races.is) kept

pub returns-in-Places-clause-kept : goal.returns-in-Places-clause-kept
returns-in-Places-clause-kept g c =
    let held = g.F.Folder.held c.args.folder.now in
    let kept = subst (λ word. IfErr c.check_schedule-in-Places.result (λ fault. IsUnable fault ⊎ KeepsSchedule held word fault)) c.as_str-in-Places.ensures.value c.check_schedule-in-Places.ensures.kept in
    subst (λ command. IfErr c.check_schedule-in-Places.result (λ fault. IsUnable fault ⊎ IsKeptFirst held command fault)) (sym c.in-Places.is) kept
