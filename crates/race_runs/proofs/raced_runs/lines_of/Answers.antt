use Rattle.std.proofs.Common.{◌++◌, sym, ap, subst, ◌∙◌}
use Rattle.race_runs.specs.race_lines.Lines.{AreRaceLines}
use Rattle.race_runs.proofs.raced_runs.lines_of.Goals as goal

pub returns : goal.returns
returns c =
    let added = c.in_ok-push_races.ensures in
    subst (AreRaceLines c.args.linked.now c.args.told.now.races.keys) (sym (added.1 ∙ ap (λ l. l ++ added.0) c.new-lines.ensures.items)) added.2
