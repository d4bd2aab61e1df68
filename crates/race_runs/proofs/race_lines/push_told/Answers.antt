use Rattle.std.proofs.Common.{subst, sym, take}
use Rattle.std.proofs.Math.Numerals.{add-one}
use Rattle.race_runs.specs.race_lines.Lines.{AddsRaceLines}
use Rattle.race_runs.proofs.race_lines.Adding.{all_added, none_added}
use Rattle.race_runs.proofs.race_lines.push_told.Goals as goal

pub races-init : goal.races-init
races-init c = none_added c.args.names.now.linked.now c.args.text.now.items

pub races-preserved : goal.races-preserved
races-preserved c =
    subst (λ n. AddsRaceLines c.args.names.now.linked.now (take n c.args.told.now.races.keys) c.args.text.now.items c.push_at.new.text.items) (sym (add-one c.races.place))
    (c.in_ok-push_at.ensures c.args.text.now.items c.races.invariant)

pub returns : goal.returns
returns c =
    all_added c.args.names.now.linked.now c.args.told.now.races.keys c.races.place c.len-place-end.result c.len-place-end.ensures c.races-test.false c.args.text.now.items c.races.text.items
    c.races.invariant
