use Rattle.std.proofs.Common.{◌∙◌, ◌++◌, ap, codes}
use Rattle.std.proofs.lemmas.Result.{on_ok_weaker}
use Rattle.race_runs.specs.race_lines.Pieces.{offset_place_words}
use Rattle.race_runs.proofs.race_lines.Naming.{site_sourced}
use Rattle.race_runs.proofs.race_lines.push_site.Goals as goal

pub returns-in-Some : goal.returns-in-Some
returns-in-Some c =
    let trees = c.args.names.now.linked.now in
    let place = c.place-place.result in
    let old = c.args.text.now.items in
    on_ok_weaker c.push_sourced.result (λ sourced. (
      _,
      sourced.1 ∙ ap (λ files. old ++ (sourced.0 ++ (codes " (" ++ (offset_place_words files place c.args.offset ++ codes ")")))) c.set.ensures.same,
      site_sourced trees c.args.method place c.args.offset c.place-place.ensures sourced.0,
    )) c.push_sourced.ensures
