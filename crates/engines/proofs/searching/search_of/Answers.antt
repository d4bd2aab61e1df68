use Rattle.std.proofs.Common.{ap, arith, map, sym, subst, vec_items, ◌∙◌, ◌≤◌}
use Rattle.std.specs.Arc.{arc_value}
use Rattle.std.proofs.lemmas.List.{length-map}
use Rattle.model.specs.Classes.{Program}
use Rattle.machine.specs.Machines.{IsProgramOf}
use Rattle.search.specs.OwnEdges.{names_own_edges}
use Rattle.search.specs.search_reports.Answers.{Answers, TellsRaceOf}
use Rattle.search.specs.search_reports.Reports.{search_text}
use Rattle.std.specs.Option.{option_map}
use Rattle.engines.specs.RecordForms.{record_form, recorded_as}
use Rattle.engines.specs.Searches.{IsFileOf}
use Rattle.engines.proofs.RunLemmas.{few_files}
use Rattle.engines.proofs.SearchTheorem.{says}
use Rattle.engines.proofs.searching.search_of.Goals as goal

pub search_report-requires : goal.search_report-requires
search_report-requires g c =
    subst (λ (t : Program). IsProgramOf t (arc_value c.in_ok-program.program)) (sym c.linked-linked.ensures.same) c.in_ok-program.ensures

pub told_race-requires : goal.told_race-requires
told_race-requires g c =
    let found = c.in_ok-searched.searched in
    subst (λ (t : Program). TellsRaceOf t c.limits-limits.result found.answer found.race) c.linked-linked.ensures.same c.in_ok-searched.ensures.race

pub found_file-requires : goal.found_file-requires
found_file-requires g c = omega (arith, few_files (map vec_items c.args.files.now) c.args.verified.now c.requires, length-map c.args.files.now vec_items)

pub returns : goal.returns
returns g c =
    let found = c.in_ok-searched.searched in
    let most = c.most_states-most.ensures in
    let answers = subst (λ (t : Program). Answers t c.limits-limits.result c.args.goal.now (g.P.Progress.may_stop c.args.progress.now) c.most_states-most.result found.states found.answer) c.linked-linked.ensures.same c.in_ok-searched.ensures.answers in
    record {
      trees = c.args.verified.now;
      accepted = c.requires;
      limits = c.limits-limits.result;
      chosen = c.limits-limits.ensures;
      answer = found.answer;
      states = found.states;
      says =
          says c.args.verified.now c.limits-limits.result c.args.goal.now (g.P.Progress.may_stop c.args.progress.now) _ found.states found.answer
          (subst (λ m. Answers c.args.verified.now c.limits-limits.result c.args.goal.now (g.P.Progress.may_stop c.args.progress.now) m found.states found.answer) most answers);
      few = subst (λ m. 1 ≤ m → found.states ≤ m) most c.in_ok-searched.ensures.few;
      race = c.in_ok-race.race.items;
      raced = c.in_ok-race.ensures;
      told =
          c.in_ok-text.ensures
          ∙ ap (λ race. search_text found.answer race found.own_edges found.states) c.as_slice.ensures.value
          ∙ ap (λ own_edges. search_text found.answer c.in_ok-race.race.items own_edges found.states) (c.in_ok-searched.ensures.own_edges ∙ ap names_own_edges c.linked-linked.ensures.same);
      spelled = subst (λ recorded. IsFileOf (recorded_as c.limits-limits.result (record_form c.args.given c.args.options.now.as_version) (map vec_items c.args.files.now)) recorded found.answer (option_map vec_items c.in_ok-file.file)) c.is_some-is_recorded.ensures c.in_ok-file.ensures;
      ended = c.of_search-status.ensures;
    }
