use Rattle.std.proofs.Common.{◌≡◌, [], ◌∷◌, ◌++◌, ◌∙◌, ap, map, subst, sym, vec_items}
use Rattle.std.proofs.lemmas.List.{map-append}
use Rattle.sweeps.specs.Tallies.{same_in}
use Rattle.engines.specs.OutcomeFiles.{AreFilesOf, outcomes_of}
use Rattle.engines.specs.RecordForms.{recorded_as}
use Rattle.engines.proofs.OutcomeFileLemmas.{none_more, outcome_more}
use Rattle.engines.proofs.sweep_records.push_file.Goals as goal

pub returns-in_ok-push : goal.returns-in_ok-push
returns-in_ok-push c = λ others are.
    let told = recorded_as c.args.limits c.args.form (map vec_items c.args.files.now) in
    let same = same_in c.args.same.now in
    let old = c.args.made.now.items in
    let file = c.in_ok-file_of.field-0 in
    let pushed : map vec_items c.push.new.self.items ≡ map vec_items old ++ vec_items file ∷ [] = ap (map vec_items) c.in_ok-push.ensures.items ∙ map-append vec_items old (file ∷ []) in
    subst (λ files. AreFilesOf told (outcomes_of (others ++ same ∷ [])) files) (sym pushed)
    (outcome_more told others (map vec_items old) same (vec_items file) (sym c.is_outcome.ensures ∙ c.if-is_outcome.true) are c.in_ok-file_of.ensures)

pub returns-else-is_outcome : goal.returns-else-is_outcome
returns-else-is_outcome c = λ others are.
    none_more (recorded_as c.args.limits c.args.form (map vec_items c.args.files.now)) others (map vec_items c.args.made.now.items) (same_in c.args.same.now)
    (sym c.is_outcome.ensures ∙ c.if-is_outcome.false) are
