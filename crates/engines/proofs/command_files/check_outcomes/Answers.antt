use Rattle.std.proofs.Common.{map, option_map, string_bytes, subst, sym}
use Rattle.std.specs.Prelude.{IfOk}
use Rattle.std.proofs.lemmas.Result.{IfOk-weaker}
use Rattle.engines.specs.Commands.{IsUnreadIn}
use Rattle.engines.proofs.OutcomePathLemmas.{none_given}
use Rattle.engines.proofs.command_files.check_outcomes.Goals as goal

pub returns-in-Some-clause-apart : goal.returns-in-Some-clause-apart
returns-in-Some-clause-apart c =
    let files = map string_bytes c.args.files.now in
    subst (λ folder. IfOk c.check_folder.result (λ _. IsUnreadIn (option_map (λ path. path.now) folder) files)) (sym c.in-Some.is)
    (IfOk-weaker c.check_folder.result _ _ (λ _ none n small. none_given c.in-Some.folder.now n small files none) c.check_folder.ensures.apart)
