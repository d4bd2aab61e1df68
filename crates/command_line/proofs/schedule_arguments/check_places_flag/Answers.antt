use Rattle.std.proofs.Common.{◌∙◌, sym}
use Rattle.std.proofs.lemmas.Bool.{true≢false}
use Rattle.command_line.proofs.CommandLineLemmas.{refuses}
use Rattle.command_line.proofs.schedule_arguments.check_places_flag.Goals as goal

pub returns-then-is_set-clause-none : goal.returns-then-is_set-clause-none
returns-then-is_set-clause-none c =
    refuses c.not_provided.result _ c.not_provided.ensures (λ off. true≢false (sym c.if-is_set.true ∙ c.is_set.ensures ∙ off))
