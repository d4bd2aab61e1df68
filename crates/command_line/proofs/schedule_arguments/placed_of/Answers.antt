use Rattle.std.proofs.Common.{◌∙◌, ap, option_map, string_bytes}
use Rattle.command_line.proofs.CommandLineLemmas.{no_value, refuses}
use Rattle.command_line.proofs.schedule_arguments.placed_of.Goals as goal

pub returns-in-None-clause-none : goal.returns-in-None-clause-none
returns-in-None-clause-none c = refuses c.not_provided.result _ c.not_provided.ensures (no_value _ (c.in_ok-path.ensures ∙ ap (option_map string_bytes) c.in-None.is))
