use Rattle.std.proofs.Common.{◌<◌, sym, subst, ◌∙◌}
use Rattle.std.proofs.lemmas.Option.{same_Some, none-some}
use Rattle.race_actions.specs.declared.looking.CodeSite.{CodeSite}
use Rattle.race_runs.proofs.finder.offsets_are_short.Goals as goal

pub returns-in-Some : goal.returns-in-Some
returns-in-Some c = λ place is. subst (λ (s : CodeSite). s.offset < 65536) (same_Some c.in-Some.place place (sym c.in-Some.is ∙ is)) c.offset_is_short.ensures

pub returns-in-None : goal.returns-in-None
returns-in-None c = λ place is. absurd (none-some place (sym c.in-None.is ∙ is))
