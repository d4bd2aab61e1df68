use Rattle.std.proofs.Common.{◌∙◌, ◌++◌, ap, sym, true≢false}
use Rattle.model.specs.Texts.{character_bytes}
use Rattle.schedule.proofs.report.Units.{behind_all}
use Rattle.schedule.proofs.report.texts.push_behind.Goals as goal

pub returns-clause-written : goal.returns-clause-written
returns-clause-written c =
    behind_all c.args.high c.args.unit _ _ _ c.push_alone.result
    (λ l. true≢false (sym (c.is_low.ensures.1 l) ∙ c.if-is_low.false)) (c.in_ok-push_character-2.ensures ∙ ap (λ o. c.args.text.now.items ++ character_bytes o) c.lone.ensures)
    c.push_alone.ensures.written
