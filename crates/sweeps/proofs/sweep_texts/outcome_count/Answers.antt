use Rattle.std.proofs.Common.{◌≡◌, ◌∙◌, ◌==◌, ◌&&◌, rules, sym}
use Rattle.std.specs.Prelude.{count_by}
use Rattle.sweeps.specs.Shown.{shown_in}
use Rattle.sweeps.specs.Texts.{is_outcome}
use Rattle.sweeps.proofs.Telling.{count_through}
use Rattle.sweeps.proofs.sweep_texts.outcome_count.Goals as goal

pub returns : goal.returns
returns c =
    let counted : c.count.result ≡ count_by (λ s. is_outcome (shown_in s.shown)) c.args.listed.now = search rules in
    counted ∙ sym (count_through (λ s. is_outcome s.shown) c.args.listed.now)
