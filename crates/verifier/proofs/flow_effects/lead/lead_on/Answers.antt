use Rattle.std.proofs.Common.{◌∙◌, ap, ◌||◌}
use Rattle.types.specs.method_code.View.{files_of}
use Rattle.types.specs.method_code.Site.{site_of}
use Rattle.instruction_types.proofs.Leading.{led_on}
use Rattle.verifier.proofs.flow_effects.lead.lead_on.Goals as goal

pub returns : goal.returns
returns c =
    let site = c.args.site.now in
    λ M means. led_on (files_of site.method) (site_of site) c.args.meaning.now M c.args.frame.now c.follow.new.frame means c.in_ok-on.on c.either-frame.result c.constructs_this-constructs.result c.in_ok-on.ensures.leads c.constructs_this-constructs.ensures
    (c.either-frame.ensures ∙ ap (λ b. b || c.constructs_this-constructs.result) c.in_ok-on.ensures.mark)
