use Rattle.std.proofs.Common.{◌∙◌, sym, ap, not}
use Rattle.std.specs.List.{list_any}
use Rattle.model.specs.InitialisedTypes.{is_made_at}
use Rattle.model.specs.Typing.{may_stand}
use Rattle.types.specs.View.{type_in, frame_in}
use Rattle.types.specs.method_code.View.{files_of}
use Rattle.types.specs.method_code.Site.{site_of}
use Rattle.verifier.proofs.flow.Anywhere.{any_turned}
use Rattle.verifier.proofs.flow.stand.may_stand.Goals as goal

pub returns-in-New : goal.returns-in-New
returns-in-New c =
    let site = c.args.site.now in
    let files = files_of site.method in
    ap (λ b. not b) (c.is_among.ensures ∙ ap (list_any (λ t. is_made_at site.offset (type_in files t))) c.deref.ensures.value ∙ sym (any_turned (is_made_at site.offset) (type_in files) c.args.frame.now.stack.items))
    ∙ ap (may_stand (site_of site) (frame_in files c.args.frame.now)) (sym c.in-New.is)
