use Rattle.std.proofs.Common.{◌≡◌, ◌∙◌, refl, ap, subst, ◌∷◌, get_or}
use Rattle.model.specs.Types as model
use Rattle.model.specs.DescribedTypes.{component_type}
use Rattle.types.specs.View.{type_in, frame_in}
use Rattle.types.specs.method_code.View.{files_of}
use Rattle.types.specs.method_code.Site.{site_of}
use Rattle.instruction_types.specs.Successors.{found_by, left_by, with_slots}
use Rattle.instruction_types.specs.declared.leads.Leads.TheVariants as leads
use Rattle.instruction_types.proofs.Leading.{next_after, mark_after}
use Rattle.verifier.proofs.flow_effects.lead.follow.Goals as goal

pub returns-in-Next-clause-leads : goal.returns-in-Next-clause-leads
returns-in-Next-clause-leads c =
    let site = c.args.site.now in
    let files = files_of site.method in
    let old = c.args.frame.now in
    let wants = c.args.meaning.now.wants in
    next_after files (site_of site) c.args.meaning.now leads.Next old c.drop_operands.new.frame (frame_in files old).slots.locals (left_by files wants old) c.in-Next.is (c.drop_operands.ensures files) refl

pub returns-in-Next-clause-mark : goal.returns-in-Next-clause-mark
returns-in-Next-clause-mark c =
    let files = files_of c.args.site.now.method in
    let old = c.args.frame.now in
    let wants = c.args.meaning.now.wants in
    mark_after files old c.drop_operands.new.frame (frame_in files old).slots.locals (left_by files wants old) (c.drop_operands.ensures files)

pub returns-in_ok-push_type-in-Pushes-clause-leads : goal.returns-in_ok-push_type-in-Pushes-clause-leads
returns-in_ok-push_type-in-Pushes-clause-leads c =
    let site = c.args.site.now in
    let files = files_of site.method in
    let old = c.args.frame.now in
    let wants = c.args.meaning.now.wants in
    next_after files (site_of site) c.args.meaning.now (leads.Pushes c.in-Pushes.pushed) old c.push_type.new.frame (frame_in files old).slots.locals (type_in files c.in-Pushes.pushed ∷ left_by files wants old) c.in-Pushes.is (c.in_ok-push_type-in-Pushes.ensures files) refl

pub returns-in_ok-push_type-in-Pushes-clause-mark : goal.returns-in_ok-push_type-in-Pushes-clause-mark
returns-in_ok-push_type-in-Pushes-clause-mark c =
    let files = files_of c.args.site.now.method in
    let old = c.args.frame.now in
    let wants = c.args.meaning.now.wants in
    mark_after files old c.push_type.new.frame (frame_in files old).slots.locals (type_in files c.in-Pushes.pushed ∷ left_by files wants old) (c.in_ok-push_type-in-Pushes.ensures files)

pub returns-in_ok-push_type-in-PushesComponent-clause-leads : goal.returns-in_ok-push_type-in-PushesComponent-clause-leads
returns-in_ok-push_type-in-PushesComponent-clause-leads c =
    let site = c.args.site.now in
    let files = files_of site.method in
    let old = c.args.frame.now in
    let wants = c.args.meaning.now.wants in
    let component = component_type files (get_or (found_by files wants old) 1 model.NullType) in
    let is = subst (λ F. type_in F c.component_type-component.result ≡ component_type F (type_in F c.operand_in.result)) c.set-set.ensures c.component_type-component.ensures ∙ ap (component_type files) (c.operand_in.ensures files) in
    let shown = c.in_ok-push_type-in-PushesComponent.ensures files ∙ ap (λ x. with_slots (frame_in files old) (frame_in files old).slots.locals (x ∷ left_by files wants old)) is in
    next_after files (site_of site) c.args.meaning.now leads.PushesComponent old c.push_type-in-PushesComponent.new.frame (frame_in files old).slots.locals (component ∷ left_by files wants old) c.in-PushesComponent.is shown refl
