use Rattle.std.proofs.Common.{◌≡◌, ◌∙◌, ◌||◌, Some, sym, ap}
use Rattle.std.specs.Option.{option_to_list}
use Rattle.std.specs.List.{list_any}
use Rattle.class_tree.specs.View.{file_of}
use Rattle.model.specs.Classes.{class_of, super_name_of, interface_names}
use Rattle.hierarchy.specs.Above.{leads_to}
use Rattle.hierarchy.proofs.Walks.{above_itself_by, none_above_itself}
use Rattle.hierarchy.proofs.cycles.is_above_itself.Goals as goal

pub returns-in_default : goal.returns-in_default
returns-in_default c =
    let class = c.args.class.now in
    sym (none_above_itself c.args.set.now class (sym c.in_default.ensures))

pub returns-then-leads_to : goal.returns-then-leads_to
returns-then-leads_to c =
    let files = c.args.set.now in
    let class = c.args.class.now in
    let file = file_of c.in-Some.file.now in
    let leads = leads_to files class in
    let is : class_of files class ≡ Some file = sym c.in-Some.ensures in
    let super : c.leads_to.result ≡ list_any leads (option_to_list (super_name_of file)) = c.leads_to.ensures ∙ ap (λ o. list_any leads (option_to_list o)) c.superclass_name.ensures in
    c.if-leads_to.true ∙ ap (λ b. b || list_any leads (interface_names file)) (sym (sym super ∙ c.if-leads_to.true)) ∙ sym (above_itself_by files class file is)

pub returns-else-leads_to : goal.returns-else-leads_to
returns-else-leads_to c =
    let files = c.args.set.now in
    let class = c.args.class.now in
    let file = file_of c.in-Some.file.now in
    let leads = leads_to files class in
    let is : class_of files class ≡ Some file = sym c.in-Some.ensures in
    let super : c.leads_to.result ≡ list_any leads (option_to_list (super_name_of file)) = c.leads_to.ensures ∙ ap (λ o. list_any leads (option_to_list o)) c.superclass_name.ensures in
    c.an_interface_leads_to.ensures ∙ ap (λ b. b || list_any leads (interface_names file)) (sym (sym super ∙ c.if-leads_to.false)) ∙ sym (above_itself_by files class file is)
