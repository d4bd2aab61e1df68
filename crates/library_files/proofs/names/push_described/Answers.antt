use Rattle.std.proofs.Common.{Some, None, ◌≡◌, ◌∙◌, ◌++◌, ◌∷◌, [], List, append_assoc, ap, sym}
use Rattle.std.specs.List.{filter_map}
use Rattle.std.proofs.lemmas.List.{append-nil}
use Rattle.model.specs.Names.{Name}
use Rattle.model.specs.DescriptorParts.{class_of_element, classes_in}
use Rattle.model.specs.DescriptorScan.{method_type}
use Rattle.constant_pool.specs.declared.descriptors.field.Field.{Field}
use Rattle.constant_pool.specs.descriptors.View.{field_of}
use Rattle.library_files.specs.Names.{named}
use Rattle.library_files.proofs.Needing.{on_ok}
use Rattle.library_files.proofs.Naming.{field_class, described_method}
use Rattle.library_files.proofs.names.push_described.Goals as goal

pub returns-in-Some-returns : goal.returns-in-Some-returns
returns-in-Some-returns c =
    let text = c.args.text.now in
    let old = named c.args.names.now.items in
    let parameters = filter_map field_class c.parameters.result.now in
    let last = filter_map field_class (c.in-Some-returns.field ∷ []) in
    let is : method_type text ≡ Some c.in-Some-2.method = sym c.in_ok-method.ensures.scanned ∙ c.in-Some-2.is in
    on_ok c.push_classes-in-Some-returns.result
    (λ pushed. pushed ∙ ap (λ (l : List Name). l ++ last) c.in_ok-push_classes.ensures ∙ append_assoc old parameters last
    ∙ ap (λ (l : List Name). old ++ l) (described_method text c.in-Some-2.method c.parameters.result.now (Some c.in-Some-returns.field) c.in_default.ensures.scanned is c.parameters.ensures c.in-Some-returns.ensures))
    c.push_classes-in-Some-returns.ensures

pub returns : goal.returns
returns c =
    let text = c.args.text.now in
    let old = named c.args.names.now.items in
    let parameters = filter_map field_class c.parameters.result.now in
    let is : method_type text ≡ Some c.in-Some-2.method = sym c.in_ok-method.ensures.scanned ∙ c.in-Some-2.is in
    c.in_ok-push_classes.ensures
    ∙ ap (λ (l : List Name). old ++ l) (sym (append-nil parameters) ∙ described_method text c.in-Some-2.method c.parameters.result.now None c.in_default.ensures.scanned is c.parameters.ensures c.in-None.ensures)
