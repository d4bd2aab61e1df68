use Rattle.std.proofs.Common.{ℕ, List, subst}
use Rattle.method_tables.specs.method_links.Selected.{AreDeclared}
use Rattle.method_tables.proofs.method_links.selected.SelectedMethods.new.Goals as goal

pub returns : goal.returns
returns c =
    let files = c.args.set.now in
    let entries = c.in_ok-declared.declared.entries in
    let names = c.in_ok-names.names.items in
    let descriptors = c.in_ok-descriptors.descriptors.items in
    record {
      superclasses = c.in_ok-superclasses.ensures;
      declared = subst (λ (l : List ℕ). AreDeclared files l descriptors entries) c.deref.ensures.value (subst (λ (l : List ℕ). AreDeclared files c.deref.result.now l entries) c.deref-2.ensures.value c.in_ok-declared.ensures);
    }
