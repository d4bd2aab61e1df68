use Rattle.std.proofs.Common.{◌∙◌, sym, ap}
use Rattle.std.specs.Prelude.{slice_get}
use Rattle.std.specs.Option.{option_and_then}
use Rattle.model.specs.Classes.{classes_of, is_named}
use Rattle.hierarchy.proofs.Finding.{find_by_position, nowhere}
use Rattle.hierarchy.proofs.set.ClassSet.class_of.Goals as goal

pub returns-in_default : goal.returns-in_default
returns-in_default c = sym (nowhere (is_named c.args.name.now) (classes_of c.args.self.now) (sym (c.in_default.ensures.place)))

pub returns : goal.returns
returns c =
    let classes = classes_of c.args.self.now in
    c.class_at.ensures ∙ ap (λ o. option_and_then (slice_get classes) o) c.in-Some.ensures.place ∙ sym (find_by_position (is_named c.args.name.now) classes)
