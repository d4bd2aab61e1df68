use Rattle.std.proofs.Common.{◌∙◌, sym, ap, List}
use Rattle.std.specs.Prelude.{position}
use Rattle.constant_pool.specs.View.{reference_of}
use Rattle.class_tree.specs.View.{file_of}
use Rattle.hierarchy.specs.declared.member_keys.MemberKey.{MemberKey}
use Rattle.hierarchy.specs.MemberKeys.{is_of_key}
use Rattle.hierarchy.specs.MembersAt.{field_place}
use Rattle.hierarchy.proofs.KeyLaws.{field_by_key, read_at}
use Rattle.hierarchy.proofs.sought.Sought.field_place.Goals as goal

pub returns-in-Some-get : goal.returns-in-Some-get
returns-in-Some-get c =
    let inside = c.self.inside in
    let classes = inside.keys.now.classes.items in
    let keys = c.in-Some-get.keys.now in
    let at = read_at c.deref.result.now classes c.args.class keys c.deref.ensures.value c.in-Some-get.ensures.lookup.0 c.in-Some-get.ensures.lookup.1 in
    field_by_key inside.set.now inside.keys.now.texts classes (reference_of inside.member) inside.key c.args.class keys (file_of c.in-Some.file.now) c.place_of_key.result c.self.invariant at (sym c.in-Some.ensures)
    (c.place_of_key.ensures ∙ ap (λ (l : List MemberKey). position (is_of_key inside.key) l) c.deref-in-Some-get.ensures.value)
    ∙ ap (λ s. field_place s.files s.member c.args.class) c.self.view_is
