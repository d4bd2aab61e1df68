use Rattle.std.proofs.Common.{◌∙◌, ap, map, string_bytes, subst, sym}
use Rattle.std.specs.Prelude.{position}
use Rattle.program_files.specs.Handed.{AreClasses, has_main}
use Rattle.program_files.proofs.HandedLemmas.{found_within}
use Rattle.program_files.proofs.file_order.main_first.Goals as goal

pub put_first-requires : goal.put_first-requires
put_first-requires g c =
    let held = g.F.Folder.held c.args.folder.now in
    let classes = c.in_ok-classes.classes.items in
    let are = subst (λ given. AreClasses held (map string_bytes given) classes) c.deref.ensures.value c.in_ok-classes.ensures.classes in
    found_within held has_main c.args.given.items classes c.in-Some.place are
    (ap (position has_main) (sym c.deref-2.ensures.value) ∙ sym c.main_place.ensures ∙ c.in-Some.is)
