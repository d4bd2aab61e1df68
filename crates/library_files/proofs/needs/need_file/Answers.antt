use Rattle.std.proofs.Common.{◌≡◌, ◌++◌, List, map}
use Rattle.std.specs.List.{flat_map}
use Rattle.class_tree.specs.View.{field_of, file_of, method_of}
use Rattle.library_files.specs.Needs.{needed_classes}
use Rattle.library_files.specs.Parts.{classes_at, field_classes, declared_classes, method_classes}
use Rattle.library_files.proofs.Needing.{on_ok, adds_both, adds_same, needed_by_parts}
use Rattle.library_files.proofs.needs.need_file.Goals as goal

pub returns : goal.returns
returns c =
    let pool = c.args.file.now.pool in
    let file = file_of c.args.file.now in
    let list : classes_at pool file.super_class
    ++ (flat_map (classes_at pool) c.deref.result.now
    ++ (flat_map (field_classes pool) (map field_of c.deref-2.result.now)
    ++ (flat_map (declared_classes pool) (map method_of c.deref-3.result.now)
    ++ flat_map (method_classes pool) (map method_of c.deref-4.result.now)))) ≡ needed_classes file =
    rw (c.deref.ensures.value, c.deref-2.ensures.value, c.deref-3.ensures.value, c.deref-4.ensures.value) (needed_by_parts file) in
    let a = c.args.texts.now in
    let d = c.need_methods.new.texts in
    on_ok c.need_codes.result
    (λ codes. adds_same pool a c.need_codes.new.texts _ _ list
    (adds_both pool a c.need_class.new.texts c.need_codes.new.texts _ _ c.in_ok-need_class.ensures
    (adds_both pool c.need_class.new.texts c.need_interfaces.new.texts c.need_codes.new.texts _ _ c.in_ok-need_interfaces.ensures
    (adds_both pool c.need_interfaces.new.texts c.need_fields.new.texts c.need_codes.new.texts _ _ (c.in_ok-need_fields.ensures pool)
    (adds_both pool c.need_fields.new.texts d c.need_codes.new.texts _ _ (c.in_ok-need_methods.ensures pool) codes)))))
    c.need_codes.ensures
