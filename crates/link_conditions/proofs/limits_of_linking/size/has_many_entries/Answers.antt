use Rattle.std.proofs.Common.{◌≡◌, ◌+◌, ◌<◌, ◌≤◌, ◌++◌, [], ◌∷◌, List, length, map, take, sym, ap, ◌∙◌, arith}
use Rattle.std.specs.List.{flat_map}
use Rattle.std.proofs.lemmas.List.{map_more, length-map}
use Rattle.classfile.specs.View.{file_of}
use Rattle.constant_pool.specs.View.{entry_of}
use Rattle.class_tree.specs.declared.tree.ClassFile.{ClassFile}
use Rattle.model.specs.StringConstants.{texts_in}
use Rattle.model.specs.Tree.{FileTree}
use Rattle.link_conditions.proofs.limits_of_linking.TextLaws.{texts_more}
use Rattle.link_conditions.proofs.limits_of_linking.size.has_many_entries.Goals as goal

pub loop-file-preserved : goal.loop-file-preserved
loop-file-preserved c h =
    let files = c.args.files.now in
    let i = c.loop-file.file-index in
    let file = c.file-item.result in
    let before = map file_of (take i files) in
    let all : map file_of (take (i + 1) files) ≡ before ++ file_of file ∷ [] =
    map_more file_of files i file c.loop-file-test.true ∙ ap (λ (f : ClassFile). before ++ file_of f ∷ []) (sym c.file-item.is) in
    let more : length (flat_map texts_in (map file_of (take (i + 1) files))) ≡ length (flat_map texts_in (before ++ file_of file ∷ [])) = ap (λ (l : List FileTree). length (flat_map texts_in l)) all in
    let pool : length c.constants.result.now ≡ length file.pool = sym (length-map c.constants.result.now entry_of) ∙ ap length c.constants.ensures in
    let said : c.saturating_add-entries.result < 18446744073709551615 = h in
    let so_far : length (flat_map texts_in before) ≤ c.loop-file.entries = c.loop-file.invariant (omega arith) in
    omega (arith, more, texts_more before (file_of file), pool, so_far)
