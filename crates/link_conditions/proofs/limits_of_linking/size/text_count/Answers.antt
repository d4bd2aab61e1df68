use Rattle.std.proofs.Common.{◌≡◌, ◌+◌, ◌++◌, [], ◌∷◌, map, take, sym, ap, ◌∙◌}
use Rattle.std.proofs.lemmas.List.{map_more}
use Rattle.classfile.specs.View.{file_of}
use Rattle.class_tree.specs.declared.tree.ClassFile.{ClassFile}
use Rattle.model.specs.StringConstants.{file_texts, texts_in}
use Rattle.link_conditions.specs.limits_of_linking.Texts.{with_texts}
use Rattle.link_conditions.proofs.limits_of_linking.TextLaws.{file_texts_more}
use Rattle.link_conditions.proofs.limits_of_linking.size.text_count.Goals as goal

pub loop-file-preserved : goal.loop-file-preserved
loop-file-preserved c =
    let files = c.args.files.now in
    let i = c.loop-file.file-index in
    let file = c.file-item.result in
    let before = map file_of (take i files) in
    let all : map file_of (take (i + 1) files) ≡ before ++ file_of file ∷ [] =
    map_more file_of files i file c.loop-file-test.true ∙ ap (λ (f : ClassFile). before ++ file_of f ∷ []) (sym c.file-item.is) in
    c.in_ok-add_texts.ensures ∙ ap (λ l. with_texts l (texts_in (file_of file))) c.loop-file.invariant ∙ sym (file_texts_more before (file_of file)) ∙ ap file_texts (sym all)
