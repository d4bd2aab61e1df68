use Rattle.std.proofs.Common.{arith, ◌≤◌, ◌∙◌, take, length, sym, ap}
use Rattle.std.proofs.lemmas.Option.{slice_get_past}
use Rattle.classfile.specs.View.{file_of}
use Rattle.model.specs.StringConstants.{file_texts, texts_in}
use Rattle.link_conditions.specs.limits_of_linking.Texts.{with_texts}
use Rattle.link_conditions.proofs.limits_of_linking.TextLaws.{file_texts_more}
use Rattle.linker.proofs.field_links.string_numbers.texts_of_files.Goals as goal
use Rattle.hierarchy.proofs.Indices.{take_one_more, take_whole}

pub loop-number-preserved : goal.loop-number-preserved
loop-number-preserved c =
    let files = c.args.set.now in
    let i = c.loop-number.number in
    let file = file_of c.in-Some.file.now in
    c.in_ok-add_texts.ensures ∙ ap (λ l. with_texts l (texts_in file)) c.loop-number.invariant ∙ sym (file_texts_more (take i files) file) ∙ ap file_texts (sym (take_one_more files i file (sym c.in-Some.ensures)))

pub returns-in_default : goal.returns-in_default
returns-in_default c = c.loop-number.invariant ∙ ap file_texts (take_whole c.args.set.now c.loop-number.number (sym c.in_default.ensures))

pub returns : goal.returns
returns c =
    let files = c.args.set.now in
    let count : length files ≤ c.loop-number.number = omega (arith, c.file_count-number-end.ensures.count, c.loop-number-test.false) in
    c.loop-number.invariant ∙ ap file_texts (take_whole files c.loop-number.number (slice_get_past files c.loop-number.number count))
