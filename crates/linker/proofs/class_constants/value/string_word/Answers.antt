use Rattle.std.proofs.Common.{arith}
use Rattle.classfile.specs.View.{file_of}
use Rattle.linker.proofs.class_constants.Sizes.{few_classes, few_texts}
use Rattle.linker.proofs.class_constants.Numbers.{number_is, number_fits}
use Rattle.linker.proofs.class_constants.value.string_word.Goals as goal

pub overflow_add-result : goal.overflow_add-result
overflow_add-result c = omega (arith, few_classes c.args.set.now c.requires.linked, c.count.ensures)

pub overflow_add-result-2 : goal.overflow_add-result-2
overflow_add-result-2 c =
    let files = c.args.set.now in
    omega (arith, few_classes files c.requires.linked, c.count.ensures, c.number_or_count.ensures files c.requires.texts, number_fits files c.args.class c.args.index, few_texts files c.requires.linked)

pub overflow_cast-result : goal.overflow_cast-result
overflow_cast-result c =
    let files = c.args.set.now in
    omega (arith, few_classes files c.requires.linked, c.count.ensures, c.number_or_count.ensures files c.requires.texts, number_fits files c.args.class c.args.index, few_texts files c.requires.linked)

pub returns : goal.returns
returns c = λ text is.
    let files = c.args.set.now in
    omega (arith, c.count.ensures, c.number_or_count.ensures files c.requires.texts, number_is files c.args.class c.args.index (file_of c.args.file.now) text c.requires.stands is)
