use Rattle.std.proofs.Common.{arith}
use Rattle.model.specs.Names.{name_eq}
use Rattle.model.specs.StringConstants.{main_text, string_texts}
use Rattle.linker.proofs.class_constants.Sizes.{few_classes, few_texts}
use Rattle.linker.proofs.class_constants.Numbers.{position_fits}
use Rattle.linked_program.proofs.text_words.main_text_word.Goals as goal

pub overflow_add-result : goal.overflow_add-result
overflow_add-result c = omega (arith, few_classes c.args.set.now c.requires.linked, c.count.ensures)

pub overflow_add-result-2 : goal.overflow_add-result-2
overflow_add-result-2 c =
    let files = c.args.set.now in
    omega (arith, few_classes files c.requires.linked, c.count.ensures, c.main_text.ensures files c.requires.texts, position_fits (name_eq main_text) (string_texts files), few_texts files c.requires.linked)

pub overflow_cast-result : goal.overflow_cast-result
overflow_cast-result c =
    let files = c.args.set.now in
    omega (arith, few_classes files c.requires.linked, c.count.ensures, c.main_text.ensures files c.requires.texts, position_fits (name_eq main_text) (string_texts files), few_texts files c.requires.linked)

pub returns : goal.returns
returns c = omega (arith, c.count.ensures, c.main_text.ensures c.args.set.now c.requires.texts)
