use Rattle.std.proofs.Common.{◌≡◌, take}
use Rattle.model.specs.StringConstants.{file_texts}
use Rattle.linker.proofs.field_links.string_numbers.texts_of_files.Given as goal

abbrev pub invariant-loop-number : goal.invariant-loop-number
invariant-loop-number l = l.texts ≡ file_texts (take l.number l.set)
