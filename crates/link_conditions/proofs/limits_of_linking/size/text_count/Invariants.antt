use Rattle.std.proofs.Common.{◌≡◌, take, map}
use Rattle.classfile.specs.View.{file_of}
use Rattle.model.specs.StringConstants.{file_texts}
use Rattle.link_conditions.proofs.limits_of_linking.size.text_count.Given as goal

abbrev pub invariant-loop-file : goal.invariant-loop-file
invariant-loop-file l = l.texts ≡ file_texts (map file_of (take l.file-index l.files))
