use Rattle.std.proofs.Common.{◌≡◌, drop, map}
use Rattle.std.specs.List.{filter_map}
use Rattle.classfile.specs.View.{file_of}
use Rattle.constant_pool.specs.View.{entry_of}
use Rattle.model.specs.Pool.{string_of}
use Rattle.model.specs.StringConstants.{texts_in}
use Rattle.link_conditions.specs.limits_of_linking.Texts.{with_texts}
use Rattle.link_conditions.proofs.limits_of_linking.text_set.add_texts.Given as goal

abbrev pub invariant-loop-constant : goal.invariant-loop-constant
invariant-loop-constant l = with_texts l.texts (filter_map (string_of l.file.pool) (map entry_of (drop l.constant-index l.constants))) ≡ with_texts l.initial.texts (texts_in (file_of l.file))
