use Rattle.std.proofs.Common.{◌∙◌, Some, None}
use Rattle.classfile.specs.View.{file_of}
use Rattle.linked_program.proofs.Main.{first_file}
use Rattle.linked_program.proofs.main_method.initial_class.Goals as goal

pub returns-in-Some : goal.returns-in-Some
returns-in-Some c = c.class_name.ensures ∙ first_file c.args.set.now (Some (file_of c.in-Some.file.now)) c.in-Some.ensures

pub returns-in-None : goal.returns-in-None
returns-in-None c = first_file c.args.set.now None c.in-None.ensures
