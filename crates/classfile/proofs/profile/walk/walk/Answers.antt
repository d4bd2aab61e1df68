use Rattle.classfile.specs.View.{file_of}
use Rattle.classfile.specs.profile.Faults.{row_of}
use Rattle.classfile.proofs.profile.Walks.{walked}
use Rattle.classfile.proofs.profile.First.{field_first}
use Rattle.classfile.proofs.profile.walk.walk.Goals as goal

pub returns-in-Some : goal.returns-in-Some
returns-in-Some c = field_first (row_of c.args.aside.now) (file_of c.args.file.now) c.in-Some.field c.in-Some.ensures.first c.in-Some.ensures.some

pub returns : goal.returns
returns c = walked (row_of c.args.aside.now) (file_of c.args.file.now) c.in_default.ensures.none c.first_in_methods.result c.first_in_methods.ensures
