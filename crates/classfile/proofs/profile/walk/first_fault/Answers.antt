use Rattle.classfile.specs.View.{file_of}
use Rattle.classfile.proofs.profile.Walks.{finds_all}
use Rattle.classfile.proofs.profile.walk.first_fault.Goals as goal

pub returns : goal.returns
returns c files tells = finds_all files (file_of c.args.file.now) c.args.class_aside.now c.walk.result tells c.walk.ensures
