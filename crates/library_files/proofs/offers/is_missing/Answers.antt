use Rattle.std.proofs.Common.{map}
use Rattle.class_tree.specs.View.{file_of}
use Rattle.library_files.proofs.Offering.{built_in_there, by_files}
use Rattle.library_files.proofs.offers.is_missing.Goals as goal

pub returns-then-is_declared : goal.returns-then-is_declared
returns-then-is_declared c =
    built_in_there (map file_of c.args.files.now) c.args.name.now (map file_of c.args.built_in.now) c.is_declared.result c.requires c.is_declared.ensures c.if-is_declared.true

pub returns : goal.returns
returns c =
    by_files (map file_of c.args.files.now) c.args.name.now (map file_of c.args.built_in.now) c.is_declared.result c.is_declared-2.result c.requires c.is_declared.ensures c.if-is_declared.false c.is_declared-2.ensures
