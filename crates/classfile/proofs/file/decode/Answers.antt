use Rattle.std.proofs.Common.{◌≡◌, ◌∙◌, ap, subst, sym}
use Rattle.constant_pool.specs.declared.reading.fault.Malformed.{Malformed}
use Rattle.model.specs.Tree.{FileTree}
use Rattle.model.specs.Spells.{IsWhole}
use Rattle.class_tree.specs.View.{file_of}
use Rattle.classfile.specs.Decoding.{IsFaultOf}
use Rattle.classfile.proofs.Promises.{stops_not, condition_stands}
use Rattle.classfile.proofs.file.decode.Goals as goal

pub returns-in-Err-clause-only : goal.returns-in-Err-clause-only
returns-in-Err-clause-only c tree spelled =
    let is : file_of c.in_ok-file.file ≡ tree = c.in_ok-file.ensures.only tree spelled.layout in
    ap (λ (e : Malformed). e.cause) c.malformed.ensures ∙ stops_not c.in-Err.fault (file_of c.in_ok-file.file) c.in-Err.ensures.stands (subst (λ (t : FileTree). IsWhole t) (sym is) spelled.whole)

pub returns-in-Err-clause-refused : goal.returns-in-Err-clause-refused
returns-in-Err-clause-refused c =
    subst (IsFaultOf c.args.bytes.now) (sym c.malformed.ensures)
    (condition_stands c.args.bytes.now (file_of c.in_ok-file.file) c.in-Err.fault c.in_ok-file.ensures.found c.in-Err.ensures.stands)
