use Rattle.std.proofs.Common.{◌≡◌, ◌+◌, ◌++◌, [], ◌∷◌, ◌∙◌, List, map, take, vec_items, subst}
use Rattle.std.proofs.lemmas.Result.{err_from_is_err_and}
use Rattle.classfile.specs.View.{file_of}
use Rattle.model.specs.Linkable.{AreSpelled}
use Rattle.hierarchy.specs.Set.{trees_of}
use Rattle.linker.proofs.Decoded.{bytes_more, trees_more, spelled_push, only_push, unread_at}
use Rattle.linker.proofs.Telling.{unread_tells}
use Rattle.linker.proofs.decoding.decode_all.Goals as goal

pub returns-in_err-decoded-clause-refused : goal.returns-in_err-decoded-clause-refused
returns-in_err-decoded-clause-refused c =
    let p = err_from_is_err_and c.from_residual.result c.from_residual.ensures.1 in
    let e = c.in_err-decoded.field-0.0 in
    let items = c.index-files-number.result in
    rw (p.1, p.2)
    (unread_at c.args.files.now c.loop-number.number items c.deref.result.now (trees_of c.loop-number.classes.items) e.kind e.file e.offset e.cause c.loop-number-test.true c.index-files-number.is c.deref.ensures.value c.loop-number.invariant.found c.in_err-decoded.ensures.refused)

pub loop-number-preserved : goal.loop-number-preserved
loop-number-preserved c =
    let files = c.args.files.now in
    let i = c.loop-number.number in
    let before = map vec_items (take i files) in
    let bytes = c.deref.result.now in
    let tree = file_of c.in_ok-decoded.field-0 in
    let more : map vec_items (take (i + 1) files) ≡ before ++ bytes ∷ [] = bytes_more files i c.index-files-number.result bytes c.loop-number-test.true c.index-files-number.is c.deref.ensures.value in
    let all : trees_of c.push.new.self.items ≡ trees_of c.loop-number.classes.items ++ tree ∷ [] = trees_more c.loop-number.classes.items c.push.new.self.items c.in_ok-decoded.field-0 c.in_ok-push.ensures.items in
    record {
      found = rw (more, all) (spelled_push before (trees_of c.loop-number.classes.items) bytes tree c.loop-number.invariant.found c.in_ok-decoded.ensures.found);
      only = λ trees h. all ∙ only_push before bytes (trees_of c.loop-number.classes.items) tree c.loop-number.invariant.only c.in_ok-decoded.ensures.only trees (subst (λ (l : List (List _)). AreSpelled l trees) more h);
    }

pub returns-in_err-decoded-clause-line : goal.returns-in_err-decoded-clause-line
returns-in_err-decoded-clause-line c =
    let p = err_from_is_err_and c.from_residual.result c.from_residual.ensures.1 in
    let e = c.in_err-decoded.field-0.0 in
    let i = c.loop-number.number in
    let items = c.index-files-number.result in
    let trees = trees_of c.loop-number.classes.items in
    let unread = unread_at c.args.files.now i items c.deref.result.now trees e.kind e.file e.offset e.cause c.loop-number-test.true c.index-files-number.is c.deref.ensures.value c.loop-number.invariant.found c.in_err-decoded.ensures.refused in
    rw (p.1, p.2)
    (unread_tells c.args.files.now i items c.deref.result.now trees e c.loop-number-test.true c.index-files-number.is c.deref.ensures.value c.loop-number.invariant.found unread c.in_err-decoded.ensures.line)
