use Rattle.std.proofs.Common.{◌∙◌}
use Rattle.std.proofs.lemmas.Result.{err_from_is_err_and}
use Rattle.class_tree.specs.declared.tree.ClassFile.{ClassFile}
use Rattle.model.specs.Listing.{listing}
use Rattle.classfile.specs.View.{file_of}
use Rattle.listings.proofs.disasm.Writing.{element_fails, element_written}
use Rattle.listings.proofs.class_listings.listing.list_files.Goals as goal

pub returns-in_err-list-clause-written : goal.returns-in_err-list-clause-written
returns-in_err-list-clause-written g c =
    let p = err_from_is_err_and c.from_residual.result c.from_residual.ensures.1 in
    let contents = g.W.Sink.contents in
    let said = λ (x : ClassFile). listing (file_of x) in
    let x = c.file-item.result in
    rw p.1 (element_fails said c.args.files.now c.files.file-index x x (contents c.args.writer.now) (contents c.files.writer) (contents c.list.new.writer)
    c.files-test.true c.file-item.is c.files.invariant.so_far (c.in_err-list.ensures.written))

pub files-preserved : goal.files-preserved
files-preserved g c =
    let contents = g.W.Sink.contents in
    let said = λ (x : ClassFile). listing (file_of x) in
    let x = c.file-item.result in
    record {
      so_far = element_written said c.args.files.now c.files.file-index x x (contents c.args.writer.now) (contents c.files.writer) (contents c.list.new.writer)
          c.files-test.true c.file-item.is c.files.invariant.so_far (c.in_ok-list.ensures.written);
      failures = c.in_ok-list.ensures.counted ∙ c.files.invariant.failures;
    }
