use Rattle.std.proofs.Common.{◌∙◌}
use Rattle.std.proofs.lemmas.Result.{err_from_is_err_and}
use Rattle.class_tree.specs.declared.tree.Field.{Field}
use Rattle.model.specs.Listing.{field_line}
use Rattle.classfile.specs.View.{field_of}
use Rattle.listings.proofs.disasm.Writing.{element_fails, element_written}
use Rattle.listings.proofs.disasm.listing.list_fields.Goals as goal

pub returns-in_err-write_line-clause-written : goal.returns-in_err-write_line-clause-written
returns-in_err-write_line-clause-written g c =
    let p = err_from_is_err_and c.from_residual.result c.from_residual.ensures.1 in
    let contents = g.W.Sink.contents in
    let said = λ (x : Field). field_line c.args.file.now.pool (field_of x) in
    let x = c.field-item.result in
    rw p.1 (element_fails said c.args.fields.now c.fields.field-index x x (contents c.args.writer.now) (contents c.fields.writer) (contents c.write_line.new.writer)
    c.fields-test.true c.field-item.is c.fields.invariant.so_far (c.in_err-write_line.ensures.written (said x) c.field_line.ensures))

pub fields-preserved : goal.fields-preserved
fields-preserved g c =
    let contents = g.W.Sink.contents in
    let said = λ (x : Field). field_line c.args.file.now.pool (field_of x) in
    let x = c.field-item.result in
    record {
      so_far = element_written said c.args.fields.now c.fields.field-index x x (contents c.args.writer.now) (contents c.fields.writer) (contents c.write_line.new.writer)
          c.fields-test.true c.field-item.is c.fields.invariant.so_far (c.in_ok-write_line.ensures.written (said x) c.field_line.ensures);
      failures = c.in_ok-write_line.ensures.counted ∙ c.fields.invariant.failures;
    }
