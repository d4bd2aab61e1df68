use Rattle.std.proofs.Common.{◌∙◌, get_or, refl}
use Rattle.std.proofs.lemmas.Result.{err_from_is_err_and}
use Rattle.model.specs.declared.class_file.ExceptionEntry.{ExceptionEntry}
use Rattle.model.specs.Listing.{catch_line}
use Rattle.listings.proofs.disasm.Writing.{element_fails, element_written}
use Rattle.listings.proofs.disasm.listing.list_handlers.Goals as goal

pub returns-in_err-write_line-clause-written : goal.returns-in_err-write_line-clause-written
returns-in_err-write_line-clause-written g c =
    let p = err_from_is_err_and c.from_residual.result c.from_residual.ensures.1 in
    let contents = g.W.Sink.contents in
    let said = catch_line c.args.file.now.pool in
    let entry : ExceptionEntry = get_or c.args.entries.now c.entries.entry-index (record { start = 0; end = 0; handler = 0; catch_type = 0 }) in
    rw p.1 (element_fails said c.args.entries.now c.entries.entry-index entry (record { start = 0; end = 0; handler = 0; catch_type = 0 }) (contents c.args.writer.now) (contents c.entries.writer) (contents c.write_line.new.writer)
    c.entries-test.true refl c.entries.invariant.so_far (c.in_err-write_line.ensures.written (said entry) c.catch_line.ensures))

pub entries-preserved : goal.entries-preserved
entries-preserved g c =
    let contents = g.W.Sink.contents in
    let said = catch_line c.args.file.now.pool in
    let entry : ExceptionEntry = get_or c.args.entries.now c.entries.entry-index (record { start = 0; end = 0; handler = 0; catch_type = 0 }) in
    record {
      so_far = element_written said c.args.entries.now c.entries.entry-index entry (record { start = 0; end = 0; handler = 0; catch_type = 0 }) (contents c.args.writer.now) (contents c.entries.writer) (contents c.write_line.new.writer)
          c.entries-test.true refl c.entries.invariant.so_far (c.in_ok-write_line.ensures.written (said entry) c.catch_line.ensures);
      failures = c.in_ok-write_line.ensures.counted ∙ c.entries.invariant.failures;
    }
