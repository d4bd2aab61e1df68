use Rattle.std.proofs.Common.{◌≡◌}
use Rattle.std.specs.Io.KnownBytes.{Appends}
use Rattle.model.specs.Listing.{each_below, lines_at}
use Rattle.listings.proofs.disasm.listing.list_instructions.Given as goal

abbrev pub invariant-offsets : goal.invariant-offsets
invariant-offsets g l = record {
  so_far : Appends (g.W.Sink.contents l.fn.writer) (g.W.Sink.contents l.writer) (each_below (lines_at l.file.pool l.code) l.pc);
  failures : g.W.Sink.failures l.writer ≡ g.W.Sink.failures l.fn.writer;
}
