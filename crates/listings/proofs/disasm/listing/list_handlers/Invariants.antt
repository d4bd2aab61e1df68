use Rattle.std.proofs.Common.{◌≡◌, take}
use Rattle.std.specs.List.{flat_map}
use Rattle.std.specs.Io.KnownBytes.{Appends}
use Rattle.model.specs.Listing.{catch_line}
use Rattle.listings.proofs.disasm.listing.list_handlers.Given as goal

abbrev pub invariant-entries : goal.invariant-entries
invariant-entries g l = record {
  so_far : Appends (g.W.Sink.contents l.fn.writer) (g.W.Sink.contents l.writer)
      (flat_map (catch_line l.file.pool) (take l.entry-index l.entries));
  failures : g.W.Sink.failures l.writer ≡ g.W.Sink.failures l.fn.writer;
}
