use Rattle.std.proofs.Common.{◌≡◌, take}
use Rattle.std.specs.List.{flat_map}
use Rattle.std.specs.Io.KnownBytes.{Appends}
use Rattle.model.specs.Listing.{method_lines}
use Rattle.classfile.specs.View.{method_of}
use Rattle.listings.proofs.disasm.listing.list_methods.Given as goal

abbrev pub invariant-methods : goal.invariant-methods
invariant-methods g l = record {
  so_far : Appends (g.W.Sink.contents l.fn.writer) (g.W.Sink.contents l.writer)
      (flat_map (λ m. method_lines l.file.pool (method_of m)) (take l.method-index l.methods));
  failures : g.W.Sink.failures l.writer ≡ g.W.Sink.failures l.fn.writer;
}
