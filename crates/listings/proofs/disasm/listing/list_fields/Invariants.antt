use Rattle.std.proofs.Common.{◌≡◌, take}
use Rattle.std.specs.List.{flat_map}
use Rattle.std.specs.Io.KnownBytes.{Appends}
use Rattle.model.specs.Listing.{field_line}
use Rattle.classfile.specs.View.{field_of}
use Rattle.listings.proofs.disasm.listing.list_fields.Given as goal

abbrev pub invariant-fields : goal.invariant-fields
invariant-fields g l = record {
  so_far : Appends (g.W.Sink.contents l.fn.writer) (g.W.Sink.contents l.writer)
      (flat_map (λ f. field_line l.file.pool (field_of f)) (take l.field-index l.fields));
  failures : g.W.Sink.failures l.writer ≡ g.W.Sink.failures l.fn.writer;
}
