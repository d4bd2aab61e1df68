use Rattle.std.proofs.Common.{◌≡◌, take}
use Rattle.std.specs.List.{flat_map}
use Rattle.std.specs.Io.KnownBytes.{Appends}
use Rattle.model.specs.Listing.{listing}
use Rattle.classfile.specs.View.{file_of}
use Rattle.listings.proofs.class_listings.listing.list_files.Given as goal

abbrev pub invariant-files : goal.invariant-files
invariant-files g l = record {
  so_far : Appends (g.W.Sink.contents l.fn.writer) (g.W.Sink.contents l.writer)
      (flat_map (λ f. listing (file_of f)) (take l.file-index l.files));
  failures : g.W.Sink.failures l.writer ≡ g.W.Sink.failures l.fn.writer;
}
