use Rattle.std.proofs.Common.{◌≡◌, map, sum_by, take, vec_items}
use Rattle.engines.specs.Files.{failures_of, known, left_of}
use Rattle.engines.proofs.named_file.sources.Given as goal

-- the files so far have their bytes, of which none were taken
abbrev pub invariant-loop-bytes : goal.invariant-loop-bytes
invariant-loop-bytes g l =
    let held = g.F.Folder.held in
    record {
      left : map (λ file. left_of (held file.folder.now file.path.now) file.reading) l.sources.items ≡ known (map vec_items (take l.bytes-index l.files));
      none : sum_by (λ file. failures_of file.reading) l.sources.items ≡ 0;
    }
