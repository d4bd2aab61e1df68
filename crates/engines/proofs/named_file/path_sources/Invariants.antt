use Rattle.std.proofs.Common.{◌≡◌, map, string_bytes, sum_by, take}
use Rattle.engines.specs.Files.{failures_of, held_at, left_of}
use Rattle.engines.proofs.named_file.path_sources.Given as goal

-- the paths so far have their files, of which none was read
abbrev pub invariant-loop-path : goal.invariant-loop-path
invariant-loop-path g l =
    let held = g.F.Folder.held in
    record {
      left : map (λ file. left_of (held file.folder.now file.path.now) file.reading) l.files.items ≡ held_at (held l.folder) (map string_bytes (take l.path-index l.paths));
      none : sum_by (λ file. failures_of file.reading) l.files.items ≡ 0;
    }
