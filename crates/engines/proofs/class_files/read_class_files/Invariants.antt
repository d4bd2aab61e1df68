use Rattle.std.proofs.Common.{◌≡◌, map, sum_by, vec_items, take, drop}
use Rattle.engines.specs.Engines.{ReadsEach}
use Rattle.engines.proofs.class_files.read_class_files.Given as goal

-- the files so far are read, those left are as they were, and none failed
abbrev pub invariant-loop-number : goal.invariant-loop-number
invariant-loop-number g l =
    let source = g.S.Source in
    record {
      read : ReadsEach (map source.remaining (take l.number l.fn.files)) (map vec_items l.read.items);
      rest : drop l.number l.files ≡ drop l.number l.fn.files;
      counted : sum_by source.failures l.files ≡ sum_by source.failures l.fn.files;
    }
