use Rattle.std.proofs.Common.{◌≡◌, map, take, vec_items}
use Rattle.advice.specs.Reading.{bytes_of}
use Rattle.engines.proofs.advised.with_names.Given as goal

-- the files so far have their bytes
abbrev pub invariant-loop-number : goal.invariant-loop-number
invariant-loop-number l = map bytes_of l.files.items ≡ map vec_items (take l.number l.handed)
