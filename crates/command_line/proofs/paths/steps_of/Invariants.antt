use Rattle.std.proofs.Common.{◌≡◌, map, take, string_bytes}
use Rattle.std.specs.Prelude.{flat_map}
use Rattle.command_line.specs.Paths.{step_of}
use Rattle.command_line.proofs.paths.steps_of.Given as goal

-- the parts so far are appended
abbrev pub invariant-loop-part : goal.invariant-loop-part
invariant-loop-part l = string_bytes l.steps ≡ flat_map step_of (map (λ part. part.now) (take l.part-index l.part-items))
