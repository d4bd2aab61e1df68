-- Which instructions clone arrays (JLS 10.7).
use Rattle.std.specs.Prelude.{List, Bool, false}
use Rattle.std.specs.Option.{option_map_or}
use Rattle.model.specs.declared.instr.Instr.{Instr}
use Rattle.model.specs.declared.instr.Instr.TheVariants.{Invoke}
use Rattle.model.specs.declared.instr.Invocation.TheVariants as invocation
use Rattle.model.specs.Tree.{Entry}
use Rattle.model.specs.Pool.{method_at}
use Rattle.model.specs.Profile.{is_array_clone}

-- an invokevirtual of clone, where the class that it names is one of arrays
abbrev pub clones_array : List Entry → Instr → Bool
clones_array pool (Invoke invocation.Virtual index) = option_map_or is_array_clone (method_at pool index) false
clones_array pool other = false
