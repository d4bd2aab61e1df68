-- The local variables with which an instruction has nothing to do.
use Rattle.std.specs.Prelude.{ℕ, List, Bool, true, false, ◌==◌, not}
use Rattle.std.specs.List.{list_any}
use Rattle.std.specs.Option.{option_map_or}
use Rattle.model.specs.declared.instr.Instr.{Instr}
use Rattle.model.specs.declared.instr.Instr.TheVariants as instr
use Rattle.model.specs.declared.instr.Invocation.TheVariants as invocation
use Rattle.model.specs.Tree.{Entry}
use Rattle.model.specs.Pool.{method_at}
use Rattle.model.specs.Sites.{Site}
use Rattle.model.specs.Typing.{is_constructor}

-- It neither reads nor writes any of these. What makes an object and what calls a constructor may change all local variables.
abbrev pub leaves_by : List Entry → Instr → List ℕ → Bool
leaves_by pool (instr.Load kind local) ks = not (list_any (λ k. k == local) ks)
leaves_by pool (instr.Store kind local) ks = not (list_any (λ k. k == local) ks)
leaves_by pool (instr.Increment local by) ks = not (list_any (λ k. k == local) ks)
leaves_by pool (instr.New index) ks = false
leaves_by pool (instr.Invoke invocation.Special index) ks = not (option_map_or is_constructor (method_at pool index) false)
leaves_by pool _ ks = true

-- so it is of the instruction of a site
abbrev pub leaves : Site → List ℕ → Bool
leaves site ks = leaves_by site.body.pool site.instr ks
