use Rattle.std.proofs.Common.{◌≡◌, map, take}
use Rattle.std.specs.List.{AllByRecursion}
use Rattle.model.specs.Typing.{caught_type}
use Rattle.types.specs.View.{type_in}
use Rattle.types.specs.method_code.View.{files_of, body_of}
use Rattle.verifier.proofs.flow.handler.handlers.Given as goal

abbrev pub invariant-entries : goal.invariant-entries
invariant-entries l = record {
  entries : map (λ h. h.entry) l.handlers.items ≡ take l.entry-index l.entries;
  caught : AllByRecursion (λ h. type_in (files_of l.method) h.caught
      ≡ caught_type (files_of l.method) (body_of l.method).pool h.entry) l.handlers.items;
}
