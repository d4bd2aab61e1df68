-- Files that link have the facts of linked files.
use Rattle.std.proofs.Common.{◌≡◌, ℕ, List, false}
use Rattle.model.specs.Classes.{Program}
use Rattle.model.specs.Linkable.{AreSpelled, some_stands}
use Rattle.run_laws.proofs.laws.Linked.{Linked}
use Rattle.run_laws.proofs.laws.Unrefused.{unrefused_of}
use Rattle.run_laws.proofs.laws.LinkedMain.{main}
use Rattle.run_laws.proofs.laws.LinkedMethods.{native, static_is_concrete, private_is_concrete, constructor_is_concrete, constructor_returns_nothing, interface_is_public}
use Rattle.run_laws.proofs.laws.LinkedCode.{callable, callable_interface, calls_class, calls_interface, special}
use Rattle.run_laws.proofs.laws.LinkedClasses.{rooted, interface_super}
use Rattle.run_laws.proofs.laws.LinkedFound.{private_is_above, private_is_of_class, interface_found_is_public, subtype_made, catches}
use Rattle.run_laws.proofs.laws.LinkedConstants.{constants_fit, string_known}

pub linked_of : (bytes : List (List ℕ)) (files : Program) → AreSpelled bytes files → some_stands files ≡ false → Linked files
linked_of bytes files spelled h =
    let ok = unrefused_of bytes files spelled h in
    record {
      rooted = rooted files ok;
      main = main files ok;
      native = native files ok;
      static_is_concrete = static_is_concrete files ok;
      constructor_is_concrete = constructor_is_concrete files ok;
      constructor_returns_nothing = constructor_returns_nothing files ok;
      interface_is_public = interface_is_public files ok;
      private_is_concrete = private_is_concrete files ok;
      private_is_above = private_is_above files ok;
      private_is_of_class = private_is_of_class files ok;
      interface_found_is_public = interface_found_is_public files ok;
      callable = callable files ok;
      callable_interface = callable_interface files ok;
      calls_class = calls_class files ok;
      calls_interface = calls_interface files ok;
      special = special files ok;
      interface_super = interface_super files ok;
      subtype_made = subtype_made files ok;
      catches = catches files ok;
      constants_fit = constants_fit files ok;
      string_known = string_known files ok;
    }
