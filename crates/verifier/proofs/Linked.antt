-- What linking gives to a search: the files are ordered, and each superclass is found.
use Rattle.std.proofs.Common.{◌≡◌, false, sym, subst}
use Rattle.std.proofs.lemmas.Bool.{or_parts}
use Rattle.model.specs.Classes.{Program}
use Rattle.model.specs.Linkable.{NoMain, TooManyFields, Unresolved, stands, some_stands}
use Rattle.types.specs.Superclasses.{HasSuperclasses}
use Rattle.types.proofs.Linking.{superclasses_found}

pub has_superclasses : (files set : Program) → set ≡ files → some_stands files ≡ false → HasSuperclasses set
has_superclasses files set same e =
    let a = or_parts (stands files NoMain) _ e in
    let b = or_parts (stands files TooManyFields) _ a.1 in
    let c = or_parts (stands files Unresolved) _ b.1 in
    subst HasSuperclasses (sym same) (superclasses_found files c.0)
