-- What the texts of a constant pool say as descriptors (JVMS 4.3).
use Rattle.std.specs.Prelude.{ℕ, List, [], ◌∷◌, map, false}
use Rattle.model.specs.Names.{Name}
use Rattle.model.specs.Tree.{Entry, Field, Method, InterfaceMethod, NameAndType, Unusable}
use Rattle.model.specs.Spelling.{entry_at, text_of}
use Rattle.model.specs.Conditions.{text_at}
use Rattle.model.specs.DescriptorParts.{returns_void, argument_slots}
use Rattle.model.specs.Profile.{has_left_out_type}
use Rattle.classfile.specs.declared.profile.described.Described.{Described}

-- what no text says
abbrev pub nothing : Described
nothing = record { leaves_out = false; returns_void = false; slots = 0 }

abbrev pub described : Name → Described
described text = record { leaves_out = has_left_out_type text; returns_void = returns_void text; slots = argument_slots text }

-- that of each entry's text, by the index of the entry
abbrev pub rows_of : List Entry → List Described
rows_of pool = map (λ e. described (text_of e)) (Unusable ∷ pool)

-- the descriptor in a NameAndType (JVMS 4.4.6)
abbrev pub descriptor_text : List Entry → Entry → Name
descriptor_text pool (NameAndType name descriptor) = text_at pool descriptor
descriptor_text pool e = []

-- the descriptor in what a reference names (JVMS 4.4.2)
abbrev pub text_of_reference : List Entry → Entry → Name
text_of_reference pool (Field class member) = descriptor_text pool (entry_at pool member)
text_of_reference pool (Method class member) = descriptor_text pool (entry_at pool member)
text_of_reference pool (InterfaceMethod class member) = descriptor_text pool (entry_at pool member)
text_of_reference pool e = []

abbrev pub member_text : List Entry → ℕ → Name
member_text pool index = text_of_reference pool (entry_at pool index)
