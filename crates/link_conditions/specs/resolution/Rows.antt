-- What the entries of a constant pool say of the instructions that name them, so that each is looked up once.
use Rattle.std.specs.Prelude.{◌≡◌, ℕ, ◌<◌, ◌^◌, List, ◌∷◌, Option, Bool, false, map, slice_index_or}
use Rattle.std.specs.Option.{option_map_or}
use Rattle.model.specs.declared.instr.Instr.TheVariants as instrs
use Rattle.model.specs.declared.instr.FieldAccess.TheVariants as access
use Rattle.model.specs.declared.instr.Invocation.TheVariants as invocation
use Rattle.model.specs.Tree.{Entry, FileTree, Unusable}
use Rattle.model.specs.Spelling.{text_of}
use Rattle.model.specs.Pool.{NameAndDescriptor, class_name_at}
use Rattle.model.specs.Classes.{Program}
use Rattle.model.specs.Descriptors.{FieldType}
use Rattle.model.specs.DescriptorParts.{class_of_element}
use Rattle.model.specs.Resolution.{is_missing, is_missing_catch, unresolved_instruction}
use Rattle.link_conditions.specs.declared.resolution.table.Row.{Row}
use Rattle.link_conditions.specs.resolution.Unresolved.{lacks_class}

-- ---- the texts

-- a type that is a class that is not found, or an array of such
abbrev pub names_missing : Program → FieldType → Bool
names_missing files f = option_map_or (is_missing files) (class_of_element f.element) false

-- the descriptor of a member names a class that is not found
abbrev pub descriptor_lacks_class : Program → Option NameAndDescriptor → Bool
descriptor_lacks_class files member = option_map_or (λ (n : NameAndDescriptor). lacks_class files n.descriptor) member false

-- whether a class is not found that the text of an entry names as a descriptor, by the index of the entry
abbrev pub lacking_texts : Program → List Entry → List Bool
lacking_texts files pool = map (λ e. lacks_class files (text_of e)) (Unusable ∷ pool)

-- ---- the entries

-- what no entry says
abbrev pub nothing : Row
nothing = record { class = false; new = false; catch_type = false; get_static = false; put_static = false; instance_field = false; static_method = false; instance_method = false; interface_method = false }

-- which instructions are unresolved if they name the entry of an index, and whether it is a catch type that is not found
abbrev pub row_of : Program → FileTree → ℕ → Row
row_of files file k = record {
  class = unresolved_instruction files file (instrs.CheckCast k);
  new = unresolved_instruction files file (instrs.New k);
  catch_type = option_map_or (is_missing_catch files) (class_name_at file.pool k) false;
  get_static = unresolved_instruction files file (instrs.Field access.GetStatic k);
  put_static = unresolved_instruction files file (instrs.Field access.PutStatic k);
  instance_field = unresolved_instruction files file (instrs.Field access.GetField k);
  static_method = unresolved_instruction files file (instrs.Invoke invocation.Static k);
  instance_method = unresolved_instruction files file (instrs.Invoke invocation.Virtual k);
  interface_method = unresolved_instruction files file (instrs.InvokeInterface k 0 0);
}

-- the rows of a table say it of each index
abbrev pub Tells : Program → FileTree → List Row → Type 0
Tells files file rows = (k : ℕ) → k < 2 ^ 16 → slice_index_or rows k nothing ≡ row_of files file k
