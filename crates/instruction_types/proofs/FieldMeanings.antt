-- What instructions on fields mean, by the field that is found.
use Rattle.std.proofs.Common.{◌≡◌, ℕ, Bool, true, false, ◌||◌, Some, None, if◌then◌else◌, refl, ap, ◌∙◌}
use Rattle.std.specs.Option.{option_map_or}
use Rattle.model.specs.declared.instr.FieldAccess.{FieldAccess}
use Rattle.model.specs.declared.instr.FieldAccess.TheVariants as access
use Rattle.model.specs.AccessFlags.{is_static_field, is_instance_field}
use Rattle.model.specs.Names.{Member, member_eq, system_out, system_err}
use Rattle.model.specs.Classes.{Program}
use Rattle.model.specs.Lookup.{find_field, field_of}
use Rattle.model.specs.Resolution.{wants_static_field}
use Rattle.model.specs.Opening.{print_stream_reference, error_stream_reference}
use Rattle.model.specs.Operands.{values}
use Rattle.model.specs.Sites.{Site}
use Rattle.model.specs.Meanings.{system_stream_meaning, get_static_of, put_static_of, get_field_of, put_field_of, get_static_by, field_meaning}
use Rattle.instruction_types.specs.Places.{is_field_of_kind}
use Rattle.instruction_types.specs.Fields.{gets_system_stream, accessed}
use Rattle.instruction_types.proofs.Calling.{picked_field}

module _ (files : Program) (site : Site) (m : Member) where
  no_stream : (a b : Bool) → (a || b) ≡ false
      → (if a then Some print_stream_reference else if b then Some (error_stream_reference files) else None) ≡ None
  no_stream false false h = refl
  no_stream false true h = absurd cc
  no_stream true b h = absurd cc

  some_stream : (a b : Bool) → (a || b) ≡ true
      → (stream : ℕ) × ((if a then Some print_stream_reference else if b then Some (error_stream_reference files) else None) ≡ Some stream)
  some_stream true b h = (print_stream_reference, refl)
  some_stream false true h = (error_stream_reference files, refl)
  some_stream false false h = absurd cc

  pub stream_first : (how : FieldAccess) → gets_system_stream how m ≡ true
      → (stream : ℕ) × (field_meaning values files site.next how m ≡ Some (system_stream_meaning values site.next stream))
  stream_first access.GetStatic h =
      let s = some_stream (member_eq m system_out) (member_eq m system_err) h in
      (s.0, ap (get_static_by values files site.next m) s.1)
  stream_first access.PutStatic h = absurd cc
  stream_first access.GetField h = absurd cc
  stream_first access.PutField h = absurd cc

  pub found_so : (how : FieldAccess) (found : Member) → gets_system_stream how m ≡ false → Some found ≡ find_field files m
      → option_map_or (is_field_of_kind (wants_static_field how)) (field_of files found) false ≡ true
      → field_meaning values files site.next how m ≡ Some (accessed files site how m found)
  found_so access.GetStatic found h e k =
      ap (get_static_by values files site.next m) (no_stream (member_eq m system_out) (member_eq m system_err) h)
      ∙ picked_field files is_static_field (get_static_of values files site.next) (find_field files m) found e k
  found_so access.PutStatic found h e k = picked_field files is_static_field (put_static_of values files site.next) (find_field files m) found e k
  found_so access.GetField found h e k = picked_field files is_instance_field (get_field_of values files site.next m.class) (find_field files m) found e k
  found_so access.PutField found h e k = picked_field files is_instance_field (put_field_of values files site.next m.class) (find_field files m) found e k
