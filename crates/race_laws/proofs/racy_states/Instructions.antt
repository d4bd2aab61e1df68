-- Which instructions access a field or an element.
use Rattle.std.proofs.Common.{◌≡◌, refl, sym, ◌∙◌, subst, ℕ, List}
use Rattle.std.specs.Prelude.{Option, Some, None, Bool, true, false, if◌then◌else◌}
use Rattle.std.specs.Option.{option_and_then}
use Rattle.model.specs.declared.value.Value.{Value}
use Rattle.model.specs.declared.instr.Instr.{Instr}
use Rattle.model.specs.declared.instr.Instr.TheVariants as instr
use Rattle.model.specs.declared.instr.FieldAccess.{FieldAccess}
use Rattle.model.specs.declared.instr.FieldAccess.TheVariants as access
use Rattle.model.specs.declared.instr.ArrayKind.{ArrayKind}
use Rattle.model.specs.declared.instr.ArrayKind.TheVariants as array_kind
use Rattle.model.specs.Names.{Member}
use Rattle.model.specs.Tree.{FieldTree}
use Rattle.model.specs.Pool.{integers_of, field_at}
use Rattle.model.specs.Classes.{Program}
use Rattle.model.specs.Lookup.{find_field, is_static_field, is_instance_field}
use Rattle.model.specs.Operands.{values}
use Rattle.model.specs.Rows.{Row, local_row}
use Rattle.model.specs.State.{World}
use Rattle.model.specs.Sites.{MeaningOf, Site}
use Rattle.model.specs.Arrays.{load_of, store_of, an_int, its_component}
use Rattle.model.specs.Meanings.{meaning_of, local_or, local_meaning, other_meaning, field_meaning, if_field, get_static_of, put_static_of, get_field_of, put_field_of, stream_of, get_static_by, system_stream_meaning}
use Rattle.data_races.specs.Actions.{Action}
use Rattle.data_races.specs.EventActions.{access_by, method_run}
use Rattle.data_races.proofs.Decided.{In}
use Rattle.race_laws.proofs.racy_states.Accessing.{IsAccessing, get_static_accesses, system_stream_accesses, put_static_accesses, get_field_accesses, put_field_accesses, load_accesses, store_int_accesses, store_reference_accesses}

either_of : Option Row → Option (MeaningOf Value) → Option (MeaningOf Value)
either_of (Some row) other = Some (local_meaning values row)
either_of None other = other

module _ (files : Program) (site : Site) where
  with_instr : Instr → Option (MeaningOf Value)
  with_instr i = either_of (local_row (integers_of site.body.pool) site.body.code.code site.offset site.next i) (other_meaning values files site i)

  by_row : (o : Option Row) → local_or values files site o ≡ either_of o (other_meaning values files site site.instr)
  unfolding either_of
  by_row (Some row) = refl
  by_row None = refl

  meant : meaning_of values files site ≡ with_instr site.instr
  unfolding with_instr
  meant = by_row (local_row (integers_of site.body.pool) site.body.code.code site.offset site.next site.instr)

  -- ---- fields

  module _ (meaning : MeaningOf Value) where
    of_some : (other : MeaningOf Value) → IsAccessing files other → Some other ≡ Some meaning → IsAccessing files meaning
    of_some other h e = let g : other ≡ meaning = cc in subst (λ (m : MeaningOf Value). IsAccessing files m) g h

    if_case : (b : Bool) (other : MeaningOf Value) → IsAccessing files other → (if b then Some other else None) ≡ Some meaning → IsAccessing files meaning
    if_case true other h e = of_some other h e
    if_case false other h e = absurd (cc)

    found_case : (o : Option Member) (test : FieldTree → Bool) (make : Member → MeaningOf Value) → ((field : Member) → IsAccessing files (make field))
        → option_and_then (if_field test files make) o ≡ Some meaning → IsAccessing files meaning
    found_case None test make each e = absurd (cc)
    found_case (Some field) test make each e = if_case _ (make field) (each field) e

    static_case : (o : Option ℕ) (named : Member) → get_static_by values files site.next named o ≡ Some meaning → IsAccessing files meaning
    static_case (Some stream) named e = of_some (system_stream_meaning values site.next stream) (system_stream_accesses files site.next stream) e
    static_case None named e = found_case (find_field files named) is_static_field (get_static_of values files site.next) (get_static_accesses files site.next) e

    named_case : (kind : FieldAccess) (named : Member) → field_meaning values files site.next kind named ≡ Some meaning → IsAccessing files meaning
    named_case access.GetStatic named e = static_case (stream_of files named) named e
    named_case access.PutStatic named e = found_case (find_field files named) is_static_field (put_static_of values files site.next) (put_static_accesses files site.next) e
    named_case access.GetField named e =
        found_case (find_field files named) is_instance_field (get_field_of values files site.next named.class) (get_field_accesses files site.next named.class) e
    named_case access.PutField named e =
        found_case (find_field files named) is_instance_field (put_field_of values files site.next named.class) (put_field_accesses files site.next named.class) e

    field_case : (kind : FieldAccess) (o : Option Member) → option_and_then (field_meaning values files site.next kind) o ≡ Some meaning → IsAccessing files meaning
    field_case kind None e = absurd (cc)
    field_case kind (Some named) e = named_case kind named e

    load_case : (kind : ArrayKind) → Some (load_of values files site kind) ≡ Some meaning → IsAccessing files meaning
    load_case array_kind.Int e = of_some _ (load_accesses files site _ _ an_int) e
    load_case array_kind.Reference e = of_some _ (load_accesses files site _ _ (its_component files)) e
    load_case array_kind.ByteOrBoolean e = of_some _ (load_accesses files site _ _ an_int) e
    load_case array_kind.Char e = of_some _ (load_accesses files site _ _ an_int) e
    load_case array_kind.Short e = of_some _ (load_accesses files site _ _ an_int) e

    store_case : (kind : ArrayKind) → Some (store_of values files site kind) ≡ Some meaning → IsAccessing files meaning
    store_case array_kind.Int e = of_some _ (store_int_accesses files site _) e
    store_case array_kind.Reference e = of_some _ (store_reference_accesses files site) e
    store_case array_kind.ByteOrBoolean e = of_some _ (store_int_accesses files site _) e
    store_case array_kind.Char e = of_some _ (store_int_accesses files site _) e
    store_case array_kind.Short e = of_some _ (store_int_accesses files site _) e

    by_instr : (a : Action) (ops : List Value) (i : Instr) → In a (access_by files site ops i) → with_instr i ≡ Some meaning → IsAccessing files meaning
    unfolding with_instr either_of
    by_instr a ops (instr.Field kind index) h e = field_case kind (field_at site.body.pool index) e
    by_instr a ops (instr.LoadElement kind) h e = load_case kind e
    by_instr a ops (instr.StoreElement kind) h e = store_case kind e
    by_instr a ops _ h e = absurd h

    -- where the instruction of a site accesses a variable
    pub accessing : (a : Action) (ops : List Value) → In a (access_by files site ops site.instr) → meaning_of values files site ≡ Some meaning → IsAccessing files meaning
    accessing a ops h e = by_instr a ops site.instr h (sym meant ∙ e)

  -- it runs no method
  no_method : (a : Action) (ops others : List Value) (world : World) (i : Instr) → In a (access_by files site ops i) → method_run files site world others i ≡ None
  no_method a ops others world (instr.Field kind index) h = refl
  no_method a ops others world (instr.LoadElement kind) h = refl
  no_method a ops others world (instr.StoreElement kind) h = refl
  no_method a ops others world _ h = absurd h

  pub runs_none : (a : Action) (ops others : List Value) (world : World) → In a (access_by files site ops site.instr) → method_run files site world others site.instr ≡ None
  runs_none a ops others world h = no_method a ops others world site.instr h
