-- What holds of each kind of instruction that accesses a variable holds of all that do.
use Rattle.std.proofs.Common.{◌≡◌, refl, sym, ◌∙◌, subst, ℕ, List}
use Rattle.std.specs.Prelude.{Option, Some, None, Bool, true, false, if◌then◌else◌}
use Rattle.std.specs.Option.{option_and_then}
use Rattle.std.proofs.lemmas.Option.{same_Some, none-some}
use Rattle.model.specs.declared.value.Value.{Value}
use Rattle.model.specs.declared.instr.Instr.{Instr}
use Rattle.model.specs.declared.instr.Instr.TheVariants as instr
use Rattle.model.specs.declared.instr.FieldAccess.{FieldAccess}
use Rattle.model.specs.declared.instr.FieldAccess.TheVariants as access
use Rattle.model.specs.declared.instr.ArrayKind.{ArrayKind}
use Rattle.model.specs.Names.{Name, Member}
use Rattle.model.specs.Tree.{FieldTree}
use Rattle.model.specs.Pool.{integers_of, field_at}
use Rattle.model.specs.Classes.{Program}
use Rattle.model.specs.Lookup.{find_field, is_static_field, is_instance_field}
use Rattle.model.specs.Operands.{values}
use Rattle.model.specs.Rows.{Row, local_row}
use Rattle.model.specs.Sites.{MeaningOf, Site}
use Rattle.model.specs.Arrays.{load_of, store_of}
use Rattle.model.specs.Meanings.{meaning_of, local_or, local_meaning, other_meaning, field_meaning, if_field, get_static_of, put_static_of, get_field_of, put_field_of, stream_of, get_static_by, system_stream_meaning}
use Rattle.data_races.specs.Actions.{Action}
use Rattle.data_races.specs.EventActions.{access_by}
use Rattle.data_races.proofs.Decided.{In}

either_of : Option Row → Option (MeaningOf Value) → Option (MeaningOf Value)
either_of (Some row) other = Some (local_meaning values row)
either_of None other = other

module _ (files : Program) (site : Site) (Holds : Instr → MeaningOf Value → Type 0) where
  pub record HoldsOfEach : Type 0 where
    pub system_stream : (index stream : ℕ) → Holds (instr.Field access.GetStatic index) (system_stream_meaning values site.next stream)
    pub get_static : (index : ℕ) (field : Member) → Holds (instr.Field access.GetStatic index) (get_static_of values files site.next field)
    pub put_static : (index : ℕ) (field : Member) → Holds (instr.Field access.PutStatic index) (put_static_of values files site.next field)
    pub get_field : (index : ℕ) (named : Name) (field : Member) → Holds (instr.Field access.GetField index) (get_field_of values files site.next named field)
    pub put_field : (index : ℕ) (named : Name) (field : Member) → Holds (instr.Field access.PutField index) (put_field_of values files site.next named field)
    pub load : (kind : ArrayKind) → Holds (instr.LoadElement kind) (load_of values files site kind)
    pub store : (kind : ArrayKind) → Holds (instr.StoreElement kind) (store_of values files site kind)

  with_instr : Instr → Option (MeaningOf Value)
  with_instr i = either_of (local_row (integers_of site.body.pool) site.body.code.code site.offset site.next i) (other_meaning values files site i)

  by_row : (o : Option Row) → local_or values files site o ≡ either_of o (other_meaning values files site site.instr)
  unfolding either_of
  by_row (Some row) = refl
  by_row None = refl

  meant : meaning_of values files site ≡ with_instr site.instr
  unfolding with_instr
  meant = by_row (local_row (integers_of site.body.pool) site.body.code.code site.offset site.next site.instr)

  module _ (each : HoldsOfEach) (meaning : MeaningOf Value) where
    of_some : (i : Instr) (other : MeaningOf Value) → Holds i other → Some other ≡ Some meaning → Holds i meaning
    of_some i other h e = subst (λ (m : MeaningOf Value). Holds i m) (same_Some other meaning e) h

    if_case : (i : Instr) (b : Bool) (other : MeaningOf Value) → Holds i other → (if b then Some other else None) ≡ Some meaning → Holds i meaning
    if_case i true other h e = of_some i other h e
    if_case i false other h e = absurd (none-some meaning e)

    found_case : (i : Instr) (o : Option Member) (test : FieldTree → Bool) (make : Member → MeaningOf Value) → ((field : Member) → Holds i (make field))
        → option_and_then (if_field test files make) o ≡ Some meaning → Holds i meaning
    found_case i None test make holds e = absurd (none-some meaning e)
    found_case i (Some field) test make holds e = if_case i _ (make field) (holds field) e

    static_case : (index : ℕ) (o : Option ℕ) (named : Member) → get_static_by values files site.next named o ≡ Some meaning
        → Holds (instr.Field access.GetStatic index) meaning
    static_case index (Some stream) named e = of_some _ (system_stream_meaning values site.next stream) (each.system_stream index stream) e
    static_case index None named e =
        found_case _ (find_field files named) is_static_field (get_static_of values files site.next) (each.get_static index) e

    named_case : (kind : FieldAccess) (index : ℕ) (named : Member) → field_meaning values files site.next kind named ≡ Some meaning
        → Holds (instr.Field kind index) meaning
    named_case access.GetStatic index named e = static_case index (stream_of files named) named e
    named_case access.PutStatic index named e =
        found_case _ (find_field files named) is_static_field (put_static_of values files site.next) (each.put_static index) e
    named_case access.GetField index named e =
        found_case _ (find_field files named) is_instance_field (get_field_of values files site.next named.class) (each.get_field index named.class) e
    named_case access.PutField index named e =
        found_case _ (find_field files named) is_instance_field (put_field_of values files site.next named.class) (each.put_field index named.class) e

    field_case : (kind : FieldAccess) (index : ℕ) (o : Option Member) → option_and_then (field_meaning values files site.next kind) o ≡ Some meaning
        → Holds (instr.Field kind index) meaning
    field_case kind index None e = absurd (none-some meaning e)
    field_case kind index (Some named) e = named_case kind index named e

    by_instr : (a : Action) (ops : List Value) (i : Instr) → In a (access_by files site ops i) → with_instr i ≡ Some meaning → Holds i meaning
    unfolding with_instr either_of
    by_instr a ops (instr.Field kind index) h e = field_case kind index (field_at site.body.pool index) e
    by_instr a ops (instr.LoadElement kind) h e = of_some _ _ (each.load kind) e
    by_instr a ops (instr.StoreElement kind) h e = of_some _ _ (each.store kind) e
    by_instr a ops _ h e = absurd h

    -- where the instruction of the site accesses a variable
    pub holds : (a : Action) (ops : List Value) → In a (access_by files site ops site.instr) → meaning_of values files site ≡ Some meaning
        → Holds site.instr meaning
    holds a ops h e = by_instr a ops site.instr h (sym meant ∙ e)
