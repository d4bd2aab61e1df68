-- Instructions by their words: local ones, fields, objects, throws and monitors.
use Rattle.std.proofs.Common.{◌≡◌, ℕ, zero, suc, List, [], ◌∷◌, map, length, drop, Bool, true, false, ◌&&◌, ◌==◌, if◌then◌else◌, Option, Some, None, refl, ap, ◌∙◌, subst}
use Rattle.std.specs.Prelude.{slice_get, slice_index_or}
use Rattle.std.proofs.lemmas.Bool.{false≢true, cond_both}
use Rattle.std.proofs.lemmas.List.{length-map}
use Rattle.model.specs.declared.event.Event.{Event}
use Rattle.model.specs.declared.value.Value.{Value}
use Rattle.model.specs.declared.value.Value.TheVariants as value
use Rattle.model.specs.Names.{Name, name_eq, Member}
use Rattle.model.specs.Classes.{Program}
use Rattle.model.specs.ReferenceTypes.{ReferenceType}
use Rattle.model.specs.Types.{Want, AReference, AnOwner, is_object_of, is_value_below, is_value_of, value_meets}
use Rattle.model.specs.Operands.{Slots, Wants, words, values, over_values, over_words, operands, word_of, word_reference, is_word_of}
use Rattle.model.specs.Rows.{Row, row_wants, after_row, row_target}
use Rattle.model.specs.State.{types_of, World, WorldOf}
use Rattle.model.specs.Outcomes.{Cost, Free, Makes, OutcomeOf, Goes, Raises, Throws, Arithmetic, not_null}
use Rattle.model.specs.Opening.{first_of, new_instance}
use Rattle.model.specs.Worlds.{allocated, object_at, with_object, value_in, fields_of, cells_of, with_field, with_static, put_value, is_owner}
use Rattle.model.specs.Texts.{int_line}
use Rattle.model.specs.BuiltInMethods.{with_printed}
use Rattle.model.specs.Sites.{MeaningOf, Site, operand, referent, int_operand}
use Rattle.model.specs.Objects.{any_object, cast, instance_bit, new_meaning, check_cast_meaning, instance_of_meaning, object_meaning}
use Rattle.model.specs.Meanings.{local_meaning, system_stream_meaning, get_static_of, put_static_of, get_field_of, put_field_of, owner_want, println_meaning}
use Rattle.model.specs.Calls.{of_class}
use Rattle.model.specs.ThrowMeaning.{throw_meaning}
use Rattle.model.specs.MonitorMeanings.{may_enter_object, left, monitor_enter_meaning, monitor_exit_meaning}
use Rattle.model.specs.Step.{ops_of}
use Rattle.model.specs.Words.{map_slots}
use Rattle.run_laws.specs.word_runs.Words.{map_outcome}
use Rattle.run_laws.proofs.laws.Lists.{Pairwise}
use Rattle.run_laws.proofs.laws.WordLists.{map_index, wanted_referent, is_object_want, row_words}
use Rattle.run_laws.proofs.word_runs.WordWorlds.{world_words, object_words, types_words, KeepsTexts, cells_words, object_at_words, field_words, fields_words, with_field_words, put_words, with_object_words, allocated_words, with_static_words, new_words}

-- ---- operands

-- what is popped is as wanted
abbrev pub Kinded : Program → List ReferenceType → Wants → List Value → Type 0
Kinded files os wants ops = Pairwise (value_meets files os) wants.pops (drop (length wants.reads) ops)

pub wanted_at : {A B : Type 0} (R : A → B → Bool) (ws : List A) (ops : List B) (k : ℕ) (w : A) (d : B) → Pairwise R ws ops
    → slice_get ws k ≡ Some w → R w (slice_index_or ops k d) ≡ true
wanted_at R [] ops k w d q e = absurd cc
wanted_at R (x ∷ ws) [] k w d q e = absurd q
wanted_at R (x ∷ ws) (v ∷ ops) zero w d q e = let same : x ≡ w = cc in subst (λ z. R z v ≡ true) same q.0
wanted_at R (x ∷ ws) (v ∷ ops) (suc k) w d q e = wanted_at R ws ops k w d q.1 e

pub operand_words : (ops : List Value) (k : ℕ) → operand words (map word_of ops) k ≡ word_of (operand values ops k)
operand_words ops k = map_index word_of ops k value.Unset

pub int_words : (ops : List Value) (k : ℕ) → int_operand words (map word_of ops) k ≡ int_operand values ops k
int_words ops k = map_index word_of ops k value.Unset

pub referent_words : (files : Program) (os : List ReferenceType) (ws : List Want) (ops : List Value) (k : ℕ) (w : Want)
    → Pairwise (value_meets files os) ws ops → slice_get ws k ≡ Some w → is_object_want w ≡ true
    → referent words (map word_of ops) k ≡ referent values ops k
referent_words files os ws ops k w q e o =
    ap word_reference (operand_words ops k)
    ∙ wanted_referent files os w (operand values ops k) o (wanted_at (value_meets files os) ws ops k w value.Unset q e)

-- ---- outcomes

pub not_null_words : (a b : Option ℕ) (w : ℕ → OutcomeOf ℕ) (v : ℕ → OutcomeOf Value) → a ≡ b → ((r : ℕ) → w r ≡ map_outcome word_of (v r))
    → not_null a w ≡ map_outcome word_of (not_null b v)
not_null_words a b w v e f = ap (λ o. not_null o w) e ∙ by b
  where
    by : (o : Option ℕ) → not_null o w ≡ map_outcome word_of (not_null o v)
    by None = refl
    by (Some r) = f r

pub goes_words : (c cost : Cost) (w : WorldOf ℕ) (world : World) (s : List ℕ) (stack locals : List Value) (next : ℕ) → c ≡ cost
    → w ≡ world_words world → s ≡ map word_of stack
    → Goes c w (record { locals = map word_of locals; stack = s }) next
    ≡ map_outcome word_of (Goes cost world (record { locals = locals; stack = stack }) next)
goes_words c cost w world s stack locals next x e f = λ i. Goes (x i) (e i) (record { locals = map word_of locals; stack = f i }) next

-- with a value pushed
pub pushes_words : (world : World) (n : ℕ) (v : Value) (rest locals : List Value) (next : ℕ) → n ≡ word_of v
    → Goes Free (world_words world) (record { locals = map word_of locals; stack = n ∷ map word_of rest }) next
    ≡ map_outcome word_of (Goes Free world (record { locals = locals; stack = v ∷ rest }) next)
pushes_words world n v rest locals next e = ap (λ x. Goes Free (world_words world) (record { locals = map word_of locals; stack = x ∷ map word_of rest }) next) e

-- with another world
pub becomes_words : (w : WorldOf ℕ) (world : World) (stack locals : List Value) (next : ℕ) → w ≡ world_words world
    → Goes Free w (record { locals = map word_of locals; stack = map word_of stack }) next
    ≡ map_outcome word_of (Goes Free world (record { locals = locals; stack = stack }) next)
becomes_words w world stack locals next e = ap (λ x. Goes Free x (record { locals = map word_of locals; stack = map word_of stack }) next) e

-- ---- two meanings

-- an instruction means for words what it means for values
pub record Same (files : Program) (v : MeaningOf Value) (w : MeaningOf ℕ) : Type 0 where
  pub looks : w.looks ≡ v.looks
  pub wants : w.wants ≡ v.wants
  pub may : (event : Event) (world : World) (ops : List Value) → Kinded files (types_of world.heap) v.wants ops
      → w.may event (world_words world) (map word_of ops) ≡ v.may event world ops
  pub does : (event : Event) (world : World) (slots : Slots Value) (rest : List Value)
      → Kinded files (types_of world.heap) v.wants (ops_of values v slots) → KeepsTexts world
      → w.does event (world_words world) (map_slots word_of slots) (map word_of (ops_of values v slots)) (map word_of rest)
      ≡ map_outcome word_of (v.does event world slots (ops_of values v slots) rest)

module _ (files : Program) where
  -- ---- local instructions

  pub local_same : (row : Row) → Same files (local_meaning values row) (local_meaning words row)
  local_same row =
      record {
        looks = refl;
        wants = refl;
        may = λ event world ops q. refl;
        does = λ event world slots rest q texts. by world slots (map word_of (operands over_values (row_wants row) slots)) (row.fails (map word_of (operands over_values (row_wants row) slots)));
      }
    where
      by : (world : World) (slots : Slots Value) (ns : List ℕ) (fails : Bool)
          → (if fails then Raises Arithmetic else Goes
          Free (world_words world) (after_row over_words row (map_slots word_of slots)) (row_target row ns))
          ≡ map_outcome word_of (if fails then Raises Arithmetic else Goes Free world (after_row over_values row slots) (row_target row ns))
      by world slots ns true = refl
      by world slots ns false = ap (λ s. Goes Free (world_words world) s (row_target row ns)) (row_words row slots)

  -- ---- static fields

  pub system_stream_same : (next stream : ℕ) → Same files (system_stream_meaning values next stream) (system_stream_meaning words next stream)
  system_stream_same next stream = record { looks = refl; wants = refl; may = λ event world ops q. refl; does = λ event world slots rest q texts. refl }

  pub get_static_same : (next : ℕ) (field : Member)
      → Same files (get_static_of values files next field) (get_static_of words files next field)
  get_static_same next field =
      record {
        looks = refl;
        wants = refl;
        may = λ event world ops q. refl;
        does = λ event world slots rest q texts. pushes_words world _ (value_in (first_of values field) field world.statics) rest slots.locals next (field_words field world.statics);
      }

  put_operand : (field : Member) (ops : List Value) (k : ℕ)
      → put_value words field (operand words (map word_of ops) k) ≡ word_of (put_value values field (operand values ops k))
  put_operand field ops k = ap (put_value words field) (operand_words ops k) ∙ put_words field (operand values ops k)

  pub put_static_same : (next : ℕ) (field : Member)
      → Same files (put_static_of values files next field) (put_static_of words files next field)
  put_static_same next field =
      record {
        looks = refl;
        wants = refl;
        may = λ event world ops q. refl;
        does = λ event world slots rest q texts.
            let ops = ops_of values (put_static_of values files next field) slots in
            becomes_words _ (with_static world field (put_value values field (operand values ops 0))) rest slots.locals next
            (ap (λ n. with_static (world_words world) field n) (put_operand field ops 0) ∙ with_static_words world field (put_value values field (operand values ops 0)));
      }

  -- ---- fields of objects

  pub get_field_same : (next : ℕ) (named : Name) (field : Member)
      → Same files (get_field_of values files next named field) (get_field_of words files next named field)
  get_field_same next named field =
      record {
        looks = refl;
        wants = refl;
        may = λ event world ops q. refl;
        does = λ event world slots rest q texts.
            let ops = ops_of values (get_field_of values files next named field) slots in
            not_null_words (referent words (map word_of ops) 0) (referent values ops 0) _
            (λ r. Goes Free world (record { locals = slots.locals; stack = value_in (first_of values field) field (fields_of (object_at world r)) ∷ rest }) next)
            (referent_words files (types_of world.heap) (of_class files named ∷ []) ops 0 (of_class files named) q refl refl)
            (λ r. pushes_words world _ (value_in (first_of values field) field (fields_of (object_at world r))) rest slots.locals next
            (ap (λ o. value_in (first_of words field) field (fields_of o)) (object_at_words world r)
            ∙ (ap (λ l. value_in (first_of words field) field l) (fields_words (object_at world r)) ∙ field_words field (fields_of (object_at world r)))));
      }

  owner_is_object : (named : Name) (field : Member) → is_object_want (owner_want files named field) ≡ true
  owner_is_object named field = cond_both (name_eq named field.class) (AnOwner named) (of_class files named) (λ w. is_object_want w ≡ true) (λ e. refl) (λ e. refl)

  pub put_field_same : (next : ℕ) (named : Name) (field : Member)
      → Same files (put_field_of values files next named field) (put_field_of words files next named field)
  put_field_same next named field =
      record {
        looks = refl;
        wants = refl;
        may = λ event world ops q. refl;
        does = λ event world slots rest q texts.
            let ops = ops_of values (put_field_of values files next named field) slots in
            let kept = put_value values field (operand values ops 0) in
            not_null_words (referent words (map word_of ops) 1) (referent values ops 1) _
            (λ r. Goes Free (with_object world r (with_field field kept (object_at world r))) (record { locals = slots.locals; stack = rest }) next)
            (referent_words files (types_of world.heap) (put_field_of values files next named field).wants.pops ops 1 (owner_want files named field) q refl (owner_is_object named field))
            (λ r. becomes_words _ (with_object world r (with_field field kept (object_at world r))) rest slots.locals next
            (ap (λ n. with_object (world_words world) r (with_field field n (object_at (world_words world) r))) (put_operand field ops 0)
            ∙ (ap (λ o. with_object (world_words world) r (with_field field (word_of kept) o)) (object_at_words world r)
            ∙ (ap (λ o. with_object (world_words world) r o) (with_field_words field kept (object_at world r)) ∙ with_object_words world r (with_field field kept (object_at world r))))));
      }

  pub println_same : (next : ℕ) → Same files (println_meaning values next) (println_meaning words next)
  println_same next =
      record {
        looks = refl;
        wants = refl;
        may = λ event world ops q. refl;
        does = λ event world slots rest q texts.
            let ops = ops_of values (println_meaning values next) slots in
            not_null_words (referent words (map word_of ops) 1) (referent values ops 1) _
            (λ r. Goes Free (with_printed world (int_line (int_operand values ops 0))) (record { locals = slots.locals; stack = rest }) next)
            (referent_words files (types_of world.heap) (println_meaning values next).wants.pops ops 1 _ q refl refl)
            (λ r. becomes_words _ (with_printed world (int_line (int_operand values ops 0))) rest slots.locals next (ap (λ n. with_printed (world_words world) (int_line n)) (int_words ops 0)));
      }

  -- ---- objects

  pub new_same : (site : Site) (class : Name) → Same files (new_meaning values files site class) (new_meaning words files site class)
  new_same site class =
      record {
        looks = refl;
        wants = refl;
        may = λ event world ops q. refl;
        does = λ event world slots rest q texts.
            let new = new_instance values files class in
            goes_words _ (Makes (cells_of new)) _ (allocated world new) _ (value.Reference (length world.heap) ∷ rest) slots.locals site.next
            (ap (λ o. Makes (cells_of o)) (new_words files class) ∙ ap Makes (cells_words new))
            (ap (λ o. allocated (world_words world) o) (new_words files class) ∙ allocated_words world new)
            (ap (λ n. suc n ∷ map word_of rest) (length-map world.heap object_words));
      }

  pub instance_words : (world : World) (os : List ReferenceType) (below type : ReferenceType) (v : Value)
      → is_value_below files os below v ≡ true
      → is_word_of files (types_of (world_words world).heap) type (word_of v) ≡ is_value_of files (types_of world.heap) type v
  instance_words world os below type value.Unset e = absurd (false≢true e)
  instance_words world os below type (value.Int bits) e = absurd (false≢true e)
  instance_words world os below type value.Null e = refl
  instance_words world os below type (value.Reference r) e = ap (λ ts. is_object_of files type (slice_get ts r)) (types_words world.heap)

  -- of an operand
  pub instance_operand : (world : World) (ws : List Want) (ops : List Value) (k : ℕ) (below type : ReferenceType)
      → Pairwise (value_meets files (types_of world.heap)) ws ops → slice_get ws k ≡ Some (AReference below)
      → is_word_of files (types_of (world_words world).heap) type (operand words (map word_of ops) k)
      ≡ is_value_of files (types_of world.heap) type (operand values ops k)
  instance_operand world ws ops k below type q e =
      ap (is_word_of files (types_of (world_words world).heap) type) (operand_words ops k)
      ∙ instance_words world (types_of world.heap) below type (operand values ops k) (wanted_at (value_meets files (types_of world.heap)) ws ops k _ value.Unset q e)

  pub check_cast_same : (site : Site) (type : ReferenceType)
      → Same files (check_cast_meaning values files site type) (check_cast_meaning words files site type)
  check_cast_same site type =
      record {
        looks = refl;
        wants = refl;
        may = λ event world ops q. refl;
        does = λ event world slots rest q texts.
            let ops = ops_of values (check_cast_meaning values files site type) slots in
            ap (λ b. cast b site.next (operand words (map word_of ops) 0) (world_words world) (map_slots word_of slots) (map word_of rest)) (instance_operand world (check_cast_meaning values files site type).wants.pops ops 0 any_object type q refl)
            ∙ (ap (λ n. cast (is_value_of files (types_of world.heap) type (operand values ops 0)) site.next n (world_words world) (map_slots word_of slots) (map word_of rest)) (operand_words ops 0)
            ∙ by (is_value_of files (types_of world.heap) type (operand values ops 0)) (operand values ops 0) world slots rest);
      }
    where
      by : (b : Bool) (v : Value) (world : World) (slots : Slots Value) (rest : List Value)
          → cast b site.next (word_of v) (world_words world) (map_slots word_of slots) (map word_of rest)
          ≡ map_outcome word_of (cast b site.next v world slots rest)
      by true v world slots rest = refl
      by false v world slots rest = refl

  pub instance_of_same : (site : Site) (type : ReferenceType)
      → Same files (instance_of_meaning values files site type) (instance_of_meaning words files site type)
  instance_of_same site type =
      record {
        looks = refl;
        wants = refl;
        may = λ event world ops q. refl;
        does = λ event world slots rest q texts.
            let ops = ops_of values (instance_of_meaning values files site type) slots in
            let ws = (instance_of_meaning values files site type).wants.pops in
            pushes_words world _ (value.Int (instance_bit (referent values ops 0) (is_value_of files (types_of world.heap) type (operand values ops 0)))) rest slots.locals site.next
            (ap (λ o. instance_bit o (is_word_of files (types_of (world_words world).heap) type (operand words (map word_of ops) 0))) (referent_words files (types_of world.heap) ws ops 0 _ q refl refl)
            ∙ ap (λ b. instance_bit (referent values ops 0) b) (instance_operand world ws ops 0 any_object type q refl));
      }

  pub object_same : (site : Site) (class : Name) (r : ℕ)
      → Same files (object_meaning values site class r) (object_meaning words site class r)
  object_same site class r = record { looks = refl; wants = refl; may = λ event world ops q. refl; does = λ event world slots rest q texts. refl }

  -- ---- throws and monitors

  pub throw_same : Same files (throw_meaning values) (throw_meaning words)
  throw_same =
      record {
        looks = refl;
        wants = refl;
        may = λ event world ops q. refl;
        does = λ event world slots rest q texts.
            let ops = ops_of values (throw_meaning values) slots in
            not_null_words (referent words (map word_of ops) 0) (referent values ops 0) _ (λ r. Throws r)
            (referent_words files (types_of world.heap) (throw_meaning values).wants.pops ops 0 _ q refl refl) (λ r. refl);
      }

  pub enter_same : (site : Site) → Same files (monitor_enter_meaning values site) (monitor_enter_meaning words site)
  enter_same site =
      record {
        looks = refl;
        wants = refl;
        may = λ event world ops q.
            ap (λ o. (event.pick == 0) && may_enter_object (world_words world) event.thread o) (referent_words files (types_of world.heap) (monitor_enter_meaning values site).wants.pops ops 0 _ q refl refl)
            ∙ ap (λ b. (event.pick == 0) && b) (entry world event.thread (referent values ops 0));
        does = λ event world slots rest q texts.
            let ops = ops_of values (monitor_enter_meaning values site) slots in
            not_null_words (referent words (map word_of ops) 0) (referent values ops 0) _ _
            (referent_words files (types_of world.heap) (monitor_enter_meaning values site).wants.pops ops 0 _ q refl refl) (λ r. refl);
      }
    where
      entry : (world : World) (t : ℕ) (o : Option ℕ) → may_enter_object (world_words world) t o ≡ may_enter_object world t o
      entry world t None = refl
      entry world t (Some r) = refl

  pub exit_same : (site : Site) → Same files (monitor_exit_meaning values site) (monitor_exit_meaning words site)
  exit_same site =
      record {
        looks = refl;
        wants = refl;
        may = λ event world ops q. refl;
        does = λ event world slots rest q texts.
            let ops = ops_of values (monitor_exit_meaning values site) slots in
            not_null_words (referent words (map word_of ops) 0) (referent values ops 0) _
            (λ r. left (is_owner world event.thread r) site.next event.thread r world slots rest)
            (referent_words files (types_of world.heap) (monitor_exit_meaning values site).wants.pops ops 0 _ q refl refl)
            (λ r. by (is_owner world event.thread r) event.thread r world slots rest);
      }
    where
      by : (b : Bool) (t r : ℕ) (world : World) (slots : Slots Value) (rest : List Value)
          → left b site.next t r (world_words world) (map_slots word_of slots) (map word_of rest)
          ≡ map_outcome word_of (left b site.next t r world slots rest)
      by true t r world slots rest = refl
      by false t r world slots rest = refl
