-- Instructions that access a field or an element: what they leave of the world, and that they do it again in a later one.
use Rattle.std.proofs.Common.{◌≡◌, refl, subst, ℕ, List}
use Rattle.std.specs.Prelude.{Option, Some, None, Bool, true, false, ◌==◌, IsTrue}
use Rattle.std.proofs.lemmas.Bool.{false≢true}
use Rattle.model.specs.declared.event.Event.{Event}
use Rattle.model.specs.declared.value.Value.{Value}
use Rattle.model.specs.Names.{Name, Member}
use Rattle.model.specs.Classes.{Program}
use Rattle.model.specs.Types.{VerificationType, Want}
use Rattle.model.specs.Operands.{Slots, values}
use Rattle.model.specs.State.{World}
use Rattle.model.specs.Outcomes.{MachineException, Cost, OutcomeOf, Goes, Raises, NullPointer, ArrayIndexOutOfBounds, ArrayStore, not_null}
use Rattle.model.specs.Worlds.{object_at}
use Rattle.model.specs.Sites.{MeaningOf, Site, referent, operand, int_operand}
use Rattle.model.specs.Meanings.{get_static_of, put_static_of, system_stream_meaning, get_field_of, put_field_of}
use Rattle.model.specs.Arrays.{at_index, in_range, load_meaning, store_int_meaning, store_reference_meaning, may_stand_in, if_storable}
use Rattle.data_races.specs.EventActions.{goes_on}
use Rattle.race_laws.proofs.racy_states.Later.{KeepsArrays}
use Rattle.race_laws.proofs.racy_states.Shapes.{IsGrown, grown_itself, grown_by_static, grown_by_field, grown_by_element}

pub record IsAccessing (files : Program) (meaning : MeaningOf Value) : Type 0 where
  pub picks : (event : Event) (world : World) (ops : List Value) → meaning.may event world ops ≡ (event.pick == 0)
  pub grows : (event : Event) (world : World) (slots : Slots Value) (ops rest : List Value) (cost : Cost) (after : World) (left : Slots Value) (to : ℕ)
      → meaning.does event world slots ops rest ≡ Goes cost after left to → IsGrown world after
  pub again : (event : Event) (world later : World) (slots : Slots Value) (ops rest : List Value) → KeepsArrays files world later
      → IsTrue (goes_on (meaning.does event world slots ops rest)) → IsTrue (goes_on (meaning.does event later slots ops rest))

-- where it goes on, it leaves this world
pub goes_to : (world after : World) (slots left : Slots Value) (cost spent : Cost) (to next : ℕ) → IsGrown world after
    → (other : World) → Goes spent after slots next ≡ Goes cost other left to → IsGrown world other
goes_to world after slots left cost spent to next shape other e = let g : after ≡ other = cc in subst (λ v. IsGrown world v) g shape

pub not_raised : {A : Type 0} (fault : MachineException) (cost : Cost) (after : World) (left : Slots Value) (to : ℕ) → Raises fault ≡ Goes cost after left to → A
not_raised fault cost after left to e = absurd (cc)

pub get_static_accesses : (files : Program) (next : ℕ) (field : Member) → IsAccessing files (get_static_of values files next field)
get_static_accesses files next field =
    record {
      picks = λ event world ops. refl;
      grows = λ event world slots ops rest cost after left to e. goes_to world world _ left cost _ to next (grown_itself world) after e;
      again = λ event world later slots ops rest k h. refl;
    }

pub system_stream_accesses : (files : Program) (next stream : ℕ) → IsAccessing files (system_stream_meaning values next stream)
system_stream_accesses files next stream =
    record {
      picks = λ event world ops. refl;
      grows = λ event world slots ops rest cost after left to e. goes_to world world _ left cost _ to next (grown_itself world) after e;
      again = λ event world later slots ops rest k h. refl;
    }

pub put_static_accesses : (files : Program) (next : ℕ) (field : Member) → IsAccessing files (put_static_of values files next field)
put_static_accesses files next field =
    record {
      picks = λ event world ops. refl;
      grows = λ event world slots ops rest cost after left to e. goes_to world _ _ left cost _ to next (grown_by_static world field _) after e;
      again = λ event world later slots ops rest k h. refl;
    }

-- ---- on an object

null_grows : (o : Option ℕ) (go : ℕ → OutcomeOf Value) (world : World)
    → ((r : ℕ) (cost : Cost) (after : World) (left : Slots Value) (to : ℕ) → go r ≡ Goes cost after left to → IsGrown world after)
    → (cost : Cost) (after : World) (left : Slots Value) (to : ℕ) → not_null o go ≡ Goes cost after left to → IsGrown world after
null_grows None go world each cost after left to e = not_raised NullPointer cost after left to e
null_grows (Some r) go world each cost after left to e = each r cost after left to e

null_again : (o : Option ℕ) (go other : ℕ → OutcomeOf Value) → ((r : ℕ) → IsTrue (goes_on (go r)) → IsTrue (goes_on (other r)))
    → IsTrue (goes_on (not_null o go)) → IsTrue (goes_on (not_null o other))
null_again None go other each h = h
null_again (Some r) go other each h = each r h

pub get_field_accesses : (files : Program) (next : ℕ) (named : Name) (field : Member) → IsAccessing files (get_field_of values files next named field)
get_field_accesses files next named field =
    record {
      picks = λ event world ops. refl;
      grows = λ event world slots ops rest cost after left to e.
          null_grows (referent values ops 0) _ world (λ r c a l t g. goes_to world world _ l c _ t next (grown_itself world) a g) cost after left to e;
      again = λ event world later slots ops rest k h. null_again (referent values ops 0) _ _ (λ r g. refl) h;
    }

pub put_field_accesses : (files : Program) (next : ℕ) (named : Name) (field : Member) → IsAccessing files (put_field_of values files next named field)
put_field_accesses files next named field =
    record {
      picks = λ event world ops. refl;
      grows = λ event world slots ops rest cost after left to e.
          null_grows (referent values ops 1) _ world (λ r c a l t g. goes_to world _ _ l c _ t next (grown_by_field world r field _) a g) cost after left to e;
      again = λ event world later slots ops rest k h. null_again (referent values ops 1) _ _ (λ r g. refl) h;
    }

-- ---- on an element

index_grows : (b : Bool) (done : OutcomeOf Value) (world : World)
    → ((cost : Cost) (after : World) (left : Slots Value) (to : ℕ) → done ≡ Goes cost after left to → IsGrown world after)
    → (cost : Cost) (after : World) (left : Slots Value) (to : ℕ) → at_index b done ≡ Goes cost after left to → IsGrown world after
index_grows true done world each cost after left to e = each cost after left to e
index_grows false done world each cost after left to e = not_raised ArrayIndexOutOfBounds cost after left to e

index_again : (b c : Bool) (done other : OutcomeOf Value) → (IsTrue b → IsTrue c) → (IsTrue (goes_on done) → IsTrue (goes_on other))
    → IsTrue (goes_on (at_index b done)) → IsTrue (goes_on (at_index c other))
index_again true true done other keeps each h = each h
index_again true false done other keeps each h = absurd (false≢true (keeps refl))
index_again false c done other keeps each h = absurd (false≢true h)

storable_grows : (b : Bool) (done : OutcomeOf Value) (world : World)
    → ((cost : Cost) (after : World) (left : Slots Value) (to : ℕ) → done ≡ Goes cost after left to → IsGrown world after)
    → (cost : Cost) (after : World) (left : Slots Value) (to : ℕ) → if_storable b done ≡ Goes cost after left to → IsGrown world after
storable_grows true done world each cost after left to e = each cost after left to e
storable_grows false done world each cost after left to e = not_raised ArrayStore cost after left to e

storable_again : (b c : Bool) (done other : OutcomeOf Value) → (IsTrue b → IsTrue c) → (IsTrue (goes_on done) → IsTrue (goes_on other))
    → IsTrue (goes_on (if_storable b done)) → IsTrue (goes_on (if_storable c other))
storable_again true true done other keeps each h = each h
storable_again true false done other keeps each h = absurd (false≢true (keeps refl))
storable_again false c done other keeps each h = absurd (false≢true h)

pub load_accesses : (files : Program) (site : Site) (array : Want) (first : Value) (type : List VerificationType → VerificationType) → IsAccessing files (load_meaning values site array first type)
load_accesses files site array first type =
    record {
      picks = λ event world ops. refl;
      grows = λ event world slots ops rest cost after left to e.
          null_grows (referent values ops 1) _ world
          (λ r c a l t g. index_grows (in_range world r (int_operand values ops 0)) _ world
          (λ c' a' l' t' g'. goes_to world world _ l' c' _ t' site.next (grown_itself world) a' g') c a l t g) cost after left to e;
      again = λ event world later slots ops rest k h.
          null_again (referent values ops 1) _ _
          (λ r g. index_again (in_range world r (int_operand values ops 0)) (in_range later r (int_operand values ops 0)) _ _ (k.ranges r (int_operand values ops 0)) (λ x. refl) g) h;
    }

pub store_int_accesses : (files : Program) (site : Site) (array : Want) → IsAccessing files (store_int_meaning values site array)
store_int_accesses files site array =
    record {
      picks = λ event world ops. refl;
      grows = λ event world slots ops rest cost after left to e.
          null_grows (referent values ops 2) _ world
          (λ r c a l t g. index_grows (in_range world r (int_operand values ops 1)) _ world
          (λ c' a' l' t' g'. goes_to world _ _ l' c' _ t' site.next (grown_by_element world r (int_operand values ops 1) _) a' g') c a l t g) cost after left to e;
      again = λ event world later slots ops rest k h.
          null_again (referent values ops 2) _ _
          (λ r g. index_again (in_range world r (int_operand values ops 1)) (in_range later r (int_operand values ops 1)) _ _ (k.ranges r (int_operand values ops 1)) (λ x. refl) g) h;
    }

pub store_reference_accesses : (files : Program) (site : Site) → IsAccessing files (store_reference_meaning values files site)
store_reference_accesses files site =
    record {
      picks = λ event world ops. refl;
      grows = λ event world slots ops rest cost after left to e.
          null_grows (referent values ops 2) _ world
          (λ r c a l t g. index_grows (in_range world r (int_operand values ops 1)) _ world
          (λ c' a' l' t' g'. storable_grows (may_stand_in values files world (object_at world r) (operand values ops 0)) _ world
          (λ c'' a'' l'' t'' g''. goes_to world _ _ l'' c'' _ t'' site.next (grown_by_element world r (int_operand values ops 1) _) a'' g'') c' a' l' t' g') c a l t g) cost after left to e;
      again = λ event world later slots ops rest k h.
          null_again (referent values ops 2) _ _
          (λ r g. index_again (in_range world r (int_operand values ops 1)) (in_range later r (int_operand values ops 1)) _ _ (k.ranges r (int_operand values ops 1))
          (λ x. storable_again (may_stand_in values files world (object_at world r) (operand values ops 0)) (may_stand_in values files later (object_at later r) (operand values ops 0)) _ _
          (k.stores r (operand values ops 0)) (λ y. refl) x) g) h;
    }
