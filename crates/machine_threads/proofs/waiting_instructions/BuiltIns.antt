-- The built-in methods: none but join waits, and join waits for the end of a thread that is alive.
use Rattle.std.proofs.Common.{◌≡◌, ℕ, List, [], Option, Some, None, Bool, true, false, not, ◌&&◌, ◌||◌, if◌then◌else◌, length, refl, sym, ◌∙◌}
use Rattle.std.specs.Prelude.{nat_lt, is_none, is_some}
use Rattle.std.proofs.lemmas.Bool.{true≢false}
use Rattle.model.specs.Names.{Member}
use Rattle.model.specs.Classes.{Program, Body, body_of}
use Rattle.model.specs.ObjectMethods as object
use Rattle.model.specs.ObjectMethods.{ObjectAnswer, object_answer, object_place, tells, type_at}
use Rattle.model.specs.Operands.{Slots, words}
use Rattle.model.specs.Outcomes.{OutcomeOf, Interrupts, not_null}
use Rattle.model.specs.StringMethods.{StringAnswer, IsNull, IsOutside, Answers, Same, Composes, string_answer}
use Rattle.model.specs.BuilderMethods as builder
use Rattle.model.specs.BuilderMethods.{BuilderAnswer, builder_answer, builder_shown, builds}
use Rattle.model.specs.Sites.{Site, referent, int_operand}
use Rattle.model.specs.Cloning.{is_cloneable, cloned}
use Rattle.model.specs.declared.name_method.NameMethod.{NameMethod}
use Rattle.model.specs.declared.name_method.NameMethod.TheVariants as names
use Rattle.model.specs.TextMethods as text
use Rattle.model.specs.TextMethods.{TextAnswer, text_answer, gives_standing, standing_for, units_operand, writes}
use Rattle.model.specs.Texts.{Text}
use Rattle.model.specs.ThreadNames.{gives_name, kept_name, ordinal_text, thread_names}
use Rattle.model.specs.Opening.{opening_count, string_reference, string_references}
use Rattle.model.specs.State.{ObjectOf, WorldOf, type_of}
use Rattle.model.specs.Worlds.{is_owner, is_alive, object_at, thread_at, thread_of, waiters_of, string_shown}
use Rattle.model.specs.BuiltInMethods as built_in
use Rattle.model.specs.BuiltInMethods.{BuiltInMethod, built_in_method, built_in_may, built_in_does, object_of, wait_by, if_owner, start_by, join_by, string_operand, answered}
use Rattle.model.specs.Calls.{Chosen, Fails, Runs, may_run, runs, may_invoke, invoked}
use Rattle.linked_code.specs.declared.method.BuiltInMethod as linked
use Rattle.linked_code.specs.declared.method.BuiltInMethod.TheVariants as method
use Rattle.linked_code.specs.Methods.{built_in_of}
use Rattle.machine_state.specs.linked_frames.Frames.{event_of}
use Rattle.machine_threads.proofs.waiting_instructions.Quick.{Stays}

wait_stays : (b c : Bool) (t object : ℕ) (world : WorldOf ℕ) (rest : List ℕ) → Stays (wait_by b c t object world rest)
wait_stays false c t object world rest = tt
wait_stays true true t object world rest = tt
wait_stays true false t object world rest = tt

owner_stays : (b : Bool) (done : OutcomeOf ℕ) → Stays done → Stays (if_owner b done)
owner_stays true done h = h
owner_stays false done h = tt

start_stays : (b : Bool) (next object : ℕ) (world : WorldOf ℕ) (slots : Slots ℕ) (rest : List ℕ)
    → Stays (start_by b next object world slots rest)
start_stays true next object world slots rest = tt
start_stays false next object world slots rest = tt

join_stays : (b : Bool) (next : ℕ) (world : WorldOf ℕ) (slots : Slots ℕ) (rest : List ℕ) → Stays (join_by b next world slots rest)
join_stays true next world slots rest = tt
join_stays false next world slots rest = tt

answer_stays : (answer : StringAnswer) (next : ℕ) (world : WorldOf ℕ) (slots : Slots ℕ) (ops rest : List ℕ)
    → Stays (answered words answer next world slots ops rest)
answer_stays IsNull next world slots ops rest = tt
answer_stays IsOutside next world slots ops rest = tt
answer_stays (Answers bits) next world slots ops rest = tt
answer_stays (Same k) next world slots ops rest = tt
answer_stays (Composes text) next world slots ops rest = tt

build_stays : (answer : BuilderAnswer) (empty next : ℕ) (world : WorldOf ℕ) (slots : Slots ℕ) (ops rest : List ℕ)
    → Stays (builds words empty answer next world slots ops rest)
build_stays builder.IsNull empty next world slots ops rest = tt
build_stays builder.KeepsEmpty empty next world slots ops rest = tt
build_stays builder.Keeps empty next world slots ops rest = tt
build_stays (builder.Adds added) empty next world slots ops rest = tt
build_stays builder.GivesText empty next world slots ops rest = tt

told_stays : (answer : ObjectAnswer) (files : Program) (next : ℕ) (world : WorldOf ℕ) (slots : Slots ℕ) (rest : List ℕ)
    → Stays (tells words files answer next world slots rest)
told_stays object.IsNull files next world slots rest = tt
told_stays object.HasNoClass files next world slots rest = tt
told_stays (object.Answers bits) files next world slots rest = tt
told_stays (object.IsOf class) files next world slots rest = tt
told_stays (object.Composes text) files next world slots rest = tt

clone_stays : (b : Bool) (object : ObjectOf ℕ) (next : ℕ) (world : WorldOf ℕ) (slots : Slots ℕ) (rest : List ℕ)
    → Stays (cloned words b object next world slots rest)
clone_stays true object next world slots rest = tt
clone_stays false object next world slots rest = tt

-- of one that wants a name
kept_stays : (name : Option ℕ) (go : ℕ → OutcomeOf ℕ) → ((r : ℕ) → Stays (go r)) → Stays (not_null name go)
kept_stays None go h = tt
kept_stays (Some r) go h = h r

given_stays : (name : Option ℕ) (text : Text) (next : ℕ) (world : WorldOf ℕ) (slots : Slots ℕ) (ops rest : List ℕ)
    → Stays (gives_name words name text next world slots ops rest)
given_stays None text next world slots ops rest = tt
given_stays (Some name) text next world slots ops rest = tt

name_stays : (method : NameMethod) (next : ℕ) (world : WorldOf ℕ) (slots : Slots ℕ) (ops rest : List ℕ)
    → Stays (thread_names words method next world slots ops rest)
name_stays names.Construct next world slots ops rest = tt
name_stays names.ConstructWithTarget next world slots ops rest = tt
name_stays names.ConstructWithName next world slots ops rest = kept_stays (referent words ops 0) _ (λ r. tt)
name_stays names.ConstructWithTargetAndName next world slots ops rest = kept_stays (referent words ops 0) _ (λ r. tt)
name_stays names.GetName next world slots ops rest =
    given_stays (words.referent (kept_name words (object_at world (object_of words ops 0)))) (ordinal_text words (object_at world (object_of words ops 0))) next world slots ops rest
name_stays names.SetName next world slots ops rest = kept_stays (referent words ops 0) _ (λ r. tt)

standing_stays : (string : Option ℕ) (next : ℕ) (world : WorldOf ℕ) (slots : Slots ℕ) (ops rest : List ℕ)
    → Stays (gives_standing words string next world slots ops rest)
standing_stays None next world slots ops rest = tt
standing_stays (Some string) next world slots ops rest = tt

write_stays : (answer : TextAnswer) (opened : ℕ) (constants : List ℕ) (next : ℕ) (world : WorldOf ℕ) (slots : Slots ℕ) (ops rest : List ℕ)
    → Stays (writes words opened constants answer next world slots ops rest)
write_stays text.IsNull opened constants next world slots ops rest = tt
write_stays text.IsOutside opened constants next world slots ops rest = tt
write_stays text.IsOutsideArray opened constants next world slots ops rest = tt
write_stays (text.Becomes receiver units) opened constants next world slots ops rest = tt
write_stays (text.Stores array index units) opened constants next world slots ops rest = tt
write_stays (text.StandsFor units) opened constants next world slots ops rest = standing_stays (standing_for constants world units) next world slots ops rest

-- a built-in method calls nothing
pub built_in_stays : (files : Program) (of : BuiltInMethod) (next t : ℕ) (world : WorldOf ℕ) (slots : Slots ℕ) (ops rest : List ℕ)
    → Stays (built_in_does words files of next (event_of t) world slots ops rest)
built_in_stays files built_in.Construct next t world slots ops rest = tt
built_in_stays files built_in.ObjectClone next t world slots ops rest =
    clone_stays (is_cloneable files (type_of (object_at world (object_of words ops 0)))) (object_at world (object_of words ops 0)) next world slots rest
built_in_stays files built_in.ConstructWithMessage next t world slots ops rest = tt
built_in_stays files built_in.ConstructWithCause next t world slots ops rest = tt
built_in_stays files built_in.ObjectWait next t world slots ops rest = wait_stays (is_owner world t (object_of words ops 0)) (thread_at world t).interrupted t _ world rest
built_in_stays files built_in.ObjectNotify next t world slots ops rest = owner_stays (is_owner world t (object_of words ops 0)) _ tt
built_in_stays files built_in.ObjectNotifyAll next t world slots ops rest = owner_stays (is_owner world t (object_of words ops 0)) _ tt
built_in_stays files built_in.ThreadStart next t world slots ops rest = start_stays (is_some (thread_of world (object_of words ops 0))) next _ world slots rest
built_in_stays files built_in.ThreadInterrupt next t world slots ops rest = tt
built_in_stays files built_in.ThreadIsInterrupted next t world slots ops rest = tt
built_in_stays files built_in.ThreadInterrupted next t world slots ops rest = tt
built_in_stays files built_in.ThreadYield next t world slots ops rest = tt
built_in_stays files built_in.ThreadCurrentThread next t world slots ops rest = tt
built_in_stays files built_in.ThreadJoin next t world slots ops rest = join_stays (is_alive world (object_of words ops 0)) next world slots rest
built_in_stays files built_in.ThreadIsAlive next t world slots ops rest = tt
built_in_stays files (built_in.ThreadNames names) next t world slots ops rest = name_stays names next world slots ops rest
built_in_stays files (built_in.PrintStreamPrints print) next t world slots ops rest = tt
built_in_stays files (built_in.StringAnswers method) next t world slots ops rest =
    answer_stays (string_answer method (int_operand words ops) (string_operand words world ops)) next world slots ops rest
built_in_stays files (built_in.StringWrites writes) next t world slots ops rest =
    write_stays (text_answer writes (int_operand words ops) (string_operand words world ops) (units_operand words world ops)) (opening_count files)
    (string_references files) next world slots ops rest
built_in_stays files (built_in.StringBuilderBuilds method) next t world slots ops rest =
    build_stays
    (builder_answer method (int_operand words ops 0) (is_none (referent words ops 0)) (string_shown world (referent words ops 0)) (builder_shown words world (referent words ops 0)))
    (string_reference files []) next world slots ops rest
built_in_stays files (built_in.ObjectAnswers method) next t world slots ops rest =
    told_stays (object_answer files method (referent words ops (object_place method)) (type_at world) (int_operand words ops 0)) files next world slots rest

-- where a member waits, the first may be picked; else nothing is
notify_may : (owner : Bool) (n : ℕ) → (if owner && nat_lt 0 n then nat_lt 0 n else true) ≡ true
notify_may false n = refl
notify_may true n = by (nat_lt 0 n) refl
  where
    by : (b : Bool) → nat_lt 0 n ≡ b → (if b then nat_lt 0 n else true) ≡ true
    by true e = e
    by false e = refl

-- any but join may be done by an event that picks nothing
pub built_in_allowed : (called : linked.BuiltInMethod) → (called ≡ method.ThreadJoin → ⊥) → (t : ℕ) (world : WorldOf ℕ) (ops : List ℕ)
    → built_in_may words (built_in_of called) (event_of t) world ops ≡ true
built_in_allowed method.Construct n t world ops = refl
built_in_allowed method.ObjectClone n t world ops = refl
built_in_allowed method.ConstructWithMessage n t world ops = refl
built_in_allowed method.ConstructWithCause n t world ops = refl
built_in_allowed method.ObjectWait n t world ops = refl
built_in_allowed method.ObjectNotify n t world ops = notify_may (is_owner world t (object_of words ops 0)) (length (waiters_of world (object_of words ops 0)))
built_in_allowed method.ObjectNotifyAll n t world ops = refl
built_in_allowed method.ThreadStart n t world ops = refl
built_in_allowed method.ThreadInterrupt n t world ops = refl
built_in_allowed method.ThreadIsInterrupted n t world ops = refl
built_in_allowed method.ThreadInterrupted n t world ops = refl
built_in_allowed method.ThreadYield n t world ops = refl
built_in_allowed method.ThreadCurrentThread n t world ops = refl
built_in_allowed method.ThreadJoin n t world ops = absurd (n refl)
built_in_allowed method.ThreadIsAlive n t world ops = refl
built_in_allowed (method.ThreadNames names) n t world ops = refl
built_in_allowed (method.PrintStreamPrints print) n t world ops = refl
built_in_allowed (method.StringAnswers of) n t world ops = refl
built_in_allowed (method.StringWrites writes) n t world ops = refl
built_in_allowed (method.StringBuilderBuilds of) n t world ops = refl
built_in_allowed (method.ObjectAnswers of) n t world ops = refl

-- a join that may not be done is one of a thread that is alive
join_held : (alive interrupted : Bool) (next : ℕ) (world : WorldOf ℕ) (slots : Slots ℕ) (rest : List ℕ)
    → (not alive || interrupted) ≡ false → join_by alive next world slots rest ≡ Interrupts
join_held true interrupted next world slots rest h = refl
join_held false interrupted next world slots rest h = absurd (true≢false h)

-- so a built-in method that may not be done is a join, and would be interrupted
held_by : (files : Program) (of : BuiltInMethod) (next t : ℕ) (world : WorldOf ℕ) (slots : Slots ℕ) (ops rest : List ℕ)
    → built_in_may words of (event_of t) world ops ≡ false → built_in_does words files of next (event_of t) world slots ops rest ≡ Interrupts
held_by files built_in.ThreadJoin next t world slots ops rest h = join_held (is_alive world (object_of words ops 0)) (thread_at world t).interrupted next world slots rest h
held_by files built_in.Construct next t world slots ops rest h = absurd (true≢false h)
held_by files built_in.ObjectClone next t world slots ops rest h = absurd (true≢false h)
held_by files built_in.ConstructWithMessage next t world slots ops rest h = absurd (true≢false h)
held_by files built_in.ConstructWithCause next t world slots ops rest h = absurd (true≢false h)
held_by files built_in.ObjectWait next t world slots ops rest h = absurd (true≢false h)
held_by files built_in.ObjectNotify next t world slots ops rest h = absurd (true≢false (sym (notify_may (is_owner world t (object_of words ops 0)) (length (waiters_of world (object_of words ops 0)))) ∙ h))
held_by files built_in.ObjectNotifyAll next t world slots ops rest h = absurd (true≢false h)
held_by files built_in.ThreadStart next t world slots ops rest h = absurd (true≢false h)
held_by files built_in.ThreadInterrupt next t world slots ops rest h = absurd (true≢false h)
held_by files built_in.ThreadIsInterrupted next t world slots ops rest h = absurd (true≢false h)
held_by files built_in.ThreadInterrupted next t world slots ops rest h = absurd (true≢false h)
held_by files built_in.ThreadYield next t world slots ops rest h = absurd (true≢false h)
held_by files built_in.ThreadCurrentThread next t world slots ops rest h = absurd (true≢false h)
held_by files built_in.ThreadIsAlive next t world slots ops rest h = absurd (true≢false h)
held_by files (built_in.ThreadNames names) next t world slots ops rest h = absurd (true≢false h)
held_by files (built_in.PrintStreamPrints print) next t world slots ops rest h = absurd (true≢false h)
held_by files (built_in.StringAnswers method) next t world slots ops rest h = absurd (true≢false h)
held_by files (built_in.StringWrites writes) next t world slots ops rest h = absurd (true≢false h)
held_by files (built_in.StringBuilderBuilds method) next t world slots ops rest h = absurd (true≢false h)
held_by files (built_in.ObjectAnswers method) next t world slots ops rest h = absurd (true≢false h)

module _ (trees : Program) (site : Site) (t : ℕ) (world : WorldOf ℕ) (slots : Slots ℕ) (ops rest : List ℕ) (object : ℕ) where
  run_held : (m : Member) (body : Option Body) → may_run words (event_of t) world ops m body ≡ false
      → runs words trees site (event_of t) world slots ops rest object m body ≡ Interrupts
  run_held m None h = held_by trees (built_in_method m) site.next t world slots ops rest h
  run_held m (Some body) h = absurd (true≢false h)

  -- a call that may not be done would be interrupted
  pub invocation_held : (chosen : Chosen) → may_invoke words trees (event_of t) world ops chosen ≡ false
      → invoked words trees site (event_of t) world slots ops rest object chosen ≡ Interrupts
  invocation_held (Fails fault) h = absurd (true≢false h)
  invocation_held (Runs m) h = run_held m (body_of trees m) h
