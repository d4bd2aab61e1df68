-- The classes on the stack of a thread are those that it initialises (JVMS 5.5): an invariant of all runs, and what it tells of an event.
use Rattle.std.proofs.Common.{◌≡◌, ℕ, zero, suc, ◌-◌, List, [], ◌∷◌, ◌++◌, length, Bool, true, false, ◌==◌, if◌then◌else◌, Option, Some, None, inl, inr, refl, sym, ap, ◌∙◌, subst}
use Rattle.std.specs.Prelude.{slice_get, slice_set, replicate, ◌⊎◌, ◌||◌}
use Rattle.std.specs.List.{list_any}
use Rattle.std.proofs.lemmas.Bool.{true≢false, false≢true, eqb-true, eq-eqb}
use Rattle.std.proofs.lemmas.Option.{same_Some}
use Rattle.model.specs.declared.event.Event.{Event}
use Rattle.model.specs.declared.value.Value.{Value}
use Rattle.model.specs.Classes.{Program, is_built_in}
use Rattle.model.specs.ClassInitialisation.{status_in, status_of, with_status_in, IsReady, IsHeld, look_by, look_at}
use Rattle.model.specs.Names.{Name, name_eq, Member}
use Rattle.model.specs.Opening.{opening, opening_count}
use Rattle.model.specs.Operands.{values}
use Rattle.model.specs.Run.{run_from}
use Rattle.model.specs.State.{ClassStatus, NotInitialised, InProgress, Initialised, Erroneous, StackOf, World, State}
use Rattle.model.specs.Step.{PartOf, part, end_of, step}
use Rattle.model.specs.Worlds.{thread_at, value_in}
use Rattle.search_laws.specs.Texts.{KeepsTexts, AreTextsKept}
use Rattle.run_laws.proofs.laws.Classes.{names_same}
use Rattle.run_laws.proofs.typed_runs.Threads.{get_set_at, get_set_other}
use Rattle.search_laws.specs.KeptStates.{IsReached}
use Rattle.search_laws.specs.Lengths.{KeepsLengths, AreLengthsKept}
use Rattle.search_laws.specs.Writes.{Variables, Statics, WritesAtMost, KeepsVariables, AreVariablesKept}
use Rattle.search_laws.proofs.ClassesHeld.{initialising, ClassChange, Kept, Begun, Left, IsEffect, OnEffect, event_effect, end_spares}
use Rattle.search_laws.proofs.Events.{IsDone, done_of, state_with}
use Rattle.search_laws.proofs.Variables.{keeps_on, lengths_of}
use Rattle.search_laws.proofs.TextsKept.{texts_on}
use Rattle.search_laws.proofs.Runs.{first_of}

-- ---- the list of statuses

abbrev Listing : Type 0
Listing = List (Name × ClassStatus)

abbrev is_listed : Name → Listing → Bool
is_listed class cs = list_any (λ (c : Name × ClassStatus). name_eq c.0 class) cs

other_name : (a b c : Name) → name_eq a b ≡ true → name_eq b c ≡ false → name_eq a c ≡ false
other_name a b c e n = ap (λ x. name_eq x c) (names_same a b e) ∙ n

module _ (class : Name) (status : ClassStatus) where
  -- another class has the status that it had
  status_other : (c : Name) → name_eq class c ≡ false → (cs : Listing) → status_in c (with_status_in class status cs) ≡ status_in c cs
  status_other c n [] = refl
  status_other c n (x ∷ cs) = by (name_eq x.0 class) refl (status_other c n cs)
    where
      by : (b : Bool) → name_eq x.0 class ≡ b → status_in c (with_status_in class status cs) ≡ status_in c cs
          → status_in c (if b then (x.0, status) ∷ cs else x ∷ with_status_in class status cs) ≡ status_in c (x ∷ cs)
      by true e rest =
          let no = other_name x.0 class c e n in
          ap (λ b. if b then status else status_in c cs) no ∙ sym (ap (λ b. if b then x.1 else status_in c cs) no)
      by false e rest = ap (λ s. if name_eq x.0 c then x.1 else s) rest

  -- this one has that status, if it has any
  status_set : (cs : Listing) → is_listed class cs ≡ true → status_in class (with_status_in class status cs) ≡ status
  status_set [] e = absurd (false≢true e)
  status_set (x ∷ cs) e = by (name_eq x.0 class) refl e (λ k. status_set cs k)
    where
      by : (b : Bool) → name_eq x.0 class ≡ b → (b || is_listed class cs) ≡ true
          → (is_listed class cs ≡ true → status_in class (with_status_in class status cs) ≡ status)
          → status_in class (if b then (x.0, status) ∷ cs else x ∷ with_status_in class status cs) ≡ status
      by true q k rest = ap (λ b. if b then status else status_in class cs) q
      by false q k rest = ap (λ b. if b then x.1 else status_in class (with_status_in class status cs)) q ∙ rest k

  listed_same : (c : Name) (cs : Listing) → is_listed c (with_status_in class status cs) ≡ is_listed c cs
  listed_same c [] = refl
  listed_same c (x ∷ cs) = by (name_eq x.0 class) (listed_same c cs)
    where
      by : (b : Bool) → is_listed c (with_status_in class status cs) ≡ is_listed c cs
          → is_listed c (if b then (x.0, status) ∷ cs else x ∷ with_status_in class status cs) ≡ is_listed c (x ∷ cs)
      by true rest = refl
      by false rest = ap (λ s. name_eq x.0 c || s) rest

unlisted : (c : Name) (cs : Listing) → is_listed c cs ≡ false → status_in c cs ≡ NotInitialised
unlisted c [] e = refl
unlisted c (x ∷ cs) e = by (name_eq x.0 c) e (λ k. unlisted c cs k)
  where
    by : (b : Bool) → (b || is_listed c cs) ≡ false → (is_listed c cs ≡ false → status_in c cs ≡ NotInitialised) → (if b then x.1 else status_in c cs) ≡ NotInitialised
    by true k rest = absurd (true≢false k)
    by false k rest = rest k

-- ---- the status of a class

not_built_in : (world : World) (c : Name) → status_of world c ≡ NotInitialised → is_built_in c ≡ false
not_built_in world c e = by (is_built_in c) refl e
  where
    by : (b : Bool) → is_built_in c ≡ b → (if b then Initialised else status_in c world.classes) ≡ NotInitialised → is_built_in c ≡ false
    by true q k = absurd cc
    by false q k = q

abbrev status_by : Name → Listing → ClassStatus
status_by c cs = if is_built_in c then Initialised else status_in c cs

-- ---- what a thread initialises

-- it has begun to, or the class is in no file
abbrev HoldsClass : Listing → ℕ → Name → Type 0
HoldsClass cs t c = (status_by c cs ≡ InProgress t) ⊎ (is_listed c cs ≡ false)

abbrev NotAmong : Name → List Name → Type 0
NotAmong c [] = Unit {0}
NotAmong c (d ∷ ds) = (name_eq c d ≡ false) × NotAmong c ds

abbrev Holds : Listing → ℕ → List Name → Type 0
Holds cs t [] = Unit {0}
Holds cs t (c ∷ ds) = HoldsClass cs t c × ((is_listed c cs ≡ true → NotAmong c ds) × Holds cs t ds)

pub in_progress_inv : (t u : ℕ) → InProgress t ≡ InProgress u → t ≡ u
in_progress_inv t u e = cc

progress_new : (t : ℕ) → InProgress t ≡ NotInitialised → ⊥
progress_new t e = absurd cc

-- a status that an event of the thread v leaves: of what it begins and leaves it is another one
pub record Stays (v : ℕ) (s : ClassStatus) : Type 0 where
  pub known : s ≡ NotInitialised → ⊥
  pub others : s ≡ InProgress v → ⊥

module _ (v : ℕ) (world : World) (old : StackOf Value) (p : PartOf Value) where
  -- the status of another class, or of none that it holds
  after_other : (class : Name) (status : ClassStatus) (c : Name) → p.world.classes ≡ with_status_in class status world.classes
      → name_eq class c ≡ false → status_of p.world c ≡ status_of world c
  after_other class status c e n =
      ap (λ cs. status_by c cs) e ∙ ap (λ s. if is_built_in c then Initialised else s) (status_other class status c n world.classes)

  differ : (class c : Name) (s r : ClassStatus) → status_of world class ≡ r → status_of world c ≡ s → (s ≡ r → ⊥) → name_eq class c ≡ false
  differ class c s r e q ne = by (name_eq class c) refl
    where
      by : (b : Bool) → name_eq class c ≡ b → name_eq class c ≡ false
      by true k = absurd (ne (sym q ∙ (sym (ap (status_of world) (names_same class c k)) ∙ e)))
      by false k = k

  -- of a class in no file nothing changes
  none_changed : (class : Name) (status : ClassStatus) (cs : Listing) → is_listed class cs ≡ false → with_status_in class status cs ≡ cs
  none_changed class status [] e = refl
  none_changed class status (x ∷ cs) e = by (name_eq x.0 class) e (λ k. none_changed class status cs k)
    where
      by : (b : Bool) → (b || is_listed class cs) ≡ false → (is_listed class cs ≡ false → with_status_in class status cs ≡ cs)
          → (if b then (x.0, status) ∷ cs else x ∷ with_status_in class status cs) ≡ x ∷ cs
      by true k rest = absurd (true≢false k)
      by false k rest = ap (λ l. x ∷ l) (rest k)

  pub status_stays : (c : Name) (s : ClassStatus) → Stays v s → Holds world.classes v (initialising old) → ClassChange v world old p
      → status_of world c ≡ s → status_of p.world c ≡ s
  status_stays c s k h (Kept e q) is = ap (λ cs. status_by c cs) e ∙ is
  status_stays c s k h (Begun class new e q) is =
      after_other class (InProgress v) c e (differ class c s NotInitialised new is k.known) ∙ is
  status_stays c s k h (Left class status e q) is = by (subst (Holds world.classes v) q h)
    where
      by : Holds world.classes v (class ∷ initialising p.stack) → status_of p.world c ≡ s
      by (inl own, rest) = after_other class status c e (differ class c s (InProgress v) own is k.others) ∙ is
      by (inr none, rest) = ap (λ cs. status_by c cs) (e ∙ none_changed class status world.classes none) ∙ is

  -- ---- of other threads

  abbrev listed_after : Name → Type 0
  listed_after c = is_listed c p.world.classes ≡ is_listed c world.classes

  listed_kept : (c : Name) → ClassChange v world old p → listed_after c
  listed_kept c (Kept e q) = ap (is_listed c) e
  listed_kept c (Begun class new e q) = ap (is_listed c) e ∙ listed_same class (InProgress v) c world.classes
  listed_kept c (Left class status e q) = ap (is_listed c) e ∙ listed_same class status c world.classes

  stays_other : (t : ℕ) → (t ≡ v → ⊥) → Stays v (InProgress t)
  stays_other t ne = record { known = progress_new t; others = λ e. ne (in_progress_inv t v e) }

  others_hold : (t : ℕ) → (t ≡ v → ⊥) → Holds world.classes v (initialising old) → ClassChange v world old p → (cs : List Name)
      → Holds world.classes t cs → Holds p.world.classes t cs
  others_hold t ne h k [] x = tt
  others_hold t ne h k (c ∷ cs) x =
      (by x.0, ((λ e. x.1.0 (sym (listed_kept c k) ∙ e)), others_hold t ne h k cs x.1.1))
    where
      by : HoldsClass world.classes t c → HoldsClass p.world.classes t c
      by (inl e) = inl (status_stays c (InProgress t) (stays_other t ne) h k e)
      by (inr e) = inr (listed_kept c k ∙ e)

  -- ---- of the thread itself

  -- a status is another one where only another class was changed
  holds_beside : (class : Name) (status : ClassStatus) → p.world.classes ≡ with_status_in class status world.classes → (cs : List Name)
      → (is_listed class world.classes ≡ true → NotAmong class cs) → Holds world.classes v cs → Holds p.world.classes v cs
  holds_beside class status e [] n x = tt
  holds_beside class status e (c ∷ cs) n x = (
    by (is_listed class world.classes) refl x.0,
    ((λ k. x.1.0 (sym (ap (is_listed c) e ∙ listed_same class status c world.classes) ∙ k)), holds_beside class status e cs (λ k. (n k).1) x.1.1),
  )
    where
      by : (b : Bool) → is_listed class world.classes ≡ b → HoldsClass world.classes v c → HoldsClass p.world.classes v c
      by true k (inl q) = inl (after_other class status c e (n k).0 ∙ q)
      by false k (inl q) = inl (ap (λ l. status_by c l) (e ∙ none_changed class status world.classes k) ∙ q)
      by b k (inr q) = inr (ap (is_listed c) e ∙ (listed_same class status c world.classes ∙ q))

  -- what is begun is not begun yet
  not_begun : (class : Name) → status_of world class ≡ NotInitialised → is_listed class world.classes ≡ true → (cs : List Name)
      → Holds world.classes v cs → NotAmong class cs
  not_begun class new k [] x = tt
  not_begun class new k (c ∷ cs) x = (by x.0, not_begun class new k cs x.1.1)
    where
      by : HoldsClass world.classes v c → name_eq class c ≡ false
      by (inl e) = differ class c (InProgress v) NotInitialised new e (progress_new v)
      by (inr e) = apart (name_eq class c) refl
        where
          apart : (b : Bool) → name_eq class c ≡ b → name_eq class c ≡ false
          apart true q = absurd (true≢false (sym k ∙ (ap (λ x. is_listed x world.classes) (names_same class c q) ∙ e)))
          apart false q = q

  own_holds : Holds world.classes v (initialising old) → ClassChange v world old p → Holds p.world.classes v (initialising p.stack)
  own_holds h (Kept e q) = subst (λ l. Holds l v (initialising p.stack)) (sym e) (subst (Holds world.classes v) (sym q) h)
  own_holds h (Left class status e q) =
      let x = subst (Holds world.classes v) q h in holds_beside class status e (initialising p.stack) x.1.0 x.1.1
  own_holds h (Begun class new e q) =
      subst (Holds p.world.classes v) (sym q) (
        by (is_listed class world.classes) refl,
        (
          (λ k. not_begun class new (sym (ap (is_listed class) e ∙ listed_same class (InProgress v) class world.classes) ∙ k) (initialising old) h),
          holds_beside class (InProgress v) e (initialising old) (λ k. not_begun class new k (initialising old) h) h,
        ),
      )
    where
      by : (b : Bool) → is_listed class world.classes ≡ b → HoldsClass p.world.classes v class
      by true k =
          inl (ap (λ l. status_by class l) e
          ∙ (ap (λ b. if b then Initialised else status_in class (with_status_in class (InProgress v) world.classes)) (not_built_in world class new)
          ∙ status_set class (InProgress v) world.classes k))
      by false k = inr (ap (is_listed class) e ∙ (listed_same class (InProgress v) class world.classes ∙ k))

-- ---- states

more_empty : (k t : ℕ) (stack : StackOf Value) → slice_get (replicate k []) t ≡ Some stack → stack ≡ []
more_empty zero t stack e = absurd cc
more_empty (suc k) zero stack e = sym (same_Some [] stack e)
more_empty (suc k) (suc t) stack e = more_empty k t stack e

front_or_empty : (xs : List (StackOf Value)) (k t : ℕ) (stack : StackOf Value) → slice_get (xs ++ replicate k []) t ≡ Some stack
    → (slice_get xs t ≡ Some stack) ⊎ (stack ≡ [])
front_or_empty [] k t stack e = inr (more_empty k t stack e)
front_or_empty (x ∷ xs) k zero stack e = inl e
front_or_empty (x ∷ xs) k (suc t) stack e = front_or_empty xs k t stack e

-- each thread has begun to initialise what is on its stack
abbrev pub AreClassesHeld : State → Type 0
AreClassesHeld state = (t : ℕ) (stack : StackOf Value) → slice_get state.stacks t ≡ Some stack → Holds state.world.classes t (initialising stack)

-- an event that may write all
abbrev pub all : Variables → Bool
all variables = true

module _ (trees : Program) (frames : ℕ) (state next : State) (event : Event) (e : step trees frames state event ≡ Some next) where
  abbrev pub u : ℕ
  u = event.thread

  abbrev pub d : IsDone trees frames state event next
  d = done_of trees frames state event next e

  -- what the thread left, with its end
  abbrev pub left : PartOf Value
  left = part (end_of u d.left.world d.left.stack) d.left.stack

  abbrev opened : ℕ
  opened = opening_count trees

  module _ (writes : Variables → Bool) (at_most : WritesAtMost trees writes (thread_at state.world u) d.stack) where
    before_end : IsEffect opened writes u state.world d.stack d.left
    before_end =
        subst (OnEffect opened writes u state.world d.stack) d.did
        (event_effect writes trees frames event state.world d.stack (thread_at state.world u).status at_most)

    effect_of : IsEffect opened writes u state.world d.stack left
    effect_of =
        let s = end_spares opened writes u d.left.world d.left.stack in
        record {
          monitors = λ t object ne own. s.monitors t object ne (before_end.monitors t object ne own);
          variables = keeps_on writes state.world.heap d.left.world.heap (end_of u d.left.world d.left.stack).heap before_end.variables s.variables;
          texts = texts_on opened state.world.heap d.left.world.heap (end_of u d.left.world d.left.stack).heap before_end.texts s.texts;
          statics = λ field first n k. s.statics field first n ∙ before_end.statics field first n k;
          change = by before_end.change s.classes;
        }
      where
        by : ClassChange u state.world d.stack d.left → (end_of u d.left.world d.left.stack).classes ≡ d.left.world.classes
            → ClassChange u state.world d.stack (part (end_of u d.left.world d.left.stack) d.left.stack)
        by (Kept c q) s = Kept (s ∙ c) q
        by (Begun class new c q) s = Begun class new (s ∙ c) q
        by (Left class status c q) s = Left class status (s ∙ c) q

    -- what the thread may not write is kept
    pub variables_next : KeepsVariables writes state.world.heap next.world.heap
    variables_next = subst (λ (z : State). KeepsVariables writes state.world.heap z.world.heap) d.is_next effect_of.variables

    pub statics_next : (field : Member) (first : Value) → writes (Statics field) ≡ false → (status_of state.world field.class ≡ NotInitialised → ⊥)
        → value_in first field next.world.statics ≡ value_in first field state.world.statics
    statics_next field first n k =
        sym (ap (λ (z : State). value_in first field z.world.statics) d.is_next) ∙ effect_of.statics field first n k

  pub effect : IsEffect opened all u state.world d.stack left
  effect = effect_of all (λ going variables q. refl)

  -- arrays keep their lengths
  pub lengths_next : KeepsLengths state.world.heap next.world.heap
  lengths_next = lengths_of all state.world.heap next.world.heap (variables_next all (λ going variables q. refl))

  -- Strings keep their texts
  pub texts_next : KeepsTexts opened state.world.heap next.world.heap
  texts_next = subst (λ (z : State). KeepsTexts opened state.world.heap z.world.heap) d.is_next effect.texts

  module _ (h : AreClassesHeld state) where
    own : Holds state.world.classes u (initialising d.stack)
    own = h u d.stack d.there

    -- the status of a class stays, unless it is the thread's to change
    pub class_stays : (c : Name) (s : ClassStatus) → Stays u s → status_of state.world c ≡ s → status_of next.world c ≡ s
    class_stays c s k is =
        subst (λ (z : State). status_of z.world c ≡ s) d.is_next (status_stays u state.world d.stack left c s k own effect.change is)

    -- what another thread may use, it may use still
    module _ (t : ℕ) (ne : t ≡ u → ⊥) where
      ready_by : (class : Name) (s : ClassStatus) → status_of state.world class ≡ s → look_by t s ≡ IsReady
          → look_by t (status_of next.world class) ≡ IsReady
      ready_by class NotInitialised q k = absurd cc
      ready_by class (InProgress by) q k = owned (by == t) refl k
        where
          owned : (b : Bool) → (by == t) ≡ b → (if b then IsReady else IsHeld) ≡ IsReady → look_by t (status_of next.world class) ≡ IsReady
          owned true z x =
              let stays : Stays u (InProgress by) = record { known = progress_new by; others = λ e. ne (sym (eqb-true by t z) ∙ in_progress_inv by u e) } in
              ap (look_by t) (class_stays class (InProgress by) stays q) ∙ ap (λ (b : Bool). if b then IsReady else IsHeld) z
          owned false z x = absurd cc
      ready_by class Initialised q k =
          ap (look_by t) (class_stays class Initialised (record { known = λ e. absurd cc; others = λ e. absurd cc }) q)
      ready_by class Erroneous q k = absurd cc

      pub ready_next : (class : Option Name) → look_at t state.world class ≡ IsReady → look_at t next.world class ≡ IsReady
      ready_next None k = refl
      ready_next (Some class) k = ready_by class (status_of state.world class) refl k

    held_left : AreClassesHeld (state_with trees frames state event left.world left.stack)
    held_left t stack there = by (t == u) refl (front_or_empty (slice_set state.stacks u left.stack) (length left.world.threads - length state.stacks) t stack there)
      where
        by : (b : Bool) → (t == u) ≡ b → (slice_get (slice_set state.stacks u left.stack) t ≡ Some stack) ⊎ (stack ≡ [])
            → Holds left.world.classes t (initialising stack)
        by b q (inr none) = subst (λ k. Holds left.world.classes t (initialising k)) (sym none) tt
        by true q (inl is) =
            let same = eqb-true t u q in
            let at = subst (λ k. slice_get (slice_set state.stacks u left.stack) k ≡ Some stack) same is in
            let it = same_Some left.stack stack (sym (get_set_at state.stacks u d.stack left.stack d.there) ∙ at) in
            subst (λ k. Holds left.world.classes k (initialising stack)) (sym same)
            (subst (λ k. Holds left.world.classes u (initialising k)) it (own_holds u state.world d.stack left own effect.change))
        by false q (inl is) =
            let ne : t ≡ u → ⊥ = λ same. false≢true (sym q ∙ eq-eqb t u same) in
            let was = sym (get_set_other state.stacks u t left.stack (λ same. ne (sym same))) ∙ is in
            others_hold u state.world d.stack left t ne own effect.change (initialising stack) (h t stack was)

    pub held_next : AreClassesHeld next
    held_next = subst AreClassesHeld d.is_next held_left

pub opened_held : (trees : Program) → AreClassesHeld (opening values trees)
opened_held trees zero stack there =
    subst (λ k. Holds (opening values trees).world.classes 0 (initialising k)) (same_Some [] stack there) tt
opened_held trees (suc t) stack there = absurd cc

module _ (trees : Program) (frames : ℕ) where
  held_run : (events : List Event) (state last : State) → AreClassesHeld state → run_from trees frames state events ≡ Some last
      → AreClassesHeld last
  held_run [] state last h r = subst AreClassesHeld (same_Some state last r) h
  held_run (event ∷ events) state last h r =
      let f = first_of trees frames state last event events r in
      held_run events f.0 last (held_next trees frames state f.0 event f.1.0 h) f.1.1

  -- in each state of a run
  pub reached_held : (state : State) → IsReached trees frames state → AreClassesHeld state
  reached_held state r = held_run r.0 (opening values trees) state (opened_held trees) r.1

pub lengths_kept : AreLengthsKept
lengths_kept files frames state next event e = lengths_next files frames state next event e

pub texts_kept : AreTextsKept
texts_kept files frames state next event e = texts_next files frames state next event e

pub variables_kept : AreVariablesKept
variables_kept files frames writes state next event stack there at_most e =
    let x = d files frames state next event e in
    let same = same_Some stack x.stack (sym there ∙ x.there) in
    let w = subst (WritesAtMost files writes (thread_at state.world event.thread)) same at_most in
    (variables_next files frames state next event e writes w, statics_next files frames state next event e writes w)
