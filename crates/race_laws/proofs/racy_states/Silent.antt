-- An event that accesses a variable that is not volatile leaves nothing that a later one could find.
use Rattle.std.proofs.Common.{◌≡◌, refl, sym, ◌∙◌, ap, subst, ℕ, ◌-◌, ◌⊎◌, inl, inr, List, [], ◌∷◌, ◌++◌, length, map, arith}
use Rattle.std.specs.Prelude.{Option, Some, None, Bool, true, false, cond, not, ◌&&◌, ◌||◌, ◌==◌, IsTrue}
use Rattle.std.specs.Option.{option_and_then, option_map_or}
use Rattle.std.proofs.lemmas.Option.{none-some}
use Rattle.std.specs.List.{filter, list_any}
use Rattle.std.proofs.lemmas.Bool.{eq-eqb}
use Rattle.model.specs.declared.event.Event.{Event}
use Rattle.model.specs.declared.value.Value.{Value}
use Rattle.model.specs.declared.instr.Instr.{Instr}
use Rattle.model.specs.declared.instr.Instr.TheVariants as instr
use Rattle.model.specs.declared.instr.FieldAccess.{FieldAccess}
use Rattle.model.specs.declared.instr.FieldAccess.TheVariants as access
use Rattle.model.specs.Names.{Name, Member, builder_text}
use Rattle.model.specs.Pool.{field_at}
use Rattle.model.specs.Classes.{Program}
use Rattle.model.specs.Lookup.{find_field}
use Rattle.model.specs.Operands.{values}
use Rattle.model.specs.Rows.{counting}
use Rattle.model.specs.State.{ClassStatus, Thread, ThreadStatus, Running, World}
use Rattle.model.specs.Worlds.{thread_at, has_ended}
use Rattle.model.specs.ClassInitialisation.{status_of}
use Rattle.model.specs.Sites.{referent}
use Rattle.data_races.specs.Actions.{Action, Read, Write, Lock, Unlock, Start, Wake, Finish, ClearInterrupt, FinishInitialisation, FindInitialised, synchronizes, conflicts, is_read, is_write}
use Rattle.data_races.specs.Variables.{InstanceField, is_volatile}
use Rattle.data_races.specs.EventActions.{Instruction, Rule, Does, only_if, found_class, is_finished, needed_class, operands_of, receiver_of, is_done, finds_of, accesses_of, goes_on, outcome_at, interrupts_of, access_by, accesses_at, at_reference, named_access, is_variable, field_access, owned, besides, started, clear_actions, finished_classes, end_actions, waiting, is_over, actions_to}
use Rattle.data_races.proofs.Decided.{In, from_map}
use Rattle.race_laws.proofs.racy_states.Upto.{to_finds, to_locks, to_accesses, to_unlocks, to_starts, to_interrupts, to_clears, to_finished}
use Rattle.race_laws.proofs.racy_states.Shapes.{IsGrown}
pub use Rattle.race_laws.proofs.racy_states.Accesses.{in_cases}
use Rattle.race_laws.proofs.racy_states.Accesses.{in_left, in_right, Access, OfInstruction, OfMethod, access_is, no_method, finds_nothing, interrupts_nothing, text_is_plain, IsOfText, ReadsText, WritesText, IsPlainAccess, OfBuilder, IsRead, WritesElement, is_plain_access}

or_right : (a b : Bool) → IsTrue b → IsTrue (a || b)
or_right true b h = refl
or_right false b h = h

pub in_only_if : {X : Type 0} (x : X) (b : Bool) (xs : List X) → In x (only_if b xs) → IsTrue b × In x xs
in_only_if x true xs h = (refl, h)
in_only_if x false xs h = absurd h

in_cond : {X : Type 0} (x y : X) (b : Bool) (xs : List X) → In x (cond b (y ∷ xs) xs) → (IsTrue b × (x ≡ y)) ⊎ In x xs
in_cond x y true xs h = elim h [ inl e ↦ inl (refl, e) | inr t ↦ inr t ]
in_cond x y false xs h = inr h

in_filter : {X : Type 0} (test : X → Bool) (x : X) (xs : List X) → In x (filter test xs) → In x xs × IsTrue (test x)
in_filter test x [] h = absurd h
in_filter test x (y ∷ ys) h =
    elim (in_cond x y (test y) (filter test ys) h) [
      | inl p ↦ (inl p.1, subst (λ z. IsTrue (test z)) (sym p.1) p.0)
      | inr t ↦ let g = in_filter test x ys t in (inr g.0, g.1)
    ]

any_in : (n : ℕ) (ns : List ℕ) → In n ns → list_any (λ other. other == n) ns ≡ true
any_in n [] h = absurd h
any_in n (m ∷ ms) h =
    elim h [
      | inl e ↦ subst (λ b. (b || list_any (λ other. other == n) ms) ≡ true) (sym (eq-eqb m n (sym e))) refl
      | inr t ↦ or_right (m == n) (list_any (λ other. other == n) ms) (any_in n ms t)
    ]

not_both : (b : Bool) → IsTrue b → IsTrue (not b) → ⊥
not_both true g h = cc
not_both false g h = cc

not_true : (b : Bool) → IsTrue (not b) → b ≡ false
not_true true h = absurd (cc)
not_true false h = refl

pub both : (a b : Bool) → IsTrue (a && b) → IsTrue a × IsTrue b
both true true h = (refl, refl)
both true false h = absurd (cc)
both false b h = absurd (cc)

none_besides : (n : ℕ) (ns : List ℕ) → In n (besides ns ns) → ⊥
none_besides n ns h =
    let p = in_filter (λ m. not (list_any (λ other. other == m) ns)) n ns h in not_both (list_any (λ other. other == n) ns) (any_in n ns p.0) p.1

-- ---- an action that leaves nothing

abbrev pub IsSilent : Program → Action → Type 0
IsSilent files c = (later : Action) → synchronizes files c later ≡ false

-- the text of a StringBuilder is not volatile
text_silent : (files : Program) (c : Action) → IsOfText c → IsSilent files c
text_silent files c (ReadsText r e) = subst (λ (x : Action). IsSilent files x) (sym e) (λ later. refl)
text_silent files c (WritesText r e) =
    subst (λ (x : Action). IsSilent files x) (sym e)
    (λ later. ap (λ b. b && is_read (InstanceField r builder_text) later) (text_is_plain files))

-- nor is an element, and what is read leaves nothing
plain_silent : (files : Program) (c : Action) → IsPlainAccess files c → IsSilent files c
plain_silent files c (OfBuilder e) = text_silent files c e
plain_silent files c (IsRead variable e) = subst (λ (x : Action). IsSilent files x) (sym e) (λ later. refl)
plain_silent files c (WritesElement array index e) = subst (λ (x : Action). IsSilent files x) (sym e) (λ later. refl)

module _ (files : Program) (t : ℕ) (old new : World) (instruction : Instruction) (a : Action) (same : IsGrown old new)
    (accesses : Access files instruction a old) (silent : IsSilent files a)
    (running : (thread_at old t).status ≡ Running) where
  abbrev e : Event
  e = record { thread = t; pick = 0 }

  in_class : (c : Action) (o : Option Name) → In c (found_class old o) → IsSilent files c
  in_class c None h = absurd h
  in_class c (Some class) h =
      let p = in_only_if c (is_finished (status_of old class)) (FindInitialised class ∷ []) h in
      elim p.1 [ inl g ↦ subst (λ (x : Action). IsSilent files x) (sym g) (λ later. refl) | inr g ↦ absurd g ]

  no_finds : (c : Action) → In c (finds_of files e old (Does instruction)) → ⊥
  no_finds c h =
      (in_only_if c (is_done t old instruction) [] (subst (λ l. In c (only_if (is_done t old instruction) l)) (finds_nothing files instruction a old accesses t (receiver_of instruction)) h)).1

  no_interrupts : (c : Action) → In c (interrupts_of files e old (Does instruction)) → ⊥
  no_interrupts c h =
      (in_only_if c (is_done t old instruction) [] (subst (λ l. In c (only_if (is_done t old instruction) l)) (interrupts_nothing files instruction a old accesses (receiver_of instruction)) h)).1

  locks : (c : Action) (ns : List ℕ) → In c (map Lock ns) → IsSilent files c
  locks c ns h = let g = from_map (λ n. Lock n) c ns h in subst (λ (x : Action). IsSilent files x) g.2 (λ later. refl)

  one_of_reference : (ops : List Value) (k : ℕ) (make : ℕ → Action) (x y : Action) → In x (at_reference ops k make) → In y (at_reference ops k make) → x ≡ y
  one_of_reference ops k make x y g h = by (referent values ops k) g h
    where
      by : (o : Option ℕ) → In x (option_map_or (λ r. make r ∷ []) o []) → In y (option_map_or (λ r. make r ∷ []) o []) → x ≡ y
      by None g h = absurd g
      by (Some r) g h = elim g [ inl p ↦ elim h [ inl q ↦ p ∙ sym q | inr q ↦ absurd q ] | inr p ↦ absurd p ]

  one_named : (ops : List Value) (kind : FieldAccess) (field : Member) (x y : Action) → In x (named_access ops kind field) → In y (named_access ops kind field)
      → x ≡ y
  one_named ops access.GetStatic field x y g h = elim g [ inl p ↦ elim h [ inl q ↦ p ∙ sym q | inr q ↦ absurd q ] | inr p ↦ absurd p ]
  one_named ops access.PutStatic field x y g h = elim g [ inl p ↦ elim h [ inl q ↦ p ∙ sym q | inr q ↦ absurd q ] | inr p ↦ absurd p ]
  one_named ops access.GetField field x y g h = one_of_reference ops 0 _ x y g h
  one_named ops access.PutField field x y g h = one_of_reference ops 1 _ x y g h

  one_of_field : (ops : List Value) (kind : FieldAccess) (o : Option Member) (x y : Action) → In x (option_map_or (field_access ops kind) o []) → In y (option_map_or (field_access ops kind) o [])
      → x ≡ y
  one_of_field ops kind None x y g h = absurd g
  one_of_field ops kind (Some field) x y g h = by (is_variable field) g h
    where
      by : (b : Bool) → In x (only_if b (named_access ops kind field)) → In y (only_if b (named_access ops kind field)) → x ≡ y
      by true g h = one_named ops kind field x y g h
      by false g h = absurd g

  one_of : (ops : List Value) (i : Instr) (x y : Action) → In x (access_by files instruction.site ops i) → In y (access_by files instruction.site ops i) → x ≡ y
  one_of ops (instr.Field kind index) x y g h = one_of_field ops kind (option_and_then (find_field files) (field_at instruction.site.body.pool index)) x y g h
  one_of ops (instr.LoadElement kind) x y g h = one_of_reference ops 1 _ x y g h
  one_of ops (instr.StoreElement kind) x y g h = one_of_reference ops 2 _ x y g h
  one_of ops _ x y g h = absurd g

  -- where the instruction itself accesses a field or an element, it runs no method
  beside : (c : Action) → Access files instruction a old → Access files instruction c old → IsSilent files c
  beside c (OfInstruction g) (OfInstruction h) =
      subst (λ (x : Action). IsSilent files x) (one_of (operands_of instruction) instruction.site.instr a c g h) silent
  beside c of (OfMethod b at h) = plain_silent files c (is_plain_access files old (operands_of instruction) c b h)
  beside c (OfMethod b at g) (OfInstruction h) = absurd (none-some _ (sym (no_method files instruction c h old) ∙ at.runs))

  in_accesses : (c : Action) → In c (accesses_of files e old (Does instruction)) → IsSilent files c
  in_accesses c h =
      let p = in_only_if c (is_done t old instruction && goes_on (outcome_at e old instruction)) (accesses_at files old instruction) h in
      beside c accesses (access_is files instruction c old p.1)

  no_unlocks : (c : Action) → In c (map Unlock (besides (owned t old) (owned t new))) → ⊥
  no_unlocks c h =
      let g = from_map (λ n. Unlock n) c (besides (owned t old) (owned t new)) h in
      none_besides g.0 (owned t old) (subst (λ ns. In g.0 (besides (owned t old) ns)) (same.owned t) g.1)

  no_starts : (c : Action) → In c (map Start (started old new)) → ⊥
  no_starts c h =
      let g = from_map (λ n. Start n) c (started old new) h in
      let z : length new.threads - length old.threads ≡ 0 = let l = ap length same.threads in omega arith in
      subst (λ n. In g.0 (counting (length old.threads) n)) z g.1

  same_thread : thread_at new t ≡ thread_at old t
  same_thread = ap (λ (ts : List Thread). thread_at (record old { threads = ts }) t) same.threads

  no_clears : (c : Action) → In c (clear_actions t old new) → ⊥
  no_clears c h =
      let p = in_only_if c ((thread_at old t).interrupted && not (thread_at new t).interrupted) (ClearInterrupt t ∷ []) h in
      let q = both (thread_at old t).interrupted (not (thread_at new t).interrupted) p.0 in
      not_both (thread_at old t).interrupted q.0 (subst (λ (x : Thread). IsTrue (not x.interrupted)) same_thread q.1)

  no_finished : (c : Action) → In c (map FinishInitialisation (finished_classes old new)) → ⊥
  no_finished c h =
      let g = from_map (λ class. FinishInitialisation class) c (finished_classes old new) h in
      let p = in_filter (λ class. is_finished (status_of new class) && not (is_finished (status_of old class))) g.0 (map (λ (row : Name × ClassStatus). row.0) new.classes) g.1 in
      let q = both (is_finished (status_of new g.0)) (not (is_finished (status_of old g.0))) p.1 in
      not_both (is_finished (status_of old g.0))
      (subst (λ (cs : List (Name × ClassStatus)). IsTrue (is_finished (status_of (record old { classes = cs }) g.0))) same.classes q.0) q.1

  no_ends : (c : Action) → In c (end_actions t old new) → ⊥
  no_ends c h =
      let p = in_only_if c (is_over new t) (map Wake (besides (waiting old) (waiting new)) ++ Finish t ∷ []) h in
      let g : has_ended Running ≡ true = subst (λ (x : ThreadStatus). IsTrue (has_ended x)) running (subst (λ (x : Thread). IsTrue (has_ended x.status)) same_thread p.0) in
      let f : false ≡ true = g in cc

  -- each action of the event
  pub all_silent : (c : Action) → In c (actions_to files e old (Does instruction) new) → IsSilent files c
  all_silent c h =
      elim (in_cases c (to_finished files e old (Does instruction) new) (end_actions t old new) h) [
        | inr g ↦ absurd (no_ends c g)
        | inl h9 ↦ elim (in_cases c (to_clears files e old (Does instruction) new) (map FinishInitialisation (finished_classes old new)) h9) [
          | inr g ↦ absurd (no_finished c g)
          | inl h8 ↦ elim (in_cases c (to_interrupts files e old (Does instruction) new) (clear_actions t old new) h8) [
            | inr g ↦ absurd (no_clears c g)
            | inl h7 ↦ elim (in_cases c (to_starts files e old (Does instruction) new) (interrupts_of files e old (Does instruction)) h7) [
              | inr g ↦ absurd (no_interrupts c g)
              | inl h6 ↦ elim (in_cases c (to_unlocks files e old (Does instruction) new) (map Start (started old new)) h6) [
                | inr g ↦ absurd (no_starts c g)
                | inl h5 ↦ elim (in_cases c (to_accesses files e old (Does instruction) new) (map Unlock (besides (owned t old) (owned t new))) h5) [
                  | inr g ↦ absurd (no_unlocks c g)
                  | inl h4 ↦ elim (in_cases c (to_locks files e old (Does instruction) new) (accesses_of files e old (Does instruction)) h4) [
                    | inr g ↦ in_accesses c g
                    | inl h3 ↦ elim (in_cases c (to_finds files e old (Does instruction) new) (map Lock (besides (owned t new) (owned t old))) h3) [
                      | inr g ↦ locks c (besides (owned t new) (owned t old)) g
                      | inl h2 ↦ elim (in_cases c (found_class old (needed_class files t (Does instruction))) (finds_of files e old (Does instruction)) h2) [
                        | inl g ↦ in_class c (needed_class files t (Does instruction)) g
                        | inr g ↦ absurd (no_finds c g)
                      ]
                    ]
                  ]
                ]
              ]
            ]
          ]
        ]
      ]

-- its accesses are among its actions
pub accesses_among : (files : Program) (event : Event) (old new : World) (rule : Rule) (c : Action) → In c (accesses_of files event old rule)
    → In c (actions_to files event old rule new)
accesses_among files event old new rule c h =
    in_left c (to_finished files event old rule new) (end_actions event.thread old new)
    (in_left c (to_clears files event old rule new) (map FinishInitialisation (finished_classes old new))
    (in_left c (to_interrupts files event old rule new) (clear_actions event.thread old new)
    (in_left c (to_starts files event old rule new) (interrupts_of files event old rule)
    (in_left c (to_unlocks files event old rule new) (map Start (started old new))
    (in_left c (to_accesses files event old rule new) (map Unlock (besides (owned event.thread old) (owned event.thread new)))
    (in_right c (to_locks files event old rule new)
    (accesses_of files event old rule) h))))))

-- an access that conflicts leaves nothing
pub silent_of : (files : Program) (a b : Action) → IsTrue (conflicts files a b) → IsSilent files a
silent_of files (Read variable) b h later = refl
silent_of files (Write variable) b h later =
    let v : is_volatile files variable ≡ false = not_true (is_volatile files variable) (both (not (is_volatile files variable)) (is_write variable b || is_read variable b) h).0 in
    subst (λ x. (x && is_read variable later) ≡ false) (sym v) refl
silent_of files _ b h later = absurd (cc)
