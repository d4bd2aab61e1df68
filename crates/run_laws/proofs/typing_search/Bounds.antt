-- The ranks of a method's types are limited: what its instructions make is of the types that they name.
use Rattle.std.proofs.Common.{◌≡◌, ℕ, zero, suc, ◌+◌, ◌<◌, ◌≤◌, List, [], ◌∷◌, ◌++◌, length, map, take, drop, Bool, true, false, ◌&&◌, cond, Option, Some, None, sym, ◌∙◌, subst, ⊎_elim, arith}
use Rattle.std.specs.Prelude.{slice_index_or}
use Rattle.std.specs.List.{AllByRecursion}
use Rattle.std.proofs.lemmas.Bool.{cond_both, cases_lt}
use Rattle.std.proofs.lemmas.Option.{same_Some}
use Rattle.model.specs.declared.class_file.ExceptionEntry.{ExceptionEntry}
use Rattle.model.specs.declared.instr.ArrayKind.TheVariants as array_kind
use Rattle.model.specs.declared.value.Value.{Value}
use Rattle.model.specs.Names.{Name, Member, java_lang_object}
use Rattle.model.specs.Tree.{Entry}
use Rattle.model.specs.Classes.{Program, Body, classes_of, is_interface}
use Rattle.model.specs.ReferenceTypes.{ReferenceType, ClassType, PrimitiveArray, ReferenceArray}
use Rattle.model.specs.Types.{VerificationType, Unusable, IntType, NullType, OfType, Uninitialised, UninitialisedThis, type_meets}
use Rattle.model.specs.DescribedTypes.{made_type, component_type}
use Rattle.model.specs.InitialisedTypes.{is_made_at, is_uninitialised, is_uninitialised_this, forgotten, initialised}
use Rattle.model.specs.Operands.{Slots, values, over_types, Wants, is_ready, operands, under}
use Rattle.model.specs.Rows.{Out, Copy, Number, Null, Row, out, written, row_wants, after_row}
use Rattle.model.specs.TypeOrder.{FrameType}
use Rattle.model.specs.Sites.{MeaningOf, Site, site_at, to_next, nowhere}
use Rattle.model.specs.Objects.{new_leads}
use Rattle.model.specs.Arrays.{load_of}
use Rattle.model.specs.Calls.{parameter_count, constructed_leads}
use Rattle.model.specs.Meanings.{local_meaning, meaning_of}
use Rattle.model.specs.Step.{covers}
use Rattle.model.specs.Typing.{may_stand, marked, successors, caught_type, handlers_from, entry_type, flow_by, flow_at, flow}
use Rattle.run_laws.proofs.laws.Lists.{every_append, every_set, every_map}
use Rattle.run_laws.specs.typing_search.Weights.{rank, IsLow, IsLowFrame}
use Rattle.run_laws.specs.typing_search.Decided.{IsBounded}
use Rattle.run_laws.proofs.typing_search.Forms.{Leading, OfLeads, meaning_each}
use Rattle.run_laws.proofs.typing_search.Merging.{no_flow, nothing_past}
use Rattle.run_laws.proofs.typing_search.Weights.{none_above, above_bounded}

-- ---- lists

module _ {A : Type 0} (P : A → Type 0) where
  every_index : (xs : List A) (d : A) → AllByRecursion P xs → P d → (k : ℕ) → P (slice_index_or xs k d)
  every_index [] d h p k = p
  every_index (x ∷ xs) d h p zero = h.0
  every_index (x ∷ xs) d h p (suc k) = every_index xs d h.1 p k

  every_take : (n : ℕ) (xs : List A) → AllByRecursion P xs → AllByRecursion P (take n xs)
  every_take zero xs h = tt
  every_take (suc n) [] h = tt
  every_take (suc n) (x ∷ xs) h = (h.0, every_take n xs h.1)

  every_drop : (n : ℕ) (xs : List A) → AllByRecursion P xs → AllByRecursion P (drop n xs)
  every_drop zero xs h = h
  every_drop (suc n) [] h = tt
  every_drop (suc n) (x ∷ xs) h = every_drop n xs h.1

  every_changed : (f : A → A) → ((x : A) → P x → P (f x)) → (xs : List A) → AllByRecursion P xs → AllByRecursion P (map f xs)
  every_changed f w [] h = tt
  every_changed f w (x ∷ xs) h = (w x h.0, every_changed f w xs h.1)

module _ (files : Program) where
  -- ---- the limit that some types need

  abbrev need : VerificationType → ℕ
  need Unusable = 0
  need IntType = 0
  need NullType = 0
  need (OfType t) = suc (rank files t)
  need (Uninitialised at c) = 0
  need (UninitialisedThis c) = 0

  abbrev needs : List VerificationType → ℕ
  needs [] = 0
  needs (t ∷ ts) = need t + needs ts

  low_needed : (limit : ℕ) (t : VerificationType) → need t ≤ limit → IsLow files limit t
  low_needed limit Unusable l = tt
  low_needed limit IntType l = tt
  low_needed limit NullType l = tt
  low_needed limit (OfType t) l = omega (arith, l)
  low_needed limit (Uninitialised at c) l = tt
  low_needed limit (UninitialisedThis c) l = tt

  all_needed : (limit : ℕ) (ts : List VerificationType) → needs ts ≤ limit → AllByRecursion (IsLow files limit) ts
  all_needed limit [] l = tt
  all_needed limit (t ∷ ts) l = (low_needed limit t (omega (arith, l)), all_needed limit ts (omega (arith, l)))

  -- ---- slots

  pub record LowSlots (limit : ℕ) (s : Slots VerificationType) : Type 0 where
    pub locals : AllByRecursion (IsLow files limit) s.locals
    pub stack : AllByRecursion (IsLow files limit) s.stack

  module _ (limit : ℕ) where
    operands_low : (w : Wants) (s : Slots VerificationType) → LowSlots limit s
        → AllByRecursion (IsLow files limit) (operands over_types w s)
    operands_low w s l =
        every_append (IsLow files limit) _ _ (every_map (IsLow files limit) (λ r. slice_index_or s.locals r.0 Unusable) w.reads (λ r. every_index (IsLow files limit) s.locals Unusable l.locals tt r.0)) (every_take (IsLow files limit) (length w.pops) s.stack l.stack)

    under_low : (w : Wants) (s : Slots VerificationType) → LowSlots limit s → AllByRecursion (IsLow files limit) (under w s)
    under_low w s l = every_drop (IsLow files limit) (length w.pops) s.stack l.stack

    out_low : (ops : List VerificationType) → AllByRecursion (IsLow files limit) ops → (o : Out) → IsLow files limit (out over_types ops o)
    out_low ops l (Copy k) = every_index (IsLow files limit) ops Unusable l tt k
    out_low ops l (Number f) = tt
    out_low ops l Null = tt

    written_low : (ops : List VerificationType) → AllByRecursion (IsLow files limit) ops → (ws : List (ℕ × Out))
        (ts : List VerificationType) → AllByRecursion (IsLow files limit) ts
        → AllByRecursion (IsLow files limit) (written over_types ops ws ts)
    written_low ops l [] ts h = h
    written_low ops l (w ∷ ws) ts h = written_low ops l ws _ (every_set (IsLow files limit) ts w.0 _ h (out_low ops l w.1))

    row_low : (row : Row) (s : Slots VerificationType) → LowSlots limit s → LowSlots limit (after_row over_types row s)
    row_low row s l =
        let o = operands_low (row_wants row) s l in
        record {
          locals = written_low _ o row.writes s.locals l.locals;
          stack = every_append (IsLow files limit) _ _ (every_map (IsLow files limit) (out over_types (operands over_types (row_wants row) s)) row.pushes (out_low _ o)) (under_low (row_wants row) s l);
        }

    forgotten_low : (offset : ℕ) (t : VerificationType) → IsLow files limit t → IsLow files limit (forgotten offset t)
    forgotten_low offset t l = cond_both (is_made_at offset t) Unusable t (IsLow files limit) (λ e. tt) (λ e. l)

    class_low : (c : Name) → suc (length (classes_of files)) ≤ limit → IsLow files limit (OfType (ClassType c))
    class_low c l = let b = above_bounded files (length (classes_of files)) c in omega (arith, l, b)

    initialised_low : (of : VerificationType) → suc (length (classes_of files)) ≤ limit → (t : VerificationType) → IsLow files limit t
        → IsLow files limit (initialised of t)
    initialised_low Unusable m t l = l
    initialised_low IntType m t l = l
    initialised_low NullType m t l = l
    initialised_low (OfType r) m t l = l
    initialised_low (Uninitialised at c) m t l = cond_both (is_uninitialised at c t) (OfType (ClassType c)) t (IsLow files limit) (λ e. class_low c m) (λ e. l)
    initialised_low (UninitialisedThis c) m t l = cond_both (is_uninitialised_this c t) (OfType (ClassType c)) t (IsLow files limit) (λ e. class_low c m) (λ e. l)

    made_rank : (t : ReferenceType) → rank files (made_type files t) ≤ rank files t
    made_rank (ClassType c) =
        cond_both (is_interface files c) java_lang_object c (λ x. rank files (ClassType x) ≤ rank files (ClassType c)) (λ e. let z = none_above files (length (classes_of files)) in omega (arith, z)) (λ e. omega arith)
    made_rank (PrimitiveArray of) = omega arith
    made_rank (ReferenceArray of) = let r = made_rank of in omega (arith, r)

    component_low : (t : VerificationType) → IsLow files limit t → IsLow files limit (component_type files t)
    component_low Unusable l = tt
    component_low IntType l = tt
    component_low NullType l = tt
    component_low (OfType (ClassType c)) l = tt
    component_low (OfType (PrimitiveArray of)) l = tt
    component_low (OfType (ReferenceArray of)) l = let r = made_rank of in omega (arith, r, l)
    component_low (Uninitialised at c) l = tt
    component_low (UninitialisedThis c) l = tt

  -- ---- forms of where instructions lead

  abbrev AllLow : ℕ → List (ℕ × Slots VerificationType) → Type 0
  AllLow limit leads = AllByRecursion (λ lead. LowSlots limit lead.1) leads

  abbrev StaysLow : Wants → Leading → Type 0
  StaysLow w leads = (least : ℕ) × ((limit : ℕ) → least ≤ limit → (s : Slots VerificationType) → LowSlots limit s → AllLow limit (leads s (operands over_types w s) (under w s)))

  next_low : (to : ℕ) (pushed : List VerificationType) (w : Wants) → StaysLow w (to_next to pushed)
  next_low to pushed w =
      (needs pushed, λ limit m s l. (record { locals = l.locals; stack = every_append (IsLow files limit) pushed _ (all_needed limit pushed m) (under_low limit w s l) }, tt))

  nowhere_low : (w : Wants) → StaysLow w nowhere
  nowhere_low w = (0, λ limit m s l. tt)

  rows_low : (row : Row) → StaysLow (row_wants row) (local_meaning values row).leads
  rows_low row = (0, λ limit m s l. each limit s l (row.to ∷ row.others))
    where
      each : (limit : ℕ) (s : Slots VerificationType) → LowSlots limit s → (tos : List ℕ)
          → AllLow limit (map (λ to. (to, after_row over_types row s)) tos)
      each limit s l [] = tt
      each limit s l (to ∷ tos) = (row_low limit row s l, each limit s l tos)

  new_low : (site : Site) (class : Name) (w : Wants) → StaysLow w (new_leads site class)
  new_low site class w =
      (0, λ limit m s l. (record { locals = every_changed (IsLow files limit) (forgotten site.offset) (forgotten_low limit site.offset) s.locals l.locals; stack = (tt, under_low limit w s l) }, tt))

  constructed_low : (site : Site) (method : Member) (w : Wants) → StaysLow w (constructed_leads site method)
  constructed_low site method w = (
    suc (length (classes_of files)),
    λ limit m s l.
        let of = slice_index_or (operands over_types w s) (parameter_count method) NullType in (
          record {
            locals = every_changed (IsLow files limit) (initialised of) (initialised_low limit of m) s.locals l.locals;
            stack = every_changed (IsLow files limit) (initialised of) (initialised_low limit of m) (under w s) (under_low limit w s l);
          },
          tt,
        ),
  )

  element_low : (site : Site) → StaysLow (load_of values files site array_kind.Reference).wants
      (load_of values files site array_kind.Reference).leads
  element_low site = (
    0,
    λ limit m s l.
        let w = (load_of values files site array_kind.Reference).wants in (
          record {
            locals = l.locals;
            stack = (component_low limit (slice_index_or (operands over_types w s) 1 NullType) (every_index (IsLow files limit) (operands over_types w s) NullType (operands_low limit w s l) tt 1), under_low limit w s l);
          },
          tt,
        ),
  )

  meaning_low : (site : Site) → OfLeads StaysLow (meaning_of values files site)
  meaning_low site = meaning_each files StaysLow next_low nowhere_low rows_low new_low constructed_low element_low site

  -- ---- flow

  abbrev FramesLow : ℕ → List (ℕ × FrameType) → Type 0
  FramesLow limit leads = AllByRecursion (λ lead. IsLowFrame files limit lead.1) leads

  slots_low : (limit : ℕ) (t : FrameType) → IsLowFrame files limit t → LowSlots limit t.slots
  slots_low limit t l = record { locals = l.locals; stack = l.stack }

  marked_low : (limit : ℕ) (mark : Bool) (leads : List (ℕ × Slots VerificationType)) → AllLow limit leads
      → FramesLow limit (map (marked mark) leads)
  marked_low limit mark [] h = tt
  marked_low limit mark (lead ∷ leads) h = (record { locals = h.0.locals; stack = h.0.stack }, marked_low limit mark leads h.1)

  caught_needs : List Entry → List ExceptionEntry → ℕ
  caught_needs pool [] = 0
  caught_needs pool (e ∷ es) = need (caught_type files pool e) + caught_needs pool es

  handlers_low : (limit : ℕ) (pool : List Entry) (offset : ℕ) (t : FrameType) → IsLowFrame files limit t → (es : List ExceptionEntry)
      → caught_needs pool es ≤ limit → FramesLow limit (handlers_from files pool offset t es)
  unfolding caught_needs
  handlers_low limit pool offset t l [] m = tt
  handlers_low limit pool offset t l (e ∷ es) m =
      let rest = handlers_low limit pool offset t l es (omega (arith, m)) in
      cond_both (covers offset e) _ _ (FramesLow limit) (λ c. (record { locals = l.locals; stack = (low_needed limit (caught_type files pool e) (omega (arith, m)), tt) }, rest)) (λ c. rest)

  -- at least so high a limit keeps what flow gives low
  abbrev Limits : (FrameType → Option (List (ℕ × FrameType))) → ℕ → Type 0
  Limits gives least =
      (limit : ℕ) → least ≤ limit → (t : FrameType) (leads : List (ℕ × FrameType)) → gives t ≡ Some leads → IsLowFrame files limit t → FramesLow limit leads

  none_gives : Limits (λ t. None) 0
  none_gives limit m t leads e l = absurd (none_some leads e)
    where
      none_some : (x : List (ℕ × FrameType)) → None ≡ Some x → ⊥
      none_some x q = absurd cc

  by_low : (site : Site) (o : Option (MeaningOf Value)) → OfLeads StaysLow o → (least : ℕ) × Limits (λ t. flow_by files site t o) least
  by_low site None h = (0, none_gives)
  by_low site (Some meaning) h =
      (h.0 + caught_needs site.body.pool site.body.code.exceptions, λ limit m t leads e l. found limit m t leads l (may_stand site t site.instr && is_ready (type_meets files) over_types meaning.wants site.body.code.max_stack t.slots) e)
    where
      found : (limit : ℕ) → h.0 + caught_needs site.body.pool site.body.code.exceptions ≤ limit → (t : FrameType)
          (leads : List (ℕ × FrameType)) → IsLowFrame files limit t → (c : Bool)
          → cond c (Some (successors site meaning t ++ handlers_from files site.body.pool site.offset t site.body.code.exceptions)) None
          ≡ Some leads → FramesLow limit leads
      found limit m t leads l true e =
          subst (FramesLow limit) (same_Some _ leads e) (every_append (λ lead. IsLowFrame files limit lead.1) _ _ (marked_low limit _ _ (h.1 limit (omega (arith, m)) t.slots (slots_low limit t l))) (handlers_low limit site.body.pool site.offset t l site.body.code.exceptions (omega (arith, m))))
      found limit m t leads l false e = absurd cc

  at_low : (o : Option Site) → (least : ℕ) × Limits (λ t. flow_at files t o) least
  at_low None = (0, none_gives)
  at_low (Some site) = by_low site (meaning_of values files site) (meaning_low site)

  -- ---- a whole method

  module _ (method : Member) (body : Body) where
    abbrev Below : ℕ → ℕ → Type 0
    Below n least = (offset : ℕ) → offset < n → Limits (λ t. flow files method body offset t) least

    up_to : (n : ℕ) → (least : ℕ) × Below n least
    up_to zero = (0, λ offset l. absurd (omega (arith, l)))
    up_to (suc n) = by (up_to n) (at_low (site_at method body n))
      where
        by : (least : ℕ) × Below n least → (least : ℕ) × Limits (λ t. flow files method body n t) least → (least : ℕ) × Below (suc n) least
        by a b =
            (a.0 + b.0, λ offset l limit m. ⊎_elim (λ w. a.1 offset w limit (omega (arith, m))) (λ w. let same : n ≡ offset = omega (arith, l, w) in subst (λ k. (t : FrameType) (leads : List (ℕ × FrameType)) → flow files method body k t ≡ Some leads → IsLowFrame files limit t → FramesLow limit leads) same (b.1 limit (omega (arith, m)))) (cases_lt offset n))

    pub bounded : (limit : ℕ) × IsBounded files method body limit
    bounded = by (up_to (length body.code.code))
      where
        by : (least : ℕ) × Below (length body.code.code) least → (limit : ℕ) × IsBounded files method body limit
        by a =
            let entry = needs (entry_type files method body).slots.locals in (
              a.0 + entry,
              record {
                begins = record { locals = all_needed (a.0 + entry) (entry_type files method body).slots.locals (omega arith); stack = tt };
                leads = λ offset t leads e l. ⊎_elim (λ w. a.1 offset w (a.0 + entry) (omega arith) t leads e l) (λ w. none_gives (a.0 + entry) (omega arith) t leads (sym (no_flow files method body offset t (nothing_past body.code.code offset w)) ∙ e) l) (cases_lt offset (length body.code.code));
              },
            )
