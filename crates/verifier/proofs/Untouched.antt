-- Where an instruction leads from frame types that differ in local variables with which it has nothing to do.
use Rattle.std.proofs.Common.{◌≡◌, ℕ, ◌+◌, List, [], ◌∷◌, ◌++◌, length, map, take, drop, Bool, true, false, ◌&&◌, ◌||◌, not, cond, Option, Some, None, refl, sym, ap, ◌∙◌, subst, option_map}
use Rattle.std.specs.Prelude.{slice_set, slice_index_or, nat_le}
use Rattle.std.specs.List.{AllByRecursion, list_any}
use Rattle.std.specs.Option.{option_map_or}
use Rattle.std.proofs.lemmas.Bool.{false≢true, not-true}
use Rattle.std.proofs.lemmas.Option.{same_Some}
use Rattle.model.specs.declared.class_file.ExceptionEntry.{ExceptionEntry}
use Rattle.model.specs.declared.instr.ArrayKind.{ArrayKind}
use Rattle.model.specs.declared.instr.ArrayKind.TheVariants as array_kind
use Rattle.model.specs.declared.instr.Instr.{Instr}
use Rattle.model.specs.declared.instr.Instr.TheVariants as instr
use Rattle.model.specs.declared.instr.Invocation.TheVariants as invocation
use Rattle.model.specs.declared.instr.Returned.{Returned}
use Rattle.model.specs.declared.instr.Returned.TheVariants as returned
use Rattle.model.specs.declared.instr.StackMove.{StackMove}
use Rattle.model.specs.declared.instr.StackMove.TheVariants.{Pop, Pop2, Dup, DupX1, DupX2, Dup2, Dup2X1, Dup2X2, Swap}
use Rattle.model.specs.declared.value.Value.{Value}
use Rattle.model.specs.Names.{Member, name_eq, constructor_name}
use Rattle.model.specs.Tree.{Entry}
use Rattle.model.specs.Pool.{integers_of}
use Rattle.model.specs.Classes.{Program, Body}
use Rattle.model.specs.Types.{VerificationType, Unusable, IntType, Want, type_meets}
use Rattle.model.specs.InitialisedTypes.{is_made_at}
use Rattle.model.specs.Operands.{Slots, values, over_types, Wants, reads_meet, pops_meet, is_ready, operands, under}
use Rattle.model.specs.Rows.{Out, Row, out, written, row_wants, after_row, move_row, constant_row, local_row}
use Rattle.model.specs.Sites.{MeaningOf, Site, site_at, to_next}
use Rattle.model.specs.Meanings.{meaning_of}
use Rattle.model.specs.Arrays.{load_of, store_of}
use Rattle.model.specs.Calls.{return_of}
use Rattle.model.specs.Step.{covers}
use Rattle.model.specs.TypeOrder.{FrameType}
use Rattle.model.specs.Typing.{is_constructor, may_stand, constructs_this, marked, successors, handler_type, handlers_from, flow_by, flow_at, flow}
use Rattle.run_laws.proofs.laws.Operations.{Operation, NamedCall, OfRow, GetSystemStream, GetStatic, PutStatic, GetField, PutField, Println, CallVirtual, CallConstructor, CallSpecial, CallStatic, CallInterface, Return, LoadClass, LoadString, New, NewArray, NewReferenceArray, ArrayLength, LoadElement, StoreElement, CheckCast, InstanceOf, Throw, MonitorEnter, MonitorExit, operation, OfMeaning, each_meaning}
use Rattle.run_laws.proofs.typing_search.Merging.{get_set_other}
use Rattle.verifier.specs.flow.Untouched.{leaves, leaves_by}
use Rattle.verifier.specs.Agreeing.{is_among, AgreeBut, AgreeAt, DifferIn, HaveMoved}
use Rattle.verifier.proofs.Agreeing.{index_alike, but_set}

-- ---- which local variables a local instruction reads and writes

module _ (ks : List ℕ) where
  abbrev pub IsApart : ℕ → Type 0
  IsApart local = is_among ks local ≡ false

  record IsRowApart (row : Row) : Type 0 where
    reads : AllByRecursion (λ (r : ℕ × Want). IsApart r.0) row.reads
    writes : AllByRecursion (λ (w : ℕ × Out). IsApart w.0) row.writes

  is_row : (r row : Row) → IsRowApart r → Some r ≡ Some row → IsRowApart row
  is_row r row h e = subst IsRowApart (same_Some r row e) h

  constant_apart : (next : ℕ) (row : Row) (o : Option ℕ) → option_map (constant_row next) o ≡ Some row → IsRowApart row
  constant_apart next row None e = absurd cc
  constant_apart next row (Some bits) e = is_row (constant_row next bits) row (record { reads = tt; writes = tt }) e

  move_apart : (move : StackMove) (next : ℕ) → IsRowApart (move_row move next)
  move_apart Pop next = record { reads = tt; writes = tt }
  move_apart Pop2 next = record { reads = tt; writes = tt }
  move_apart Dup next = record { reads = tt; writes = tt }
  move_apart DupX1 next = record { reads = tt; writes = tt }
  move_apart DupX2 next = record { reads = tt; writes = tt }
  move_apart Dup2 next = record { reads = tt; writes = tt }
  move_apart Dup2X1 next = record { reads = tt; writes = tt }
  move_apart Dup2X2 next = record { reads = tt; writes = tt }
  move_apart Swap next = record { reads = tt; writes = tt }

  module _ (pool : List Entry) (integers : List (Option ℕ)) (code : List ℕ) (pc next : ℕ) (row : Row) where
    row_apart : (i : Instr) → leaves_by pool i ks ≡ true → local_row integers code pc next i ≡ Some row → IsRowApart row
    row_apart instr.Nop h e = is_row _ row (record { reads = tt; writes = tt }) e
    row_apart instr.Null h e = is_row _ row (record { reads = tt; writes = tt }) e
    row_apart (instr.Const n) h e = is_row _ row (record { reads = tt; writes = tt }) e
    row_apart (instr.LoadConstant index) h e = constant_apart next row (slice_index_or integers index None) e
    row_apart (instr.Load kind local) h e = is_row _ row (record { reads = (not-true _ h, tt); writes = tt }) e
    row_apart (instr.Store kind local) h e = is_row _ row (record { reads = tt; writes = (not-true _ h, tt) }) e
    row_apart (instr.Move move) h e = is_row (move_row move next) row (move_apart move next) e
    row_apart (instr.Compute op) h e = is_row _ row (record { reads = tt; writes = tt }) e
    row_apart instr.Negate h e = is_row _ row (record { reads = tt; writes = tt }) e
    row_apart (instr.Increment local by) h e = is_row _ row (record { reads = (not-true _ h, tt); writes = (not-true _ h, tt) }) e
    row_apart (instr.Convert to) h e = is_row _ row (record { reads = tt; writes = tt }) e
    row_apart (instr.If comparison by) h e = is_row _ row (record { reads = tt; writes = tt }) e
    row_apart (instr.IfInts comparison by) h e = is_row _ row (record { reads = tt; writes = tt }) e
    row_apart (instr.IfReferences equal by) h e = is_row _ row (record { reads = tt; writes = tt }) e
    row_apart (instr.IfNull null by) h e = is_row _ row (record { reads = tt; writes = tt }) e
    row_apart (instr.Goto by) h e = is_row _ row (record { reads = tt; writes = tt }) e
    row_apart (instr.TableSwitch default low high at) h e = is_row _ row (record { reads = tt; writes = tt }) e
    row_apart (instr.LookupSwitch default pairs at) h e = is_row _ row (record { reads = tt; writes = tt }) e
    row_apart _ h e = absurd cc

  -- ---- what an instruction finds

  module _ (a b : Slots VerificationType) (locals : AgreeBut ks a.locals b.locals) (stack : a.stack ≡ b.stack) where
    abbrev pub AreApart : List (ℕ × Want) → Type 0
    AreApart reads = AllByRecursion (λ (r : ℕ × Want). IsApart r.0) reads

    abbrev read_in : Slots VerificationType → ℕ × Want → VerificationType
    read_in s r = slice_index_or s.locals r.0 Unusable

    same_read : (r : ℕ × Want) → IsApart r.0 → read_in a r ≡ read_in b r
    same_read r n = index_alike a.locals b.locals r.0 Unusable (locals.same r.0 n)

    same_reads : (rs : List (ℕ × Want)) → AreApart rs → map (read_in a) rs ≡ map (read_in b) rs
    same_reads [] n = refl
    same_reads (r ∷ rs) n = ap (λ x. x ∷ map (read_in a) rs) (same_read r n.0) ∙ ap (λ l. read_in b r ∷ l) (same_reads rs n.1)

    same_operands : (w : Wants) → AreApart w.reads → operands over_types w a ≡ operands over_types w b
    same_operands w n =
        ap (λ l. l ++ take (length w.pops) a.stack) (same_reads w.reads n) ∙ ap (λ l. map (read_in b) w.reads ++ take (length w.pops) l) stack

    same_under : (w : Wants) → under w a ≡ under w b
    same_under w = ap (drop (length w.pops)) stack

    same_meets : (accepts : Want → VerificationType → Bool) (rs : List (ℕ × Want)) → AreApart rs
        → reads_meet accepts over_types rs a.locals ≡ reads_meet accepts over_types rs b.locals
    same_meets accepts [] n = refl
    same_meets accepts (r ∷ rs) n =
        ap (λ x. accepts r.1 x && reads_meet accepts over_types rs a.locals) (same_read r n.0)
        ∙ ap (λ x. accepts r.1 (read_in b r) && x) (same_meets accepts rs n.1)

    same_ready : (accepts : Want → VerificationType → Bool) (w : Wants) (max : ℕ) → AreApart w.reads
        → is_ready accepts over_types w max a ≡ is_ready accepts over_types w max b
    same_ready accepts w max n =
        ap (λ x. w.allowed && (x && (pops_meet accepts w.pops a.stack && nat_le (length (drop (length w.pops) a.stack) + w.grows) max))) (same_meets accepts w.reads n)
        ∙ ap (λ l. w.allowed && (reads_meet accepts over_types w.reads b.locals && (pops_meet accepts w.pops l && nat_le (length (drop (length w.pops) l) + w.grows) max))) stack

    -- ---- where it leads

    pub record IsAlike (x y : ℕ × Slots VerificationType) : Type 0 where
      pub to : x.0 ≡ y.0
      pub differ : AgreeBut ks x.1.locals y.1.locals
      pub taken : AgreeAt ks y.1.locals b.locals
      pub left : x.1.stack ≡ y.1.stack

    abbrev pub AreAlike : List (ℕ × Slots VerificationType) → List (ℕ × Slots VerificationType) → Type 0
    AreAlike [] [] = Unit {0}
    AreAlike [] (y ∷ ys) = ⊥
    AreAlike (x ∷ xs) [] = ⊥
    AreAlike (x ∷ xs) (y ∷ ys) = IsAlike x y × AreAlike xs ys

    abbrev pub LeadsAlike : MeaningOf Value → Type 0
    LeadsAlike m = AreApart m.wants.reads × ((ops rest : List VerificationType) → AreAlike (m.leads a ops rest) (m.leads b ops rest))

    -- the local variables are left as they are
    kept : (to : ℕ) (left : List VerificationType) → IsAlike (to, record { locals = a.locals; stack = left }) (to, record { locals = b.locals; stack = left })
    kept to left = record { to = refl; differ = locals; taken = λ k e. refl; left = refl }

    next : (to : ℕ) (pushed ops rest : List VerificationType) → AreAlike (to_next to pushed a ops rest) (to_next to pushed b ops rest)
    next to pushed ops rest = (kept to (pushed ++ rest), tt)

    written_but : (ops : List VerificationType) (ws : List (ℕ × Out)) (xs ys : List VerificationType) → AgreeBut ks xs ys
        → AgreeBut ks (written over_types ops ws xs) (written over_types ops ws ys)
    written_but ops [] xs ys g = g
    written_but ops (w ∷ ws) xs ys g = written_but ops ws _ _ (but_set ks xs ys w.0 (out over_types ops w.1) g)

    written_at : (ops : List VerificationType) (ws : List (ℕ × Out)) (xs : List VerificationType)
        → AllByRecursion (λ (w : ℕ × Out). IsApart w.0) ws → AgreeAt ks (written over_types ops ws xs) xs
    written_at ops [] xs n = λ k e. refl
    written_at ops (w ∷ ws) xs n =
        λ k e. written_at ops ws (slice_set xs w.0 (out over_types ops w.1)) n.1 k e
        ∙ get_set_other xs w.0 k (out over_types ops w.1) (λ q. false≢true (sym n.0 ∙ subst (λ j. is_among ks j ≡ true) q e))

    row_alike : (row : Row) → IsRowApart row → (to : ℕ) → IsAlike (to, after_row over_types row a) (to, after_row over_types row b)
    row_alike row n to =
        let w = row_wants row in
        let same = same_operands w n.reads in
        record {
          to = refl;
          differ = subst (λ ops. AgreeBut ks (written over_types (operands over_types w a) row.writes a.locals) (written over_types ops row.writes b.locals)) same (written_but (operands over_types w a) row.writes a.locals b.locals locals);
          taken = written_at (operands over_types w b) row.writes b.locals n.writes;
          left = ap (λ ops. map (out over_types ops) row.pushes ++ under w a) same ∙ ap (λ l. map (out over_types (operands over_types w b)) row.pushes ++ l) (same_under w);
        }

    rows_alike : (row : Row) → IsRowApart row → (tos : List ℕ)
        → AreAlike (map (λ to. (to, after_row over_types row a)) tos) (map (λ to. (to, after_row over_types row b)) tos)
    rows_alike row n [] = tt
    rows_alike row n (to ∷ tos) = (row_alike row n to, rows_alike row n tos)

    module _ (files : Program) (site : Site) (left : leaves site ks ≡ true) where
      return_alike : (kind : Returned) → LeadsAlike (return_of values files site.method.descriptor kind)
      return_alike returned.Nothing = (tt, λ ops rest. tt)
      return_alike returned.Int = (tt, λ ops rest. tt)
      return_alike returned.Reference = (tt, λ ops rest. tt)

      load_alike : (kind : ArrayKind) → LeadsAlike (load_of values files site kind)
      load_alike array_kind.Int = (tt, next site.next (IntType ∷ []))
      load_alike array_kind.Reference = (tt, λ ops rest. (kept site.next _, tt))
      load_alike array_kind.ByteOrBoolean = (tt, next site.next (IntType ∷ []))
      load_alike array_kind.Char = (tt, next site.next (IntType ∷ []))
      load_alike array_kind.Short = (tt, next site.next (IntType ∷ []))

      store_alike : (kind : ArrayKind) → LeadsAlike (store_of values files site kind)
      store_alike array_kind.Int = (tt, next site.next [])
      store_alike array_kind.Reference = (tt, next site.next [])
      store_alike array_kind.ByteOrBoolean = (tt, next site.next [])
      store_alike array_kind.Char = (tt, next site.next [])
      store_alike array_kind.Short = (tt, next site.next [])

      -- an instruction that may change them all is not left
      not_left : (i : Instr) → site.instr ≡ i → leaves_by site.body.pool i ks ≡ false → ⊥
      not_left i e f = false≢true (sym f ∙ (ap (λ j. leaves_by site.body.pool j ks) (sym e) ∙ left))

      -- nor is a call of a constructor
      constructs : (call : NamedCall site invocation.Special) → name_eq call.named.name constructor_name ≡ true
          → leaves_by site.body.pool (instr.Invoke invocation.Special call.index) ks ≡ false
      constructs call e = ap (λ o. not (option_map_or is_constructor o false)) call.names ∙ ap not e

      each_alike : (o : Operation files site) → LeadsAlike (operation values files site o)
      each_alike (OfRow row e) =
          let n = row_apart site.body.pool (integers_of site.body.pool) site.body.code.code site.offset site.next row site.instr left e in
          (n.reads, λ ops rest. rows_alike row n (row.to ∷ row.others))
      each_alike (GetSystemStream index stream n) = (tt, λ ops rest. (kept site.next _, tt))
      each_alike (GetStatic f) = (tt, λ ops rest. (kept site.next _, tt))
      each_alike (PutStatic f) = (tt, next site.next [])
      each_alike (GetField f) = (tt, λ ops rest. (kept site.next _, tt))
      each_alike (PutField f) = (tt, next site.next [])
      each_alike (Println call e) = (tt, next site.next [])
      each_alike (CallVirtual call e m) = (tt, λ ops rest. (kept site.next _, tt))
      each_alike (CallConstructor call e passes) = absurd (not_left (instr.Invoke invocation.Special call.index) call.instruction (constructs call e))
      each_alike (CallSpecial call e m) = (tt, λ ops rest. (kept site.next _, tt))
      each_alike (CallStatic index i m) = (tt, λ ops rest. (kept site.next _, tt))
      each_alike (CallInterface call m) = (tt, λ ops rest. (kept site.next _, tt))
      each_alike (Return kind i) = return_alike kind
      each_alike (LoadClass constant file e) = (tt, λ ops rest. (kept site.next _, tt))
      each_alike (LoadString constant) = (tt, λ ops rest. (kept site.next _, tt))
      each_alike (New class file e) = absurd (not_left (instr.New class.index) class.instruction refl)
      each_alike (NewArray code of i e) = (tt, λ ops rest. (kept site.next _, tt))
      each_alike (NewReferenceArray class) = (tt, λ ops rest. (kept site.next _, tt))
      each_alike (ArrayLength i) = (tt, λ ops rest. (kept site.next _, tt))
      each_alike (LoadElement kind i) = load_alike kind
      each_alike (StoreElement kind i) = store_alike kind
      each_alike (CheckCast class) = (tt, λ ops rest. (kept site.next _, tt))
      each_alike (InstanceOf class) = (tt, λ ops rest. (kept site.next _, tt))
      each_alike (Throw i) = (tt, λ ops rest. tt)
      each_alike (MonitorEnter i) = (tt, next site.next [])
      each_alike (MonitorExit i) = (tt, next site.next [])

      pub meaning_alike : OfMeaning LeadsAlike (meaning_of values files site)
      meaning_alike = each_meaning values files site LeadsAlike each_alike

  -- ---- frame types

  module _ (files : Program) (a b : FrameType) (d : DifferIn ks a b) where
    same_stand : (site : Site) (i : Instr) → may_stand site a i ≡ may_stand site b i
    same_stand site (instr.New index) = ap (λ l. not (list_any (is_made_at site.offset) l)) d.stack
    same_stand site (instr.Return kind) = ap (λ m. not (is_constructor site.method) || m) d.constructed
    same_stand site _ = refl

    moved_append : (xs ys us vs : List (ℕ × FrameType)) → HaveMoved ks b xs ys → HaveMoved ks b us vs → HaveMoved ks b (xs ++ us) (ys ++ vs)
    moved_append [] [] us vs f g = g
    moved_append [] (y ∷ ys) us vs f g = absurd f
    moved_append (x ∷ xs) [] us vs f g = absurd f
    moved_append (x ∷ xs) (y ∷ ys) us vs f g = (f.0, f.1, f.2, moved_append xs ys us vs f.3 g)

    marked_moved : (m n : Bool) → m ≡ n → (xs ys : List (ℕ × Slots VerificationType)) → AreAlike a.slots b.slots d.locals d.stack xs ys
        → HaveMoved ks b (map (marked m) xs) (map (marked n) ys)
    marked_moved m n e [] [] g = tt
    marked_moved m n e [] (y ∷ ys) g = absurd g
    marked_moved m n e (x ∷ xs) [] g = absurd g
    marked_moved m n e (x ∷ xs) (y ∷ ys) g =
        (g.0.to, record { locals = g.0.differ; stack = g.0.left; constructed = e }, g.0.taken, marked_moved m n e xs ys g.1)

    handlers_moved : (pool : List Entry) (offset : ℕ) (es : List ExceptionEntry)
        → HaveMoved ks b (handlers_from files pool offset a es) (handlers_from files pool offset b es)
    handlers_moved pool offset [] = tt
    handlers_moved pool offset (e ∷ es) = by (covers offset e) (handlers_moved pool offset es)
      where
        by : (c : Bool) → HaveMoved ks b (handlers_from files pool offset a es) (handlers_from files pool offset b es)
            → HaveMoved ks b (cond c (handler_type files pool a e ∷ handlers_from files pool offset a es) (handlers_from files pool offset a es))
            (cond c (handler_type files pool b e ∷ handlers_from files pool offset b es) (handlers_from files pool offset b es))
        by true q = (refl, record { locals = d.locals; stack = refl; constructed = d.constructed }, λ k e. refl, q)
        by false q = q

    -- ---- the flow

    abbrev leads_of : Site → MeaningOf Value → FrameType → List (ℕ × FrameType)
    leads_of site meaning t = successors site meaning t ++ handlers_from files site.body.pool site.offset t site.body.code.exceptions

    abbrev may_find : Site → MeaningOf Value → FrameType → Bool
    may_find site meaning t = may_stand site t site.instr && is_ready (type_meets files) over_types meaning.wants site.body.code.max_stack t.slots

    -- other leads, to the same offsets
    abbrev Moves : List (ℕ × FrameType) → Option (List (ℕ × FrameType)) → Type 0
    Moves leads flows = (others : List (ℕ × FrameType)) × (flows ≡ Some others) × HaveMoved ks b leads others

    leads_moved : (site : Site) (meaning : MeaningOf Value) → LeadsAlike a.slots b.slots d.locals d.stack meaning
        → HaveMoved ks b (leads_of site meaning a) (leads_of site meaning b)
    leads_moved site meaning alike =
        let ops = same_operands a.slots b.slots d.locals d.stack meaning.wants alike.0 in
        let left = same_under a.slots b.slots d.locals d.stack meaning.wants in
        let first = alike.1 (operands over_types meaning.wants a.slots) (under meaning.wants a.slots) in
        let same : meaning.leads b.slots (operands over_types meaning.wants a.slots) (under meaning.wants a.slots) ≡ meaning.leads b.slots (operands over_types meaning.wants b.slots) (under meaning.wants b.slots) =
        ap (λ o. meaning.leads b.slots o (under meaning.wants a.slots)) ops ∙ ap (λ u. meaning.leads b.slots (operands over_types meaning.wants b.slots) u) left in
        moved_append (successors site meaning a) (successors site meaning b) _ _
        (marked_moved _ _ (ap (λ m. m || constructs_this site (operands over_types meaning.wants a.slots) site.instr) d.constructed ∙ ap (λ o. b.constructed || constructs_this site o site.instr) ops)
        (meaning.leads a.slots (operands over_types meaning.wants a.slots) (under meaning.wants a.slots)) (meaning.leads b.slots (operands over_types meaning.wants b.slots) (under meaning.wants b.slots))
        (subst (AreAlike a.slots b.slots d.locals d.stack (meaning.leads a.slots (operands over_types meaning.wants a.slots) (under meaning.wants a.slots))) same first))
        (handlers_moved site.body.pool site.offset site.body.code.exceptions)

    same_found : (site : Site) (meaning : MeaningOf Value) → LeadsAlike a.slots b.slots d.locals d.stack meaning → may_find site meaning a ≡ may_find site meaning b
    same_found site meaning alike =
        ap (λ x. x && is_ready (type_meets files) over_types meaning.wants site.body.code.max_stack a.slots) (same_stand site site.instr)
        ∙ ap (λ x. may_stand site b site.instr && x) (same_ready a.slots b.slots d.locals d.stack (type_meets files) meaning.wants site.body.code.max_stack alike.0)

    by_test : (site : Site) (meaning : MeaningOf Value) → LeadsAlike a.slots b.slots d.locals d.stack meaning → (leads : List (ℕ × FrameType)) (c : Bool)
        → may_find site meaning a ≡ c → cond c (Some (leads_of site meaning a)) None ≡ Some leads → Moves leads (flow_by files site b (Some meaning))
    by_test site meaning alike leads true e q =
        let same : leads_of site meaning a ≡ leads = same_Some _ _ q in
        (leads_of site meaning b, ap (λ x. cond x (Some (leads_of site meaning b)) None) (sym (same_found site meaning alike) ∙ e), subst (λ l. HaveMoved ks b l (leads_of site meaning b)) same (leads_moved site meaning alike))
    by_test site meaning alike leads false e q = absurd cc

    by_meaning : (site : Site) (o : Option (MeaningOf Value)) → OfMeaning (LeadsAlike a.slots b.slots d.locals d.stack) o → (leads : List (ℕ × FrameType))
        → flow_by files site a o ≡ Some leads → Moves leads (flow_by files site b o)
    by_meaning site None alike leads q = absurd cc
    by_meaning site (Some meaning) alike leads q = by_test site meaning alike leads (may_find site meaning a) refl q

    by_site : (o : Option Site) → ((site : Site) → o ≡ Some site → leaves site ks ≡ true) → (leads : List (ℕ × FrameType))
        → flow_at files a o ≡ Some leads → Moves leads (flow_at files b o)
    by_site None left leads q = absurd cc
    by_site (Some site) left leads q =
        by_meaning site (meaning_of values files site) (meaning_alike a.slots b.slots d.locals d.stack files site (left site refl)) leads q

    pub flow_moves : (method : Member) (body : Body) (offset : ℕ) → ((site : Site) → site_at method body offset ≡ Some site → leaves site ks ≡ true)
        → (leads : List (ℕ × FrameType)) → flow files method body offset a ≡ Some leads → Moves leads (flow files method body offset b)
    flow_moves method body offset left leads q = by_site (site_at method body offset) left leads q
