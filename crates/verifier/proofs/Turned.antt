-- A turn of a search, by what the instruction led to.
use Rattle.std.proofs.Common.{◌≡◌, ℕ, suc, ◌+◌, ◌*◌, ◌≤◌, List, [], ◌∷◌, length, map, Bool, true, Option, Some, None, refl, sym, ap, ◌∙◌, subst, arith}
use Rattle.std.specs.Prelude.{min, slice_get, option_map, IfSome}
use Rattle.std.specs.Global.{Vec}
use Rattle.std.proofs.Math.Nat.{min-le_left, min-le_right, le-min}
use Rattle.std.proofs.lemmas.List.{length-map, length-set}
use Rattle.std.proofs.lemmas.Option.{slice_get-map}
use Rattle.model.specs.TypeOrder.{FrameType}
use Rattle.types.specs.View.{type_in}
use Rattle.model.specs.Names.{Member}
use Rattle.model.specs.Classes.{Program, Body}
use Rattle.types.specs.declared.method_code.declaration.MethodCode.{MethodCode}
use Rattle.types.specs.method_code.View.{files_of, member_of, body_of}
use Rattle.run_laws.specs.typing_search.Orders.{IsOrdered}
use Rattle.run_laws.specs.typing_search.Tables.{typing_of, taken_off}
use Rattle.verifier.specs.declared.flow.handler.Handler.{Handler}
use Rattle.verifier.specs.declared.flow.lead.Lead.{Lead}
use Rattle.verifier.specs.declared.found.Found.{Found}
use Rattle.verifier.specs.declared.found.Origin.{Origin}
use Rattle.verifier.specs.declared.look.Look.{Look}
use Rattle.verifier.specs.flow.Leads.{LeadOn, all_leads, targets_in}
use Rattle.verifier.specs.Agreeing.{AgreeAt}
use Rattle.verifier.specs.Packed.{Parts, parts_in}
use Rattle.verifier.specs.Found.{tables_in, leads_in, AreOver, IsSearch, waiting_again, HasTurned, DoesTurn}
use Rattle.run_laws.specs.typing_search.Weights.{places}
use Rattle.verifier.specs.Worklist.{Tables, Turn, bytes_at, look_steps, turn_steps, most_a_turn, turn_by, turn_from, turn_at, off}
use Rattle.verifier.specs.Looks.{offset_of, typing_in, AddsNoLook, LeavesAt, IsLook, MayPass, AreLooks, SettlesAt, HasLed, HasLedTo, IsLookOver}
use Rattle.verifier.proofs.Entries.{tables_same}
use Rattle.verifier.proofs.Joining.{its_targets}
use Rattle.verifier.proofs.Looked.{kept_fewer, kept_settling}
use Rattle.verifier.proofs.Turns.{turns, passes}

-- ---- the leads of an instruction by their offsets

places_of : (files : Program) (origin : Origin) (leads : List Lead)
    → map (λ (lead : ℕ × FrameType). lead.0) (leads_in files origin leads) ≡ map offset_of leads
places_of files origin [] = refl
places_of files origin (lead ∷ leads) = ap (λ l. lead.offset ∷ l) (places_of files origin leads)

pub leads_to : (files : Program) (origin : Origin) (offset : ℕ) (hs : List Handler) (leads listed : List Lead) (targets : List ℕ) → LeadOn offset hs leads
    → listed ≡ leads → targets ≡ targets_in leads
    → map (λ (lead : ℕ × FrameType). lead.0) (leads_in files origin listed) ≡ map offset_of (all_leads offset hs targets)
leads_to files origin offset hs leads listed targets on e f =
    let are : targets ≡ on.targets = f ∙ (ap targets_in on.are ∙ its_targets offset hs on.targets) in
    places_of files origin listed ∙ ap (map offset_of) (e ∙ (on.are ∙ ap (all_leads offset hs) (sym are)))

-- what a look takes that merges these leads
pub look_over : (m : MethodCode) (hs : List Handler) (origin : Origin) (offset : ℕ) (leads : List Lead) (targets : List ℕ) (count read steps : ℕ)
    → count ≡ length leads
    → map (λ (lead : ℕ × FrameType). lead.0) (leads_in (files_of m) origin leads) ≡ map offset_of (all_leads offset hs targets)
    → steps ≤ 64 + read + suc count * suc (places (body_of m)) → read ≤ bytes_at (body_of m) offset → IsLookOver m hs offset targets steps
look_over m hs origin offset leads targets count read steps counted to s r =
    let listed = leads_in (files_of m) origin leads in
    let same : count ≡ length (all_leads offset hs targets) =
    counted ∙ (sym (length-map leads _) ∙ (sym (length-map listed (λ (lead : ℕ × FrameType). lead.0)) ∙ (ap length to ∙ length-map (all_leads offset hs targets) offset_of))) in
    subst (λ n. steps ≤ 64 + bytes_at (body_of m) offset + suc n * suc (places (body_of m))) same (omega (arith, s, r))

-- ---- the offsets that are told

pub led_to_told : (m : MethodCode) (hs : List Handler) (before : Found) (offset : ℕ) (told : Option (Vec ℕ)) (steps : ℕ) (after : Found) (v : Vec ℕ)
    → told ≡ Some v → HasLedTo m hs before offset told steps after
    → HasLed m hs before offset v.items after × IsLookOver m hs offset v.items steps
led_to_told m hs before offset told steps after v e of =
    let same : v.items ≡ of.targets = subst (λ o. IfSome o (λ (w : Vec ℕ). w.items ≡ of.targets)) e of.are in
    (subst (λ l. HasLed m hs before offset l after) (sym same) of.led, subst (λ l. IsLookOver m hs offset l steps) (sym same) of.within)

-- ---- a turn

-- at an offset that was taken off
pub off_taken : (files : Program) (method : Member) (body : Body) (found : Found) (waiting : List Bool) (offset steps : ℕ) (after : Tables)
    → waiting ≡ taken_off found.waiting offset
    → DoesTurn (turn_at files method body (tables_in files (record found { waiting = waiting })) offset) steps after
    → DoesTurn (turn_at files method body (off (tables_in files found) offset) offset) steps after
off_taken files method body found waiting offset steps after e =
    subst (λ marks. DoesTurn (turn_at files method body (tables_in files (record found { waiting = marks })) offset) steps after) e

module _ (m : MethodCode) where
  pub same_tables : (a b : Found) → a.types.items ≡ b.types.items → a.waiting ≡ b.waiting → tables_in (files_of m) a ≡ tables_in (files_of m) b
  same_tables a b e f = tables_same (tables_in (files_of m) a) (tables_in (files_of m) b) (ap (map (option_map (parts_in (files_of m)))) e) f

  module _ (ordered : IsOrdered (files_of m)) (hs : List Handler) (start taken : Found) (offset : ℕ)
      (types : taken.types.items ≡ start.types.items) (waiting : taken.waiting ≡ start.waiting)
      (search : IsSearch (files_of m) (member_of m) (body_of m) (waiting_again (tables_in (files_of m) start) offset)) where
    from : tables_in (files_of m) start ≡ tables_in (files_of m) taken
    from = same_tables start taken (sym types) (sym waiting)

    pub search_taken : IsSearch (files_of m) (member_of m) (body_of m) (waiting_again (tables_in (files_of m) taken) offset)
    search_taken = subst (λ tables. IsSearch (files_of m) (member_of m) (body_of m) (waiting_again tables offset)) from search

    pub over_taken : AreOver (body_of m) (tables_in (files_of m) taken)
    over_taken = record { types = search_taken.over.types; waiting = sym (length-set (tables_in (files_of m) taken).waiting offset true) ∙ search_taken.over.waiting }

    pub passes_taken : typing_in m taken offset ≡ None
        → HasTurned (files_of m) (member_of m) (body_of m) (tables_in (files_of m) start) (tables_in (files_of m) taken)
    passes_taken e =
        subst (λ tables. HasTurned (files_of m) (member_of m) (body_of m) tables (tables_in (files_of m) taken)) (sym from)
        (passes (files_of m) ordered (member_of m) (body_of m) (tables_in (files_of m) taken) offset search_taken e)

    -- nothing is done where nothing was found
    pub nothing_done : typing_in m taken offset ≡ None
        → DoesTurn (turn_at (files_of m) (member_of m) (body_of m) (tables_in (files_of m) start) offset) 0 (tables_in (files_of m) taken)
    nothing_done e =
        record {
          done = record { steps = 0; tables = tables_in (files_of m) taken };
          is = ap (λ tables. turn_at (files_of m) (member_of m) (body_of m) tables offset) from
              ∙ ap (turn_from (files_of m) (member_of m) (body_of m) (tables_in (files_of m) taken) offset) e;
          tables = refl;
          within = omega arith;
        }

    -- the turn of an instruction that was looked at
    module _ (led done : Found) (targets : List ℕ) (types_done : done.types.items ≡ led.types.items) (waiting_done : done.waiting ≡ led.waiting)
        (of : HasLed m hs taken offset targets led) (look steps : ℕ) (over : IsLookOver m hs offset targets look) where
      abbrev leads : ℕ
      leads = length of.leads

      counted : leads ≡ length (all_leads offset hs targets)
      counted =
          sym (length-map of.leads (λ (lead : ℕ × FrameType). lead.0)) ∙ (ap length of.to ∙ length-map (all_leads offset hs targets) offset_of)

      pub turn_done : steps ≤ min (32 + length (body_of m).code.exceptions + look) (most_a_turn (body_of m))
          → DoesTurn (turn_at (files_of m) (member_of m) (body_of m) (tables_in (files_of m) start) offset) steps (tables_in (files_of m) done)
      turn_done e =
          let files = files_of m in
          let body = body_of m in
          let turn : Tables → Turn = λ after. record { steps = turn_steps body offset leads; tables = after } in
          let here : look ≤ look_steps body offset leads = subst (λ n. look ≤ look_steps body offset n) (sym counted) over in
          let left = min-le_left (32 + length body.code.exceptions + look) (most_a_turn body) in
          let right = min-le_right (32 + length body.code.exceptions + look) (most_a_turn body) in
          record {
            done = turn (tables_in files led);
            is = ap (λ tables. turn_at files (member_of m) body tables offset) from
                ∙ (ap (turn_from files (member_of m) body (tables_in files taken) offset) of.typed
                ∙ (ap (turn_by files body (tables_in files taken) offset) of.flows ∙ ap (option_map turn) of.merged.whole));
            tables = same_tables led done (sym types_done) (sym waiting_done);
            within = le-min (omega (arith, e, left, here)) (omega (arith, e, right));
          }

    module _ (are : AreLooks m hs start) (looks : AddsNoLook start.looks.items taken.looks.items) where
      pub looks_taken : AreLooks m hs taken
      looks_taken = kept_fewer m ordered.rooted start taken types hs looks are

      -- what is known of the instruction that was taken off
      pub may_pass : (look : Look) (packed frame : Parts) → slice_get start.looks.items offset ≡ Some (Some look)
          → typing_in m taken offset ≡ Some (parts_in (files_of m) packed) → LeavesAt m offset look.changed.items
          → AgreeAt look.changed.items frame.locals packed.locals → MayPass m hs taken offset frame look
      may_pass look packed frame at typed left holds =
          let t = parts_in (files_of m) packed in
          let known : (tables : Tables) → tables_in (files_of m) start ≡ tables → typing_of tables.types offset ≡ Some t
          → IsLook m hs (typing_of tables.types) offset t look =
          λ tables e. subst (λ (ts : Tables). typing_of ts.types offset ≡ Some t → IsLook m hs (typing_of ts.types) offset t look) e (are offset look at t) in
          record {
            t = t;
            typed = typed;
            looked = known (tables_in (files_of m) taken) from typed;
            left = left;
            holds = λ k e.
                slice_get-map (type_in (files_of m)) frame.locals k
                ∙ (ap (option_map (type_in (files_of m))) (holds k e) ∙ sym (slice_get-map (type_in (files_of m)) packed.locals k));
          }

      module _ (led done : Found) (targets : List ℕ) (types_done : done.types.items ≡ led.types.items) (waiting_done : done.waiting ≡ led.waiting)
          (of : HasLed m hs taken offset targets led) where
        pub turned : HasTurned (files_of m) (member_of m) (body_of m) (tables_in (files_of m) start) (tables_in (files_of m) done)
        turned =
            let files = files_of m in
            let to = same_tables led done (sym types_done) (sym waiting_done) in
            subst (λ tables. HasTurned files (member_of m) (body_of m) tables (tables_in files done)) (sym from)
            (subst (HasTurned files (member_of m) (body_of m) (tables_in files taken)) to
            (turns files ordered (member_of m) (body_of m) (tables_in files taken) offset search_taken of.t of.leads (tables_in files led) of.typed of.flows of.merged))

        pub looked : SettlesAt offset targets led done → AreLooks m hs done
        looked settling = kept_settling m ordered.rooted led done types_done hs taken offset targets of settling (of.looks hs looks_taken)
