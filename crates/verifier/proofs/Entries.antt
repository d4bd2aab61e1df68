-- The tables of the code as lists of the definitions: an entry that was read, and one that was written; and frame types by
-- their parts.
use Rattle.std.proofs.Common.{◌≡◌, ℕ, zero, suc, ◌<◌, ◌≤◌, ◌+◌, List, [], ◌∷◌, ◌++◌, length, map, take, drop, get_or, Bool, true, false, Option, Some, None, refl, sym, ap, ◌∙◌, subst, arith}
use Rattle.std.specs.Prelude.{replicate, slice_get, slice_set, option_map, is_some, Result, Ok, Err, IfOk}
use Rattle.std.proofs.lemmas.Bool.{false≢true, or_parts}
use Rattle.std.proofs.lemmas.Option.{slice_get_read, same_Some}
use Rattle.std.proofs.lemmas.List.{length-map, append_assoc, take-append-drop, take_all, map-append}
use Rattle.std.specs.Global.{Vec}
use Rattle.std.proofs.Math.Seq.{take-suc}
use Rattle.run_laws.proofs.laws.Lists.{get_map}
use Rattle.run_laws.proofs.laws.WordLists.{map_set, map_copies}
use Rattle.model.specs.Names.{Member}
use Rattle.model.specs.Classes.{Program, Body}
use Rattle.model.specs.InstructionStarts.{starts}
use Rattle.model.specs.TypeOrder.{is_frame_below}
use Rattle.model.specs.TypeOrder as frames
use Rattle.model.specs.TypeJoin.{frame_join}
use Rattle.model.specs.Typing.{flow}
use Rattle.model.proofs.StartLaws.{length-starts}
use Rattle.types.specs.View.{frame_in}
use Rattle.types.specs.declared.frame_type.FrameType.{FrameType}
use Rattle.verifier.specs.Packed.{Parts, parts_of, parts_in}
use Rattle.types.specs.declared.verification_type.VerificationType.{VerificationType}
use Rattle.run_laws.specs.typing_search.Tables.{waits, found_at, waiting_at, taken_off}
use Rattle.verifier.specs.flow.Leads.{frame_at, lead_in, has_handlers}
use Rattle.verifier.specs.Found.{tables_in, led_to, leads_in, AreOver, IsEmpty, StandsBefore}
use Rattle.verifier.specs.Worklist.{Tables}
use Rattle.verifier.specs.Verified.{OnUnverified, OnFault}
use Rattle.verifier.specs.declared.fault.MethodFault.{MethodFault}
use Rattle.verifier.specs.declared.fault.MethodFault.TheVariants.{Unverified, TooLong, OutOfMemory}
use Rattle.verifier.specs.declared.flow.handler.Handler.{Handler}
use Rattle.verifier.specs.declared.flow.lead.Lead.{Lead}
use Rattle.verifier.specs.declared.found.Origin.{Origin}
use Rattle.verifier.specs.declared.found.Found.{Found}
use Rattle.opcodes.proofs.Marked.{mark_within}

-- ---- entries

pub entry_read : (files : Program) (types : List (Option Parts)) (k n : ℕ) (x : Option Parts) → n ≡ length types → k < n
    → x ≡ get_or types k x → slice_get (map (option_map (parts_in files)) types) k ≡ Some (option_map (parts_in files) x)
entry_read files types k n x e l g = get_map (option_map (parts_in files)) types k x (slice_get_read types n k x e l g)

pub entry_written : (files : Program) (before after : List (Option Parts)) (k : ℕ) (frame : Parts)
    → after ≡ slice_set before k (Some frame)
    → map (option_map (parts_in files)) after ≡ found_at (map (option_map (parts_in files)) before) k (parts_in files frame)
entry_written files before after k frame e = ap (map (option_map (parts_in files))) e ∙ sym (map_set (option_map (parts_in files)) before k (Some frame))

pub tables_same : (a b : Tables) → a.types ≡ b.types → a.waiting ≡ b.waiting → a ≡ b
tables_same a b e f =
    let types : a ≡ record { types = b.types; waiting = a.waiting } = ap (λ l. record { types = l; waiting = a.waiting }) e in
    let waiting : record { types = b.types; waiting = a.waiting } ≡ b = ap (λ l. record { types = b.types; waiting = l }) f in
    types ∙ waiting

-- an offset that waited, taken off and marked again
pub marked_again : (marks : List Bool) (k : ℕ) → waits marks k ≡ true → waiting_at (taken_off marks k) k ≡ marks
marked_again [] k w = refl
marked_again (m ∷ ms) zero w = ap (λ b. b ∷ ms) (sym w)
marked_again (m ∷ ms) (suc k) w = ap (λ l. m ∷ l) (marked_again ms k w)

-- an instruction begins within the code, and so within the tables
pub start_within : (files : Program) (body : Body) (found : Found) (marks : List Bool) (k : ℕ) (is : Bool) → marks ≡ starts body.code.code
    → AreOver body (tables_in files found) → is ≡ get_or marks k false → is ≡ true
    → (k < length found.types.items) × (k < length found.waiting)
start_within files body found marks k is e over f g =
    let l = mark_within marks k (sym f ∙ g) in
    let m : length marks ≡ length body.code.code = ap length e ∙ length-starts body.code.code in
    let n : length found.types.items ≡ length body.code.code = sym (length-map _ _) ∙ over.types in
    let o = over.waiting in
    (omega (arith, l, m, n), omega (arith, l, m, o))

-- an offset that waits is within the tables
pub waiting_within : (files : Program) (body : Body) (found : Found) (k : ℕ) → AreOver body (tables_in files found)
    → waits found.waiting k ≡ true → k < length found.types.items
waiting_within files body found k over w =
    let l = mark_within found.waiting k w in
    let n : length found.types.items ≡ length body.code.code = sym (length-map _ _) ∙ over.types in
    let o = over.waiting in
    omega (arith, l, n, o)

-- where nothing is found yet
pub none_found : (files : Program) (found : Found) (m n : ℕ) → IsEmpty m found → m ≡ n → (tables_in files found).types ≡ replicate n None
none_found files found m n empty e =
    ap (map (option_map (parts_in files))) (empty.types ∙ ap (λ k. replicate k None) e) ∙ sym (map_copies (option_map (parts_in files)) n None)

pub read_at : (files : Program) (types : List (Option Parts)) (k : ℕ) (x y : Option Parts) → k < length types → x ≡ get_or types k x
    → x ≡ y → slice_get (map (option_map (parts_in files)) types) k ≡ Some (option_map (parts_in files) y)
read_at files types k x y l g e = entry_read files types k (length types) x refl l g ∙ ap (λ o. Some (option_map (parts_in files) o)) e

-- ---- the order and the join, in the set of the files

pub below_in : (files set : Program) (a b : FrameType) (x y : Parts) (r c : Bool) → set ≡ files → parts_of a ≡ x → parts_of b ≡ y
    → r ≡ is_frame_below set (frame_in set a) (frame_in set b) → r ≡ c → is_frame_below files (parts_in files x) (parts_in files y) ≡ c
below_in files set a b x y r c same e f g h =
    ap (λ p. is_frame_below files (parts_in files p) (parts_in files y)) (sym e)
    ∙ (ap (λ p. is_frame_below files (parts_in files (parts_of a)) (parts_in files p)) (sym f) ∙ subst (λ s. is_frame_below s (frame_in s a) (frame_in s b) ≡ c) same (sym g ∙ h))

pub join_in : (files set : Program) (a b : FrameType) (x y : Parts) (o p : Option FrameType) → set ≡ files → parts_of a ≡ x
    → parts_of b ≡ y → option_map (frame_in set) o ≡ frame_join set (frame_in set a) (frame_in set b) → o ≡ p
    → frame_join files (parts_in files x) (parts_in files y) ≡ option_map (frame_in files) p
join_in files set a b x y o p same e f g h =
    ap (λ q. frame_join files (parts_in files q) (parts_in files y)) (sym e)
    ∙ (ap (λ q. frame_join files (parts_in files (parts_of a)) (parts_in files q)) (sym f)
    ∙ subst (λ s. frame_join s (frame_in s a) (frame_in s b) ≡ option_map (frame_in s) p) same (sym g ∙ ap (option_map (frame_in set)) h))

-- ---- leads

-- a handler begins with the exception alone on the stack
pub lead_caught : (files : Program) (before after left : Parts) (h : Handler) (o : Option Handler) → left.locals ≡ before.locals
    → left.stack ≡ h.caught ∷ [] → left.constructed ≡ before.constructed → o ≡ Some h → parts_in files left ≡ led_to files before after o
lead_caught files before after left handler o e f g h =
    let by_parts : List VerificationType → List VerificationType → Bool → Parts = λ locals stack constructed. record { locals = locals; stack = stack; constructed = constructed } in
    ap (λ l. parts_in files (by_parts l left.stack left.constructed)) e
    ∙ (ap (λ l. parts_in files (by_parts before.locals l left.constructed)) f
    ∙ (ap (λ c. parts_in files (by_parts before.locals (handler.caught ∷ []) c)) g ∙ sym (ap (led_to files before after) h)))

abbrev lead_of : Program → Parts → Parts → Lead → ℕ × frames.FrameType
lead_of files before after lead = (lead.offset, led_to files before after lead.handler)

-- the leads up to one, which is the next, and those after it
pub leads_more : (files : Program) (origin : Origin) (leads : List Lead) (i : ℕ) (d : Lead) → i < length leads
    → leads_in files origin (take i leads) ++ leads_in files origin (get_or leads i d ∷ []) ≡ leads_in files origin (take (i + 1) leads)
leads_more files origin leads i d l =
    let n : suc i ≡ i + 1 = omega arith in
    sym (map-append (lead_of files origin.before origin.after) (take i leads) (get_or leads i d ∷ [])) ∙ (ap (leads_in files origin) (sym (take-suc leads i d l)) ∙ ap (λ m. leads_in files origin (take m leads)) n)

pub leads_split : (files : Program) (origin : Origin) (leads : List Lead) (i : ℕ) (d : Lead) → i < length leads
    → leads_in files origin (take i leads) ++ (leads_in files origin (get_or leads i d ∷ []) ++ leads_in files origin (drop (i + 1) leads))
    ≡ leads_in files origin leads
leads_split files origin leads i d l =
    let lead = lead_of files origin.before origin.after in
    sym (append_assoc (map lead (take i leads)) (map lead (get_or leads i d ∷ [])) (map lead (drop (i + 1) leads)))
    ∙ (ap (λ xs. xs ++ map lead (drop (i + 1) leads)) (leads_more files origin leads i d l)
    ∙ (sym (map-append lead (take (i + 1) leads) (drop (i + 1) leads)) ∙ ap (map lead) (take-append-drop (i + 1) leads)))

pub all_leads : (files : Program) (origin : Origin) (leads : List Lead) (i : ℕ) → length leads ≤ i
    → leads_in files origin (take i leads) ≡ leads_in files origin leads
all_leads files origin leads i l = ap (leads_in files origin) (take_all i leads l)

-- a lead by the parts of the frame types before and after the instruction
lead_same : (files : Program) (before after : FrameType) (o : Option Handler)
    → frame_at files before after o ≡ led_to files (parts_of before) (parts_of after) o
lead_same files before after None = refl
lead_same files before after (Some h) = refl

leads_same : (files : Program) (before after : FrameType) (leads : List Lead)
    → map (lead_in files before after) leads ≡ map (lead_of files (parts_of before) (parts_of after)) leads
leads_same files before after [] = refl
leads_same files before after (lead ∷ leads) =
    ap (λ t. (lead.offset, t) ∷ map (lead_in files before after) leads) (lead_same files before after lead.handler) ∙ ap (λ l. lead_of files (parts_of before) (parts_of after) lead ∷ l) (leads_same files before after leads)

-- what an instruction leads to from a frame type that was found
pub flows_to : (files : Program) (method : Member) (body : Body) (offset : ℕ) (found : Parts) (before after : FrameType) (origin : Origin)
    (leads listed : List Lead) → parts_of before ≡ found → origin.before ≡ found → origin.after ≡ parts_of after
    → Some (map (lead_in files before after) leads) ≡ flow files method body offset (frame_in files before) → listed ≡ leads
    → flow files method body offset (parts_in files found) ≡ Some (leads_in files origin listed)
flows_to files method body offset found before after origin leads listed p q r e f =
    ap (λ x. flow files method body offset (parts_in files x)) (sym p)
    ∙ (sym e
    ∙ (ap (λ l. Some l) (leads_same files before after leads)
    ∙ (ap (λ x. Some (map (lead_of files x (parts_of after)) leads)) (p ∙ sym q)
    ∙ (ap (λ x. Some (map (lead_of files origin.before x) leads)) (sym r) ∙ ap (λ l. Some (leads_in files origin l)) (sym f)))))

-- frame types before an instruction that leads to no handlers are not asked for
leads_bare : (files : Program) (a b : Origin) → a.after ≡ b.after → (leads : List Lead) → has_handlers leads ≡ false
    → leads_in files a leads ≡ leads_in files b leads
leads_bare files a b e [] n = refl
leads_bare files a b e (lead ∷ leads) n =
    let parts = or_parts (is_some lead.handler) (has_handlers leads) n in
    ap (λ t. (lead.offset, t) ∷ leads_in files a leads) (bare lead.handler parts.0) ∙ ap (λ l. (lead.offset, led_to files b.before b.after lead.handler) ∷ l) (leads_bare files a b e leads parts.1)
  where
    bare : (o : Option Handler) → is_some o ≡ false → led_to files a.before a.after o ≡ led_to files b.before b.after o
    bare None m = ap (parts_in files) e
    bare (Some h) m = absurd (false≢true (sym m))

pub flows_from : (files : Program) (method : Member) (body : Body) (offset : ℕ) (before after : FrameType) (origin : Origin)
    (leads listed : List Lead) → (has_handlers listed ≡ true → origin.before ≡ parts_of before) → origin.after ≡ parts_of after
    → Some (map (lead_in files before after) leads) ≡ flow files method body offset (frame_in files before) → listed ≡ leads
    → flow files method body offset (parts_in files (parts_of before)) ≡ Some (leads_in files origin listed)
flows_from files method body offset before after origin leads listed q r e f = by (has_handlers listed) refl
  where
    by : (b : Bool) → has_handlers listed ≡ b → flow files method body offset (parts_in files (parts_of before)) ≡ Some (leads_in files origin listed)
    by true h = flows_to files method body offset (parts_of before) before after origin leads listed refl (q h) r e f
    by false h =
        let other : Origin = record origin { before = parts_of before } in
        flows_to files method body offset (parts_of before) before after other leads listed refl refl r e f ∙ ap (λ l. Some l) (leads_bare files other origin refl listed h)

pub stands_there : {E : Type 0} (offset : ℕ) (there : Parts) (types : List (Option Parts)) (leads : List Lead)
    → slice_get types offset ≡ Some (Some there) → (r : Result Parts E) → IfOk r (λ copy. copy ≡ there) → IfOk r (StandsBefore types offset leads)
stands_there offset there types leads at (Ok copy) e = λ other f h. e ∙ same_Some there other (same_Some (Some there) (Some other) (sym at ∙ f))
stands_there offset there types leads at (Err x) e = tt

pub stands_nowhere : (offset : ℕ) (types : List (Option Parts)) (leads : List Lead) → slice_get types offset ≡ Some None → (before : Parts)
    → StandsBefore types offset leads before
stands_nowhere offset types leads at before there e h = let n : Some None ≡ Some (Some there) = sym at ∙ e in absurd cc

pub flows_not : (files : Program) (method : Member) (body : Body) (offset : ℕ) (found : Parts) (before after : FrameType)
    (o : Option (Vec Lead)) → parts_of before ≡ found → o ≡ None
    → option_map (λ (v : Vec Lead). map (lead_in files before after) v.items) o ≡ flow files method body offset (frame_in files before)
    → flow files method body offset (parts_in files found) ≡ None
flows_not files method body offset found before after o p n e =
    ap (λ x. flow files method body offset (parts_in files x)) (sym p) ∙ (sym e ∙ ap (option_map (λ (v : Vec Lead). map (lead_in files before after) v.items)) n)

pub on_unverified : (fault : MethodFault) (P Q : Type 0) → (P → Q) → OnUnverified fault P → OnUnverified fault Q
on_unverified (Unverified offset) P Q f p = f p
on_unverified TooLong P Q f p = p
on_unverified OutOfMemory P Q f p = tt

-- a fault of a part of a search
pub on_fault : (fault : MethodFault) (P Q : Type 0) → OnUnverified fault P → OnFault fault P Q
on_fault (Unverified offset) P Q p = p
on_fault TooLong P Q p = absurd p
on_fault OutOfMemory P Q p = tt
