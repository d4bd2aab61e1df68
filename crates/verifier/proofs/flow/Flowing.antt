-- The flow of an instruction by its parts.
use Rattle.std.proofs.Common.{◌≡◌, ℕ, List, [], ◌∷◌, ◌++◌, map, cond, Bool, true, false, ◌&&◌, option_map, Option, Some, None, refl, sym, ap, ◌∙◌}
use Rattle.std.specs.Prelude.{Result, Ok, Err, IfOk, IsSomeAnd}
use Rattle.std.specs.List.{filter, AllByRecursion}
use Rattle.model.specs.declared.value.Value.{Value}
use Rattle.model.specs.declared.class_file.ExceptionEntry.{ExceptionEntry}
use Rattle.model.specs.Names.{Member}
use Rattle.model.specs.Tree.{Entry}
use Rattle.model.specs.Instruction.{Sized, sized_at, instr_at}
use Rattle.instruction_types.specs.Means.{Means}
use Rattle.instruction_types.specs.declared.meaning.Meaning.{Meaning}
use Rattle.model.specs.Classes.{Program, Body}
use Rattle.model.specs.Types.{VerificationType, type_meets}
use Rattle.model.specs.Operands.{Wants, over_types, is_ready}
use Rattle.model.specs.Step.{covers}
use Rattle.model.specs.TypeOrder as frames
use Rattle.model.specs.Sites.{MeaningOf, Site, site_with, site_at}
use Rattle.model.specs.Typing.{may_stand, successors, caught_type, handler_type, handlers_from, flow_by}
use Rattle.types.specs.View.{type_in, frame_in}
use Rattle.types.specs.declared.frame_type.FrameType.{FrameType}
use Rattle.verifier.specs.declared.flow.handler.Handler.{Handler}
use Rattle.verifier.specs.declared.flow.lead.Lead.{Lead}
use Rattle.verifier.specs.flow.Leads.{lead_in, lead_on, lead_to, handler_leads}
use Rattle.verifier.specs.flow.Successors.{successors_by}

-- ---- handlers

module _ (files : Program) (pool : List Entry) (offset : ℕ) (before after : FrameType) where
  abbrev at_handler : ℕ → VerificationType → ℕ × frames.FrameType
  at_handler to c = (to, record { slots = record { locals = map (type_in files) before.locals.items; stack = c ∷ [] }; constructed = before.constructed })

  lead_one : (h : Handler) → type_in files h.caught ≡ caught_type files pool h.entry
      → lead_in files before after (lead_to h) ≡ handler_type files pool (frame_in files before) h.entry
  lead_one h e = ap (at_handler h.entry.handler) e

  lead_more : (h : Handler) (rest : List Handler) (es : List (ℕ × frames.FrameType)) (b : Bool)
      → lead_in files before after (lead_to h) ≡ handler_type files pool (frame_in files before) h.entry
      → map (lead_in files before after) (map lead_to rest) ≡ es
      → map (lead_in files before after) (map lead_to (cond b (h ∷ rest) rest))
      ≡ cond b (handler_type files pool (frame_in files before) h.entry ∷ es) es
  lead_more h rest es true one more = ap (λ l. lead_in files before after (lead_to h) ∷ l) more ∙ ap (λ x. x ∷ es) one
  lead_more h rest es false one more = more

  each_leads : (hs : List Handler) → AllByRecursion (λ (h : Handler). type_in files h.caught ≡ caught_type files pool h.entry) hs
      → map (lead_in files before after) (handler_leads offset hs)
      ≡ handlers_from files pool offset (frame_in files before) (map (λ (h : Handler). h.entry) hs)
  each_leads [] all = refl
  each_leads (h ∷ hs) all = lead_more h (filter (λ (h : Handler). covers offset h.entry) hs) _ (covers offset h.entry) (lead_one h all.0) (each_leads hs all.1)

  pub handlers_lead : (hs : List Handler) (es : List ExceptionEntry) → map (λ (h : Handler). h.entry) hs ≡ es
      → AllByRecursion (λ (h : Handler). type_in files h.caught ≡ caught_type files pool h.entry) hs
      → map (lead_in files before after) (handler_leads offset hs) ≡ handlers_from files pool offset (frame_in files before) es
  handlers_lead hs es e all = each_leads hs all ∙ ap (handlers_from files pool offset (frame_in files before)) e

-- ---- targets

on_all : (files : Program) (before after : FrameType) (tos : List ℕ)
    → map (lead_in files before after) (map lead_on tos) ≡ map (λ to. (to, frame_in files after)) tos
on_all files before after [] = refl
on_all files before after (to ∷ tos) = ap (λ l. (to, frame_in files after) ∷ l) (on_all files before after tos)

map_both : {A B : Type 0} (f : A → B) (xs ys : List A) → map f (xs ++ ys) ≡ map f xs ++ map f ys
map_both f [] ys = refl
map_both f (x ∷ xs) ys = ap (λ l. f x ∷ l) (map_both f xs ys)

module _ (files : Program) (site : Site) (t : frames.FrameType) where
  abbrev handled : List (ℕ × frames.FrameType)
  handled = handlers_from files site.body.pool site.offset t site.body.code.exceptions

  pub flow_refused : (o : Option (MeaningOf Value)) → may_stand site t site.instr ≡ false → flow_by files site t o ≡ None
  flow_refused None h = refl
  flow_refused (Some m) h = ap (λ b. cond (b && is_ready (type_meets files) over_types m.wants site.body.code.max_stack t.slots) (Some (successors site m t ++ handled)) None) h

  pub flow_allowed : (o : Option (MeaningOf Value)) → may_stand site t site.instr ≡ true
      → flow_by files site t o ≡ option_map (λ l. l
      ++ handlers_from files site.body.pool site.offset t site.body.code.exceptions) (successors_by files site t o)
  flow_allowed None h = refl
  flow_allowed (Some m) h =
      ap (λ b. cond (b && is_ready (type_meets files) over_types m.wants site.body.code.max_stack t.slots) (Some (successors site m t ++ handled)) None) h
      ∙ by (is_ready (type_meets files) over_types m.wants site.body.code.max_stack t.slots)
    where
      by : (b : Bool) → cond b (Some (successors site m t ++ handled)) None
          ≡ option_map (λ l. l ++ handled) (cond b (Some (successors site m t)) None)
      by true = refl
      by false = refl

-- ---- all leads of an instruction

pub leads_in_all : (files : Program) (pool : List Entry) (offset : ℕ) (before after : FrameType) (hs : List Handler)
    (es : List ExceptionEntry) (tos : List ℕ) (rest : List (ℕ × frames.FrameType)) (old new : List Lead)
    → map (λ (h : Handler). h.entry) hs ≡ es → AllByRecursion (λ (h : Handler). type_in files h.caught ≡ caught_type files pool h.entry) hs
    → old ≡ map lead_on tos → new ≡ old ++ handler_leads offset hs → map (λ to. (to, frame_in files after)) tos ≡ rest
    → map (lead_in files before after) new ≡ rest ++ handlers_from files pool offset (frame_in files before) es
leads_in_all files pool offset before after hs es tos rest old new e all first added here =
    ap (map (lead_in files before after)) (added ∙ ap (λ l. l ++ handler_leads offset hs) first)
    ∙ map_both (lead_in files before after) (map lead_on tos) (handler_leads offset hs)
    ∙ ap (λ l. l ++ map (lead_in files before after) (handler_leads offset hs)) (on_all files before after tos ∙ here)
    ∙ ap (λ l. rest ++ l) (handlers_lead files pool offset before after hs es e all)

-- ---- by a meaning

module _ (files : Program) (site : Site) (t : frames.FrameType) (model : MeaningOf Value) (wants : Wants) (same : wants ≡ model.wants) where
  pub leads_not : is_ready (type_meets files) over_types wants site.body.code.max_stack t.slots ≡ false
      → None ≡ successors_by files site t (Some model)
  leads_not h = sym (ap (λ w. cond (is_ready (type_meets files) over_types w site.body.code.max_stack t.slots) (Some (successors site model t)) None) (sym same) ∙ ap (λ b. cond b (Some (successors site model t)) None) h)

  pub leads_to : (ls : List (ℕ × frames.FrameType)) → is_ready (type_meets files) over_types wants site.body.code.max_stack t.slots ≡ true
      → ls ≡ successors site model t → Some ls ≡ successors_by files site t (Some model)
  leads_to ls h e = ap (λ l. Some l) e ∙ sym (ap (λ w. cond (is_ready (type_meets files) over_types w site.body.code.max_stack t.slots) (Some (successors site model t)) None) (sym same) ∙ ap (λ b. cond b (Some (successors site model t)) None) h)

-- ---- what is told of an instruction that is not local

pub told : (files : Program) (site : Site) (t : frames.FrameType) (meaning : Meaning) (ls : Option (List (ℕ × frames.FrameType)))
    (o : Option (MeaningOf Value)) → IsSomeAnd o (Means files site meaning)
    → ((model : MeaningOf Value) → Means files site meaning model → ls ≡ successors_by files site t (Some model))
    → ls ≡ successors_by files site t o
told files site t meaning ls None h f = absurd h
told files site t meaning ls (Some model) h f = f model h

pub if_ok : {A E : Type 0} (P Q : A → Type 0) (r : Result A E) → ((x : A) → P x → Q x) → IfOk r P → IfOk r Q
if_ok P Q (Ok x) f h = f x h
if_ok P Q (Err e) f h = tt

-- ---- the instruction at an offset

pub site_said : (method : Member) (body : Body) (offset : ℕ) (s : Site) → Some s ≡ site_at method body offset
    → (s.offset ≡ offset) × (instr_at body.code.code offset ≡ Some s.instr)
site_said method body offset s e = by (sized_at body.code.code offset) refl e
  where
    some_same : (a b : Site) → Some a ≡ Some b → a ≡ b
    some_same a b e = cc

    by : (o : Option Sized) → sized_at body.code.code offset ≡ o → Some s ≡ option_map (site_with method body offset) o
        → (s.offset ≡ offset) × (instr_at body.code.code offset ≡ Some s.instr)
    by None q e = absurd cc
    by (Some sized) q e =
        let same = some_same s (site_with method body offset sized) e in
        (ap (λ (s : Site). s.offset) same, ap (option_map (λ (s : Sized). s.0)) q ∙ ap (λ i. Some i) (sym (ap (λ (s : Site). s.instr) same)))

pub none_through : {A B : Type 0} (f : A → B) (o : Option A) (r : Option B) → option_map f o ≡ r → o ≡ None → r ≡ None
none_through f o r e q = sym e ∙ ap (option_map f) q

pub some_through : {A B : Type 0} (f : A → B) (o : Option A) (r : Option B) (x : A) → option_map f o ≡ r → o ≡ Some x → r ≡ Some (f x)
some_through f o r x e q = sym e ∙ ap (option_map f) q
