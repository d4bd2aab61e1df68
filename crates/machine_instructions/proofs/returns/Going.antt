-- The place behind the instruction of a frame that stands in code has the offset after it.
use Rattle.std.proofs.Common.{◌≡◌, ◌⊎◌, inl, inr, ℕ, zero, suc, ◌+◌, ◌<◌, ◌≤◌, List, [], ◌∷◌, Option, Some, None, Bool, true, false, ◌==◌, option_map, length, refl, sym, ap, subst, ◌∙◌, arith}
use Rattle.std.specs.Prelude.{slice_get, unwrap_or, is_some}
use Rattle.std.specs.Option.{option_and_then}
use Rattle.std.proofs.lemmas.Bool.{cases_lt, false≢true, eqb-true}
use Rattle.std.proofs.lemmas.Bool.Decides.{nat_tests}
use Rattle.std.proofs.lemmas.List.{get_or_past}
use Rattle.std.proofs.lemmas.Option.{same_Some}
use Rattle.model.specs.Names.{Member}
use Rattle.model.specs.Classes.{Program, Body}
use Rattle.model.specs.Instruction.{Sized, sized_at, length_at}
use Rattle.model.specs.Sites.{Site, site_with, site_at}
use Rattle.model.specs.State as model
use Rattle.model.specs.State.{FrameOf, StackOf}
use Rattle.model.specs.Step.{next_of}
use Rattle.run_laws.proofs.laws.Unrefused.{unrefused_of}
use Rattle.run_laws.specs.word_runs.Words.{StandsInCode}
use Rattle.linked_code.specs.declared.instruction.LinkedInstruction.{LinkedInstruction}
use Rattle.linked_code.specs.declared.method.LinkedCode.{LinkedCode}
use Rattle.linked_code.specs.declared.method.LinkedMethod.{LinkedMethod}
use Rattle.linked_code.specs.declared.method.MethodBody.{MethodBody}
use Rattle.linked_code.specs.declared.method.MethodBody.TheVariants as body
use Rattle.linked_code.specs.declared.program.LinkedProgram.{LinkedProgram}
use Rattle.linked_code.specs.Linked.{AreLinked, next_place, offset_in, no_offset}
use Rattle.linked_code.specs.Numbers.{methods_of}
use Rattle.linked_code.specs.Methods.{IsMethodBody, IsCode, IsLinkedMethod}
use Rattle.linked_code.specs.Programs.{AreMethods}
use Rattle.opcodes.proofs.linkable_code.Decoded.{decoded}
use Rattle.thread_stacks.specs.Stacks.{ShownFrame, ShownEntry, Invocation, Initialisation, IsTopFrame}
use Rattle.machine_state.specs.shown_stacks.Shown.{ShowsFrame, offset_at}
use Rattle.machine_state.specs.Shown.{IsProgram}
use Rattle.machine_state.proofs.linked_frames.Frames.{offset_of}
use Rattle.machine_instructions.specs.returns.Places.{code_in, code_at, GoesOnAt, IsNextOfTop}

-- ---- the row of a method

method_row : (files : Program) (p : LinkedProgram) (ms : List Member) (ls : List LinkedMethod) → AreMethods files p ms ls → (n : ℕ)
    (method : Member) → slice_get ms n ≡ Some method
    → (l : LinkedMethod) × (slice_get ls n ≡ Some l) × IsLinkedMethod files p method l
method_row files p [] ls h n method e = absurd cc
method_row files p (m ∷ ms) [] h n method e = absurd h
method_row files p (m ∷ ms) (l ∷ ls) h zero method e = let same : m ≡ method = cc in (l, refl, subst (λ f. IsLinkedMethod files p f l) same h.0)
method_row files p (m ∷ ms) (l ∷ ls) h (suc n) method e = method_row files p ms ls h.1 n method e

pub record HasCode (files : Program) (p : LinkedProgram) (m : Member) (b : Body) (linked : MethodBody) : Type 0 where
  pub code : LinkedCode
  pub runs : linked ≡ body.Code code
  pub is : IsCode files p m b code

code_of : (files : Program) (p : LinkedProgram) (m : Member) (b : Body) (linked : MethodBody) → IsMethodBody files p m (Some b) linked
    → HasCode files p m b linked
code_of files p m b (body.Code code) h = record { code = code; runs = refl; is = h.1 }
code_of files p m b body.Abstract h = absurd h
code_of files p m b (body.BuiltIn of) h = absurd h

-- ---- the instruction of a frame that stands in code

sized_some : (o : Option Sized) → is_some (option_map (λ (s : Sized). s.0) o) ≡ true → (z : Sized) × (o ≡ Some z)
sized_some None h = absurd (false≢true h)
sized_some (Some z) h = (z, refl)

-- a place at whose offset an instruction begins inside the code is one of the code's
module _ (files : Program) (p : LinkedProgram) (m : Member) (b : Body) (starts : List ℕ) (instructions : List LinkedInstruction)
    (l : AreLinked files p m b starts instructions) (k : ℕ) (site : Site)
    (inside : offset_in starts k < length b.code.code) (is : site_at m b (offset_in starts k) ≡ Some site) where
  at_end : k ≡ length instructions → ⊥
  at_end e =
      let at : offset_in starts k ≡ length b.code.code = ap (offset_in starts) e ∙ l.last in
      omega (arith, at, inside)

  past : length starts ≤ k → ⊥
  past more =
      let at : offset_in starts k ≡ no_offset = get_or_past starts k no_offset more in
      let there : site_at m b no_offset ≡ Some site = subst (λ o. site_at m b o ≡ Some site) at is in
      let none = l.short in
      absurd cc

  place_within : k < length instructions
  place_within = by (cases_lt k (length instructions))
    where
      by : (k < length instructions) ⊎ (length instructions ≤ k) → k < length instructions
      by (inl lt) = lt
      by (inr le) = beyond (k == length instructions) refl
        where
          beyond : (end : Bool) → (k == length instructions) ≡ end → k < length instructions
          beyond true e = absurd (at_end (eqb-true k (length instructions) e))
          beyond false e =
              let count = l.count in
              let more : length starts ≤ k = grind (arith, nat_tests) in
              absurd (past more)

module _ (trees : Program) (p : LinkedProgram) (program : IsProgram trees p) (shown : ShownFrame) (frame : FrameOf ℕ)
    (shows : ShowsFrame trees p shown frame) (stands : StandsInCode trees frame) where
  row : (l : LinkedMethod) × (slice_get p.methods.items shown.method ≡ Some l) × IsLinkedMethod trees p frame.method l
  row = method_row trees p (methods_of trees) p.methods.items program.linked.methods shown.method frame.method shows.method

  has : HasCode trees p frame.method stands.body row.0.body
  has = code_of trees p frame.method stands.body row.0.body (subst (λ o. IsMethodBody trees p frame.method o row.0.body) stands.is_body row.2.runs)

  code_is : code_at p shown.method ≡ Some has.code
  code_is = ap (option_and_then (λ (r : LinkedMethod). code_in r.body)) row.1 ∙ ap code_in has.runs

  begun : (z : Sized) × (sized_at stands.body.code.code frame.place.offset ≡ Some z)
  begun =
      sized_some (sized_at stands.body.code.code frame.place.offset)
      ((decoded trees (unrefused_of program.files trees program.linkable.spelled program.linkable.no_refusal) frame.method stands.body stands.is_body).decodes frame.place.offset stands.starts)

  -- the offset of a place of its code
  at : (place : ℕ) → offset_at p shown.method place ≡ offset_in has.code.starts.items place
  at place = offset_of p shown.method row.0 has.code row.1 has.runs place

  here : offset_in has.code.starts.items shown.place ≡ frame.place.offset
  here = sym (shows.offset ∙ at shown.place)

  abbrev site : Site
  site = site_with frame.method stands.body frame.place.offset begun.0

  site_is : site_at frame.method stands.body (offset_in has.code.starts.items shown.place) ≡ Some site
  site_is = ap (site_at frame.method stands.body) here ∙ ap (option_map (site_with frame.method stands.body frame.place.offset)) begun.1

  next_is : next_of trees frame ≡ site.next
  next_is =
      ap (λ o. frame.place.offset + unwrap_or (option_and_then (λ (b : Body). length_at b.code.code frame.place.offset) o) 0) stands.is_body
      ∙ ap (λ o. frame.place.offset + unwrap_or (option_map (λ (s : Sized). s.1) o) 0) begun.1

  goes : offset_at p shown.method (next_place has.code.instructions.items shown.place) ≡ next_of trees frame
  goes =
      let l = has.is.instructions in
      let inside : offset_in has.code.starts.items shown.place < length stands.body.code.code = subst (λ n. n < length stands.body.code.code) (sym here) stands.inside in
      let within = place_within trees p frame.method stands.body has.code.starts.items has.code.instructions.items l shown.place site inside site_is in
      at (next_place has.code.instructions.items shown.place) ∙ l.goes_on shown.place site within site_is ∙ sym next_is

-- so in code that is found, and there is code
pub next_goes : (p : LinkedProgram) (shown : ShownFrame) (code : LinkedCode) → Some code ≡ code_at p shown.method
    → GoesOnAt p shown (next_place code.instructions.items shown.place)
next_goes p shown code found trees program frame shows stands =
    let same : (has trees p program shown frame shows stands).code ≡ code = same_Some _ code (sym (code_is trees p program shown frame shows stands) ∙ sym found) in
    subst (λ (c : LinkedCode). offset_at p shown.method (next_place c.instructions.items shown.place) ≡ next_of trees frame) same (goes trees p program shown frame shows stands)

pub none_goes : (p : LinkedProgram) (shown : ShownFrame) (place : ℕ) → None ≡ code_at p shown.method → GoesOnAt p shown place
none_goes p shown place found trees program frame shows stands = let there = code_is trees p program shown frame shows stands in absurd cc

-- ---- the frame on top

pub next_top : (p : LinkedProgram) (stack : List ShownEntry) (found : Option ShownFrame) → IsTopFrame stack found → (place : ℕ)
    → ((f : ShownFrame) → found ≡ Some f → GoesOnAt p f place)
    → IsNextOfTop p stack place
next_top p [] found top place each trees program own shows stands = tt
next_top p (Initialisation class phase ∷ others) found top place each trees program own shows stands = tt
next_top p (Invocation f ∷ others) found top place each trees program [] shows stands = tt
next_top p (Invocation f ∷ others) found top place each trees program (model.Initialisation class phase ∷ rest) shows stands = tt
next_top p (Invocation f ∷ others) found top place each trees program (model.Invocation frame ∷ rest) shows stands = each f top trees program frame shows.0 stands.0
