-- invokespecial of another method than a constructor names the current class or one above it (JVMS 4.9.1).
use Rattle.std.proofs.Common.{◌≡◌, ℕ, List, Option, Some, None, true, false, refl, sym, ap, subst, ◌∙◌}
use Rattle.std.specs.Prelude.{IsTrue}
use Rattle.std.specs.Option.{option_map}
use Rattle.std.proofs.lemmas.Option.{same_Some}
use Rattle.model.specs.declared.instr.Instr.TheVariants.{Invoke}
use Rattle.model.specs.declared.instr.Invocation.TheVariants as invocation
use Rattle.model.specs.Names.{name_eq, Member, constructor_name}
use Rattle.model.specs.Instruction.{sized_at, Sized}
use Rattle.model.specs.InstructionStarts.{is_start}
use Rattle.model.specs.Pool.{method_at}
use Rattle.model.specs.Classes.{Body, Program, is_subclass}
use Rattle.model.specs.LimitStands.{Bounds}
use Rattle.model.specs.Sites.{MeaningOf, Site, site_with}
use Rattle.model.specs.State.{FrameOf, StackOf, StateOf}
use Rattle.run_laws.proofs.laws.Linked.{Linked}
use Rattle.run_laws.proofs.laws.LinkedOf.{linked_of}
use Rattle.run_laws.proofs.word_operands.Meant.{meant}
use Rattle.linked_code.specs.declared.instruction.LinkedInstruction.{LinkedInstruction}
use Rattle.linked_code.specs.declared.method.LinkedCode.{LinkedCode}
use Rattle.linked_code.specs.declared.program.LinkedProgram.{LinkedProgram}
use Rattle.thread_stacks.specs.Stacks.{ShownEntry}
use Rattle.machine_state.specs.declared.state.Shared.{Shared}
use Rattle.machine_state.specs.linked_frames.Frames.{IsRunning}

-- the instruction of a site, and how long it is
record IsSized (method : Member) (body : Body) (offset : ℕ) (site : Site) : Type 0 where
  sized : Sized
  is : sized_at body.code.code offset ≡ Some sized
  same : site_with method body offset sized ≡ site

sized_by : (method : Member) (body : Body) (offset : ℕ) (site : Site) (found : Option Sized) → sized_at body.code.code offset ≡ found
    → option_map (site_with method body offset) found ≡ Some site → IsSized method body offset site
sized_by method body offset site None is e = absurd cc
sized_by method body offset site (Some sized) is e = record { sized = sized; is = is; same = same_Some (site_with method body offset sized) site e }

module _ (trees : Program) (p : LinkedProgram) (bounds : Bounds) (inflated : List ℕ) (t : ℕ) (shared : Shared) (stack : List ShownEntry)
    (state : StateOf ℕ) (frame : FrameOf ℕ) (rest : StackOf ℕ) (code : LinkedCode) (site : Site) (meaning : MeaningOf ℕ)
    (instruction : LinkedInstruction) (is : IsRunning trees p bounds inflated t shared stack state frame rest code site meaning instruction)
    (index : ℕ) (named : Member) (instr_is : site.instr ≡ Invoke invocation.Special index) (name_is : method_at site.body.pool index ≡ Some named) (other : name_eq named.name constructor_name ≡ false) where
  linked : Linked trees
  linked = linked_of is.program.files trees is.program.linkable.spelled is.program.linkable.no_refusal

  abbrev body : Body
  body = is.stands.at.body

  sized : IsSized frame.method body frame.place.offset site
  sized = sized_by frame.method body frame.place.offset site (sized_at body.code.code frame.place.offset) refl is.stands.at.stands

  starts : is_start body.code.code frame.place.offset ≡ true
  starts =
      let has = meant trees linked.rooted state is.lent.typed t frame is.top in
      let same : has.body ≡ body = same_Some has.body body (sym has.is_body ∙ is.stands.at.is_body) in
      subst (λ (b : Body). IsTrue (is_start b.code.code frame.place.offset)) same has.starts

  invokes : sized_at body.code.code frame.place.offset ≡ Some (Invoke invocation.Special index, sized.sized.1)
  invokes = sized.is ∙ ap (λ i. Some (i, sized.sized.1)) (ap (λ (s : Site). s.instr) sized.same ∙ instr_is)

  names : method_at body.pool index ≡ Some named
  names = ap (λ (s : Site). method_at s.body.pool index) sized.same ∙ name_is

  -- the class that is named is the current one or one above it
  pub above : is_subclass trees frame.method.class named.class ≡ true
  above = linked.special frame.method body frame.place.offset sized.sized.1 index named is.stands.at.is_body starts invokes names other
