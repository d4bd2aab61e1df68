-- An instruction that leaves a monitor accesses no variable.
use Rattle.std.proofs.Common.{◌≡◌, ℕ, ◌∷◌, true, sym, ap, ◌∙◌, subst}
use Rattle.std.specs.Prelude.{Option, None}
use Rattle.std.specs.Option.{option_and_then}
use Rattle.std.proofs.lemmas.Bool.{false≢true}
use Rattle.std.proofs.lemmas.Option.{same_Some}
use Rattle.model.specs.declared.instr.Instr.{Instr}
use Rattle.model.specs.declared.value.Value.{Value}
use Rattle.model.specs.Classes.{Program, Body, body_of}
use Rattle.model.specs.Operands.{values}
use Rattle.model.specs.Sites.{Site, site_at}
use Rattle.model.specs.State.{Frame, Invocation, StackOf, State}
use Rattle.monitor_laws.specs.owners.Owners.{AreOwnersKeptBy}
use Rattle.search_laws.specs.OwnedMonitors.{IsAt, IsToUse, Exits, Enters, Returns}
use Rattle.search_laws.proofs.Releases.{to_use}
use Rattle.racing_threads.specs.free_events.Free.{AreReleasesFree}
use Rattle.racing_threads.proofs.free_events.Accessing.{may_access, IsToAccess, does_access}
use Rattle.racing_threads.proofs.free_events.Standing.{behind, was_to_access}

-- the site at which a stack stands
abbrev site_in : Frame → Body → Option Site
site_in frame body = site_at frame.method body frame.place.offset

abbrev site_of : Program → StackOf Value → Option Site
site_of files (Invocation frame ∷ stack) = option_and_then (site_in frame) (body_of files frame.method)
site_of files _ = None

module _ (files : Program) (state : State) (t : ℕ) (to : IsToAccess files state t) where
  same_site : (at : IsAt files state t) → to.instruction.site ≡ at.site
  same_site at =
      let one = ap (option_and_then (site_of files)) to.at.stack ∙ (ap (option_and_then (site_in to.at.frame)) to.at.has_body ∙ to.at.at) in
      let other = ap (option_and_then (site_of files)) at.there ∙ (ap (option_and_then (site_in at.frame)) at.is_body ∙ at.is_site) in
      same_Some to.instruction.site at.site (sym one ∙ other)

  may_at : (at : IsAt files state t) (i : Instr) → at.site.instr ≡ i → may_access i ≡ true
  may_at at i e = subst (λ j. may_access j ≡ true) e (subst (λ (s : Site). may_access s.instr ≡ true) (same_site at) to.may)

  not_used : (r : ℕ) → IsToUse files state t r → ⊥
  not_used r (Exits at is q) = false≢true (may_at at _ is)
  not_used r (Enters at is q) = false≢true (may_at at _ is)
  not_used r (Returns at kind is q entry rest below) = false≢true (may_at at _ is)

pub releases_free : AreOwnersKeptBy values → AreReleasesFree
releases_free owners files trees accepted frames state next reached t r m e others later are runs u c =
    let b = behind files trees accepted frames state t (Invocation m.frame ∷ m.below) m.there m.status others later reached are runs in
    let d = does_access trees frames later t u c in
    not_used trees state t (was_to_access trees state later t b.stands.alone d.to) r (to_use owners files trees accepted frames state next reached t r m e)
