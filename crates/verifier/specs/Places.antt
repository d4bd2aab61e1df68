-- Methods by their places: the place of their class in a program, and their own among the methods of the class. And what a
-- refusal says of such a method.
use Rattle.std.specs.Prelude.{◌≡◌, ◌⊎◌, ℕ, ◌-◌, ◌++◌, ◌<◌, nat_lt, if◌then◌else◌, length, Option, Some, None, option_map, vec_items}
use Rattle.model.specs.Names.{Member}
use Rattle.model.specs.BuiltIn.{built_in_classes}
use Rattle.model.specs.Classes.{Program, Body}
use Rattle.model.specs.Typing.{HasTyping}
use Rattle.types.specs.method_code.View.{shown_at}
use Rattle.link_conditions.specs.declared.refusal.why.Refusal.{Refusal}
use Rattle.link_conditions.specs.declared.refusal.why.RefusalKind.TheVariants as kinds
use Rattle.link_conditions.specs.declared.refusal.why.RefusalKind.{RefusalKind}
use Rattle.run_laws.specs.typing_search.Search.{HasNoTyping}
use Rattle.verifier.specs.Steps.{Costs, all_steps, MayTakeMore, Limits, AreLimits, limited_costs}

-- ---- methods that pass verification

-- the method at a place passes it, if there is one with code
abbrev pub IsTypedAt : Program → ℕ → ℕ → Type 0
IsTypedAt files class method = (member : Member) (body : Body) → shown_at files class method ≡ Some (member, body) → HasTyping files member body

-- so do those of a class
abbrev pub AreTypedIn : Program → ℕ → Type 0
AreTypedIn files class = (method : ℕ) → IsTypedAt files class method

-- ---- methods that do not

-- the files stand behind the built-in classes
abbrev pub file_number : ℕ → Option ℕ
file_number class = if nat_lt class (length built_in_classes) then None else Some (class - length built_in_classes)

-- a refusal says why a method of the class at a place is not verified: by its file, and by its name and its descriptor
pub record IsRefusalOf (why : RefusalKind) (class : ℕ) (member : Member) (refusal : Refusal) : Type 0 where
  pub kind : refusal.kind ≡ why
  pub file : refusal.file ≡ file_number class
  pub method : option_map vec_items refusal.method ≡ Some (member.name ++ member.descriptor)

-- a method with code has no typing, and the refusal is of it
pub record IsUnverified (files : Program) (refusal : Refusal) : Type 0 where
  pub class : ℕ
  pub method : ℕ
  pub member : Member
  pub body : Body
  pub stands : shown_at files class method ≡ Some (member, body)
  pub none : HasNoTyping files member body
  pub named : IsRefusalOf kinds.Unverified class member refusal

-- Fewer steps are left than the searches over some methods take, and the refusal is of a method with code, at no offset of it.
pub record IsTooLong (files : Program) (most : Costs → ℕ) (left : ℕ) (refusal : Refusal) : Type 0 where
  pub class : ℕ
  pub method : ℕ
  pub member : Member
  pub body : Body
  pub stands : shown_at files class method ≡ Some (member, body)
  pub long : MayTakeMore files most left
  pub named : IsRefusalOf kinds.TooLarge class member refusal
  pub nowhere : refusal.offset ≡ None

-- when that part may be refused
abbrev pub RefusesPart : Program → (Costs → ℕ) → ℕ → Refusal → Type 0
RefusesPart files most left refusal = (refusal.kind ≡ kinds.OutOfMemory) ⊎ (IsUnverified files refusal ⊎ IsTooLong files most left refusal)

-- when linked classes may be refused that are verified in so many steps
abbrev pub Refuses : Program → ℕ → Refusal → Type 0
Refuses files steps refusal = RefusesPart files (all_steps files) steps refusal

-- Where it is for steps, fewer are given than all turns may take that limits on the types of each method leave room for.
abbrev pub IsLimited : Program → ℕ → Refusal → Type 0
IsLimited files steps refusal =
    refusal.kind ≡ kinds.TooLarge → (limits : Limits) → AreLimits files limits → steps < all_steps files (limited_costs limits)
