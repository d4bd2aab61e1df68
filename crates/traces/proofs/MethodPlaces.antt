-- What stands at the place of a method's number.
use Rattle.std.proofs.Common.{◌≡◌, ℕ, List, [], ◌∷◌, ◌++◌, true, Option, Some, None, Result, Ok, Err, codes, refl, sym, ap, subst, append_assoc, ◌∙◌}
use Rattle.std.specs.Prelude.{slice_get, OnOk}
use Rattle.std.specs.Option.{option_and_then, option_map, option_map_or}
use Rattle.std.specs.List.{list_all}
use Rattle.std.proofs.lemmas.Bool.{and_parts}
use Rattle.std.proofs.lemmas.Grind.{flat_map-append}
use Rattle.model.specs.Names.{Member, Name}
use Rattle.listings.specs.printed_names.Printed.{printed, printed_byte}
use Rattle.model.specs.Tree.{FileTree, MethodTree, CodeTree}
use Rattle.model.specs.Conditions.{names_utf8, text_at}
use Rattle.model.specs.Classes.{Program, Body, name_of, classes_of, declared_in, code_in, with_pool, body_in}
use Rattle.model.specs.Classes as classes
use Rattle.run_laws.proofs.laws.Found.{every_all}
use Rattle.run_laws.proofs.laws.Lists.{every_at}
use Rattle.run_laws.proofs.laws.Unrefused.{names_differ}
use Rattle.hierarchy.specs.Places.{name_at, class_at}
use Rattle.hierarchy.specs.declared.place.MemberPlace.{MemberPlace}
use Rattle.hierarchy.proofs.Apart.{class_of_its_name}
use Rattle.linked_code.specs.Numbers.{IsMethodAt, IsClassAt}
use Rattle.linked_code.specs.Numbers as linked_code
use Rattle.types.specs.declared.method_code.declaration.MethodCode.{MethodCode}
use Rattle.types.specs.method_code.Linked.{IsLinked}
use Rattle.types.specs.method_code.View.{shown, shown_in, shown_at, body_of}
use Rattle.types.proofs.method_code.Firsts.{method_there}
use Rattle.types.proofs.method_code.Rights.{method_right, class_right, classes_right}
use Rattle.method_tables.specs.method_links.Methods.{member_of, member_at, methods_of}
use Rattle.method_tables.specs.method_links.Methods as method_links
use Rattle.model.specs.State.{Invocation, Initialisation, StackOf}
use Rattle.traces.specs.Pieces.{Piece, did}
use Rattle.traces.specs.traced_events.Places.{Sees}
use Rattle.traces.specs.declared.traced_events.frames.FrameBefore.{FrameBefore}
use Rattle.traces.specs.declared.form.Form.{Form}
use Rattle.traces.specs.JsonTexts.{text_member}
use Rattle.traces.specs.Lines.{AddsLine, AddsMembers, class_in, end_words, frame_in, head_words, instruction_words, line_words, meaning_in, members_in, method_members, method_words, nowhere_in, part, place_in}
use Rattle.traces.specs.Methods.{IsPlaceOf, name_in, IsBodyOf}
use Rattle.traces.proofs.OneLine.{is_one_line}

-- ---- the place of a number

same_methods : (files : Program) → method_links.methods_of files ≡ linked_code.methods_of files
unfolding method_links.methods_of linked_code.methods_of
same_methods files = refl

pub placed : (files : Program) (numbered : ℕ) (place : MemberPlace)
    → option_map (member_at files) (Some place) ≡ option_map (λ (m : Member). Some m) (slice_get (methods_of files) numbered)
    → IsPlaceOf files numbered place
placed files numbered place e method at =
    let is : slice_get (methods_of files) numbered ≡ Some method = ap (λ l. slice_get l numbered) (same_methods files) ∙ at in
    let both : Some (member_at files place) ≡ Some (Some method) = e ∙ ap (option_map (λ (m : Member). Some m)) is in
    cc

pub no_place : (files : Program) (numbered : ℕ) (place : MemberPlace)
    → None ≡ option_map (λ (m : Member). Some m) (slice_get (methods_of files) numbered) → IsPlaceOf files numbered place
no_place files numbered place e method at =
    let is : slice_get (methods_of files) numbered ≡ Some method = ap (λ l. slice_get l numbered) (same_methods files) ∙ at in
    let bad : None ≡ Some (Some method) = e ∙ ap (option_map (λ (m : Member). Some m)) is in
    cc

-- ---- what stands there

pub record IsThere (files : Program) (place : MemberPlace) (method : Member) : Type 0 where
  pub file : FileTree
  pub class_is : class_at files place.class ≡ Some file
  pub tree : MethodTree
  pub tree_is : slice_get file.methods place.member ≡ Some tree
  pub is : member_of file tree ≡ method

pub there : (files : Program) (place : MemberPlace) (method : Member) → member_at files place ≡ Some method → IsThere files place method
there files place method e = by (class_at files place.class) refl e
  where
    within : (file : FileTree) → class_at files place.class ≡ Some file → (o : Option MethodTree) → slice_get file.methods place.member ≡ o
        → option_map (member_of file) o ≡ Some method → IsThere files place method
    within file c None s e = absurd cc
    within file c (Some tree) s e = record { file = file; class_is = c; tree = tree; tree_is = s; is = cc }

    by : (o : Option FileTree) → class_at files place.class ≡ o
        → option_and_then (λ (file : FileTree). option_map (member_of file) (slice_get file.methods place.member)) o ≡ Some method
        → IsThere files place method
    by None c e = absurd cc
    by (Some file) c e = within file c (slice_get file.methods place.member) refl e

pub class_named : (files : Program) (place : MemberPlace) (method : Member) → member_at files place ≡ Some method
    → name_at files place.class ≡ method.class
class_named files place method e =
    let t = there files place method e in
    ap (λ (o : Option FileTree). option_map_or name_of o []) t.class_is ∙ ap (λ (m : Member). m.class) t.is

pub method_named : (files : Program) (place : MemberPlace) (method : Member) → member_at files place ≡ Some method
    → name_in files place ≡ method.name
method_named files place method e = ap (λ (o : Option Member). option_map_or (λ (m : Member). m.name) o []) e

pub class_at_number : (files : Program) (numbered : ℕ) (class : Name) → IsClassAt files numbered class → name_at files numbered ≡ class
class_at_number files numbered class h = ap (λ (o : Option FileTree). option_map_or name_of o []) h.1 ∙ h.2

-- ---- a method as members of an object

pub members_told : {A E : Type 0} (result : Result A E) (files : Program) (numbered : ℕ) (place : MemberPlace)
    → IsPlaceOf files numbered place → (old mid new class name : List ℕ)
    → class ≡ name_at files place.class → name ≡ name_in files place → mid ≡ old ++ text_member (codes "class") class
    → OnOk result (new ≡ mid ++ text_member (codes "method") name)
    → (method : Member) → IsMethodAt files numbered method → OnOk result (new ≡ old ++ method_members method)
members_told (Err fault) files numbered place p old mid new class name of_class of_name first second method at = tt
members_told (Ok value) files numbered place p old mid new class name of_class of_name first second method at =
    let same_class : class ≡ method.class = of_class ∙ class_named files place method (p method at) in
    let same_name : name ≡ method.name = of_name ∙ method_named files place method (p method at) in
    second
    ∙ ap (λ (l : List ℕ). l ++ text_member (codes "method") name) first
    ∙ append_assoc old (text_member (codes "class") class) (text_member (codes "method") name)
    ∙ ap (λ (l : List ℕ). old ++ (text_member (codes "class") l ++ text_member (codes "method") name)) same_class
    ∙ ap (λ (l : List ℕ). old ++ (text_member (codes "class") method.class ++ text_member (codes "method") l)) same_name

-- ---- a method as it stands in a line

printed_parts : (a b : List ℕ) → printed (a ++ b) ≡ printed a ++ printed b
unfolding printed
printed_parts a b = flat_map-append printed_byte a b

pub printed_told : {A E : Type 0} (result : Result A E) (files : Program) (numbered : ℕ) (place : MemberPlace)
    → IsPlaceOf files numbered place → (old mid point new class name : List ℕ)
    → class ≡ name_at files place.class → name ≡ name_in files place → mid ≡ old ++ printed class → point ≡ mid ++ printed (codes ".")
    → OnOk result (new ≡ point ++ printed name)
    → (method : Member) → IsMethodAt files numbered method → OnOk result (new ≡ old ++ printed (method_words method))
printed_told (Err fault) files numbered place p old mid point new class name of_class of_name first second third method at = tt
printed_told (Ok value) files numbered place p old mid point new class name of_class of_name first second third method at =
    let same_class : class ≡ method.class = of_class ∙ class_named files place method (p method at) in
    let same_name : name ≡ method.name = of_name ∙ method_named files place method (p method at) in
    let parts : printed (class ++ (codes "." ++ name)) ≡ printed class ++ (printed (codes ".") ++ printed name) =
    printed_parts class (codes "." ++ name) ∙ ap (λ (l : List ℕ). printed class ++ l) (printed_parts (codes ".") name)
    in
    let all : new ≡ old ++ printed (class ++ (codes "." ++ name)) =
    third
    ∙ ap (λ (l : List ℕ). l ++ printed name) (second ∙ ap (λ (l : List ℕ). l ++ printed (codes ".")) first)
    ∙ ap (λ (l : List ℕ). l ++ printed name) (append_assoc old (printed class) (printed (codes ".")))
    ∙ append_assoc old (printed class ++ printed (codes ".")) (printed name)
    ∙ ap (λ (l : List ℕ). old ++ l) (append_assoc (printed class) (printed (codes ".")) (printed name))
    ∙ ap (λ (l : List ℕ). old ++ l) (sym parts)
    in
    all
    ∙ ap (λ (l : List ℕ). old ++ printed (l ++ (codes "." ++ name))) same_class
    ∙ ap (λ (l : List ℕ). old ++ printed (method.class ++ (codes "." ++ l))) same_name

-- ---- its body

module _ (files : Program) (linked : IsLinked files) (place : MemberPlace) (method : Member) (t : IsThere files place method) where
  abbrev tree : MethodTree
  tree = t.tree

  declared : declared_in t.file (text_at t.file.pool tree.name) (text_at t.file.pool tree.descriptor) ≡ Some tree
  declared =
      let right : class_right t.file ≡ true = every_at (λ file. class_right file ≡ true) (classes_of files) place.class t.file (classes_right linked.0 files linked.1.spelled) t.class_is in
      let parts = and_parts (list_all (method_right t.file.pool) t.file.methods) _ right in
      let its : method_right t.file.pool tree ≡ true = every_at (λ m. method_right t.file.pool m ≡ true) t.file.methods place.member tree (every_all (method_right t.file.pool) t.file.methods parts.0) t.tree_is in
      let named = and_parts (names_utf8 t.file.pool tree.name) _ its in
      let described = and_parts (names_utf8 t.file.pool tree.descriptor) _ named.1 in
      method_there t.file.pool t.file.methods place.member tree parts.1 named.0 described.0 t.tree_is

  own_body : classes.body_of files (member_of t.file tree) ≡ option_map (with_pool t.file.pool) (code_in tree.parts)
  own_body =
      ap (option_and_then (body_in (text_at t.file.pool tree.name) (text_at t.file.pool tree.descriptor))) (class_of_its_name files place.class t.file (names_differ files linked.1.no_refusal) t.class_is)
      ∙ ap (λ o. option_map (with_pool t.file.pool) (option_and_then (λ (m : MethodTree). code_in m.parts) o)) declared

  its_body : classes.body_of files method ≡ option_map (with_pool t.file.pool) (code_in tree.parts)
  its_body = ap (classes.body_of files) (sym t.is) ∙ own_body

  its_code : shown_at files place.class place.member
      ≡ option_map (λ (code : CodeTree). (member_of t.file tree, with_pool t.file.pool code)) (code_in tree.parts)
  its_code =
      ap (option_and_then (λ (f : FileTree). option_and_then (shown_in f) (slice_get f.methods place.member))) t.class_is
      ∙ ap (option_and_then (shown_in t.file)) t.tree_is

  pub body_is : (found : Option MethodCode) → option_map shown found ≡ shown_at files place.class place.member
      → classes.body_of files method ≡ option_map body_of found
  body_is found e = its_body ∙ by found (code_in tree.parts) (e ∙ its_code)
    where
      by : (o : Option MethodCode) (code : Option CodeTree)
          → option_map shown o ≡ option_map (λ (code : CodeTree). (member_of t.file tree, with_pool t.file.pool code)) code
          → option_map (with_pool t.file.pool) code ≡ option_map body_of o
      by None None e = refl
      by None (Some code) e = absurd cc
      by (Some m) None e = absurd cc
      by (Some m) (Some code) e = ap (option_map (λ (p : Member × Body). p.1)) (sym e)

pub body_found : (files : Program) → IsLinked files → (numbered : ℕ) (place : MemberPlace) → IsPlaceOf files numbered place
    → (found : Option MethodCode) → option_map shown found ≡ shown_at files place.class place.member
    → IsBodyOf files numbered found
body_found files linked numbered place p found e method at = body_is files linked place method (there files place method (p method at)) found e

-- ---- where a thread stands

pub frame_told : (form : Form) (trees : Program) (seen : FrameBefore) (o : Option FrameBefore) (class : Option ℕ) → o ≡ Some seen
    → (old new : List ℕ) {A E : Type 0} (result : Result A E)
    → ((method : Member) → IsMethodAt trees seen.method method → OnOk result (new ≡ old ++ frame_in form method seen.offset))
    → (stack : StackOf ℕ) → Sees trees o class stack → OnOk result (new ≡ old ++ place_in form stack)
frame_told form trees seen o class is old new result h [] s = let bad : None ≡ Some seen = sym s.0 ∙ is in cc
frame_told form trees seen o class is old new result h (Initialisation on_top phase ∷ stack) s = let bad : None ≡ Some seen = sym s.1 ∙ is in cc
frame_told form trees seen o class is old new result h (Invocation frame ∷ stack) s =
    let both : Some s.0 ≡ Some seen = sym s.1 ∙ is in
    let same : s.0 ≡ seen = cc in
    let offset : seen.offset ≡ frame.place.offset = ap (λ (f : FrameBefore). f.offset) (sym same) ∙ s.4 in
    subst (λ n. OnOk result (new ≡ old ++ frame_in form frame.method n)) offset
    (h frame.method (subst (λ (f : FrameBefore). IsMethodAt trees f.method frame.method) same s.3))

pub class_told : (form : Form) (trees : Program) (seen : ℕ) (frame : Option FrameBefore) (o : Option ℕ) → frame ≡ None → o ≡ Some seen
    → (name : Name) → name ≡ name_at trees seen
    → (old new : List ℕ) {A E : Type 0} (result : Result A E) → OnOk result (new ≡ old ++ class_in form name)
    → (stack : StackOf ℕ) → Sees trees frame o stack → OnOk result (new ≡ old ++ place_in form stack)
class_told form trees seen frame o none is name named old new result h [] s = let bad : None ≡ Some seen = sym s.1 ∙ is in cc
class_told form trees seen frame o none is name named old new result h (Invocation on_top ∷ stack) s = let bad : Some s.0 ≡ None = sym s.1 ∙ none in cc
class_told form trees seen frame o none is name named old new result h (Initialisation on_top phase ∷ stack) s =
    let both : Some s.0 ≡ Some seen = sym s.2 ∙ is in
    let same : s.0 ≡ seen = cc in
    let at : name_at trees seen ≡ on_top = class_at_number trees seen on_top (subst (λ n. IsClassAt trees n on_top) same s.3) in
    subst (λ n. OnOk result (new ≡ old ++ class_in form n)) (named ∙ at) h

pub nowhere_told : (form : Form) (trees : Program) (frame : Option FrameBefore) (class : Option ℕ) → frame ≡ None → class ≡ None
    → (old new : List ℕ) {A E : Type 0} (result : Result A E)
    → OnOk result (new ≡ old ++ nowhere_in form) → (stack : StackOf ℕ) → Sees trees frame class stack
    → OnOk result (new ≡ old ++ place_in form stack)
nowhere_told form trees frame class no_frame no_class old new result h [] s = h
nowhere_told form trees frame class no_frame no_class old new result h (Invocation on_top ∷ stack) s = let bad : Some s.0 ≡ None = sym s.1 ∙ no_frame in cc
nowhere_told form trees frame class no_frame no_class old new result h (Initialisation on_top phase ∷ stack) s = let bad : Some s.0 ≡ None = sym s.2 ∙ no_class in cc

-- ---- the instruction of a frame on top

words_of : (trees : Program) (method : Member) (offset : ℕ) (found : Option MethodCode)
    → classes.body_of trees method ≡ option_map body_of found
    → option_map_or (λ (m : MethodCode). meaning_in offset (body_of m)) found []
    ≡ option_map_or (meaning_in offset) (classes.body_of trees method) []
words_of trees method offset None e = ap (λ (o : Option Body). option_map_or (meaning_in offset) o []) (sym e)
words_of trees method offset (Some m) e = ap (λ (o : Option Body). option_map_or (meaning_in offset) o []) (sym e)

pub instruction_told : (trees : Program) (seen : FrameBefore) (o : Option FrameBefore) (class : Option ℕ) → o ≡ Some seen
    → (found : Option MethodCode) → IsBodyOf trees seen.method found
    → (old new : List ℕ) {A E : Type 0} (result : Result A E)
    → OnOk result (new ≡ old ++ option_map_or (λ (m : MethodCode). meaning_in seen.offset (body_of m)) found [])
    → (stack : StackOf ℕ) → Sees trees o class stack → OnOk result (new ≡ old ++ instruction_words trees stack)
instruction_told trees seen o class is found b old new result h [] s = let bad : None ≡ Some seen = sym s.0 ∙ is in cc
instruction_told trees seen o class is found b old new result h (Initialisation on_top phase ∷ stack) s = let bad : None ≡ Some seen = sym s.1 ∙ is in cc
instruction_told trees seen o class is found b old new result h (Invocation frame ∷ stack) s =
    let both : Some s.0 ≡ Some seen = sym s.1 ∙ is in
    let same : s.0 ≡ seen = cc in
    let offset : seen.offset ≡ frame.place.offset = ap (λ (f : FrameBefore). f.offset) (sym same) ∙ s.4 in
    let at : IsMethodAt trees seen.method frame.method = subst (λ (f : FrameBefore). IsMethodAt trees f.method frame.method) same s.3 in
    let words = words_of trees frame.method seen.offset found (b frame.method at) in
    subst (λ n. OnOk result (new ≡ old ++ option_map_or (meaning_in n) (classes.body_of trees frame.method) [])) offset
    (subst (λ l. OnOk result (new ≡ old ++ l)) words h)

-- no frame is on top
pub no_instruction : (trees : Program) (o : Option FrameBefore) (class : Option ℕ) → o ≡ None → (stack : StackOf ℕ)
    → Sees trees o class stack → instruction_words trees stack ≡ []
no_instruction trees o class is [] s = refl
no_instruction trees o class is (Initialisation on_top phase ∷ stack) s = refl
no_instruction trees o class is (Invocation frame ∷ stack) s = let bad : Some s.0 ≡ None = sym s.1 ∙ is in cc

-- ---- the line

pub told_line : {A E : Type 0} (result : Result A E) (form : Form) (trees : Program) (n t : ℕ) (stack : StackOf ℕ)
    (old a b c d e f new source words : List ℕ) (deed : Option (List Piece))
    → a ≡ old ++ head_words form n t → b ≡ a ++ place_in form stack → c ≡ b ++ part form (codes " ") (codes "source") source
    → d ≡ c ++ part form (codes " ") (codes "instruction") words → words ≡ instruction_words trees stack
    → e ≡ d ++ did form deed → AddsMembers form e f
    → OnOk result (new ≡ f ++ end_words form) → OnOk result (AddsLine form trees n t stack old new)
told_line (Err fault) form trees n t stack old a b c d e f new source words deed ha hb hc hd told he hf h = tt
told_line (Ok value) form trees n t stack old a b c d e f new source words deed ha hb hc hd told he hf h =
    (line_words form trees n t stack source deed hf.0, all, (is_one_line form trees n t stack source deed hf.0, source, deed, hf.0, refl))
  where
    seven : (u v w x y m z : List ℕ) → a ≡ old ++ u → b ≡ a ++ v → c ≡ b ++ w → d ≡ c ++ x → e ≡ d ++ y → f ≡ e ++ m → new ≡ f ++ z
        → new ≡ old ++ (u ++ (v ++ (w ++ (x ++ (y ++ (m ++ z))))))
    seven u v w x y m z hu hv hw hx hy hm hz =
        hz
        ∙ ap (λ (l : List ℕ). l ++ z) (hm ∙ ap (λ (l : List ℕ). l ++ m) (hy ∙ ap (λ (l : List ℕ). l ++ y) (hx ∙ ap (λ (l : List ℕ). l ++ x) (hw ∙ ap (λ (l : List ℕ). l ++ w) (hv ∙ ap (λ (l : List ℕ). l ++ v) hu)))))
        ∙ simp append_assoc

    all : new ≡ old ++ line_words form trees n t stack source deed hf.0
    all = seven (head_words form n t) (place_in form stack) (part form (codes " ") (codes "source") source) (part form (codes " ") (codes "instruction") (instruction_words trees stack)) (did form deed) (members_in form hf.0) (end_words form) ha hb hc (hd ∙ ap (λ (l : List ℕ). c ++ part form (codes " ") (codes "instruction") l) told) he hf.1 h
