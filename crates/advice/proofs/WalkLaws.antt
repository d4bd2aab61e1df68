-- What a walk over classes tells, part by part.
use Rattle.std.proofs.Common.{inl, inr, ◌≡◌, ℕ, zero, suc, ◌+◌, ◌<◌, ◌≤◌, List, [], ◌∷◌, map, length, get_or, Bool, true, false, not, ◌||◌, ◌&&◌, Option, Some, None, refl, sym, ap, ◌∙◌, arith, below_more}
use Rattle.std.specs.Prelude.{slice_get}
use Rattle.std.specs.List.{list_any}
use Rattle.std.specs.Option.{option_map, option_map_or}
use Rattle.std.proofs.lemmas.Bool.{and_parts, cases_lt, false≢true}
use Rattle.std.proofs.lemmas.List.{get_or_past, length-map}
use Rattle.std.proofs.lemmas.Option.{slice_get-get_or, slice_get-map}
use Rattle.std.proofs.lemmas.List.Folds.{list_any-append}
use Rattle.model.specs.Tree.{MethodTree, CodeTree, FileTree}
use Rattle.model.specs.InstructionStarts.{starts, is_start}
use Rattle.model.specs.CodeParts.{begins_none, count_from}
use Rattle.model.specs.Classes.{Program, code_in}
use Rattle.link_conditions.specs.resolution.Unresolved.{class_stands}
use Rattle.advice.specs.declared.told.Told.{Told}
use Rattle.advice.specs.declared.told.ToldPlace.{ToldPlace}
use Rattle.advice.specs.declared.told.ToldPlace.TheVariants as places
use Rattle.advice.specs.Told.{IsTold, Keeps}
use Rattle.advice.specs.Wrong.{is_declaration_wrong, is_offset_wrong, is_entry_wrong, is_end, is_reached, in_code, is_wrong_at, is_wrong_in}
use Rattle.advice.specs.Telling.{Tells, TellsEach, TellsCode, TellsMethod, TellsMethods, TellsFile, TellsPlace, TellsFiles}
use Rattle.advice.proofs.ReadLaws.{count_more}
use Rattle.advice.proofs.TellingLaws.{TellsBelow, keeps_none, keeps_both, none_past}

-- ---- elements of lists

pub within : {X : Type 0} (p : X → Bool) (xs : List X) (k : ℕ) → option_map_or p (slice_get xs k) false ≡ true → k < length xs
within p xs k h = elim (cases_lt k (length xs)) [ inl lt ↦ lt | inr le ↦ absurd (none_past p xs k le h) ]

-- what is so of the element that is there is so of it, where it is read
pub here_of : {X : Type 0} (p : X → Bool) (xs ys : List X) (i : ℕ) (d : X) → xs ≡ ys → option_map_or p (slice_get ys i) false ≡ true
    → p (get_or xs i d) ≡ true
here_of p xs ys i d same h =
    let there : slice_get ys i ≡ Some (get_or ys i d) = slice_get-get_or ys i d (within p ys i h) in
    ap (λ l. p (get_or l i d)) same ∙ sym (ap (λ o. option_map_or p o false) there) ∙ h

pub mapped_at : {X Y : Type 0} (f : X → Y) (xs : List X) (ys : List Y) (i : ℕ) (x : X) → map f xs ≡ ys → i < length xs → x ≡ get_or xs i x
    → slice_get ys i ≡ Some (f x)
mapped_at f xs ys i x same lt is =
    let at : slice_get xs i ≡ Some (get_or xs i x) = slice_get-get_or xs i x lt in
    ap (λ l. slice_get l i) (sym same) ∙ slice_get-map f xs i ∙ ap (option_map f) at ∙ ap (λ y. Some (f y)) (sym is)

pub mapped_here : {X Y : Type 0} (p : Y → Bool) (f : X → Y) (xs : List X) (ys : List Y) (i : ℕ) (x : X) → map f xs ≡ ys → x ≡ get_or xs i x
    → option_map_or p (slice_get ys i) false ≡ true → p (f x) ≡ true
mapped_here p f xs ys i x same is h =
    let lt : i < length ys = within p ys i h in
    let long : length (map f xs) ≡ length ys = ap length same in
    let there : slice_get ys i ≡ Some (f x) = mapped_at f xs ys i x same (omega (arith, lt, long, length-map xs f)) is in
    sym (ap (λ o. option_map_or p o false) there) ∙ h

-- ---- where decoding ends

any_counted : (p : ℕ → Bool) (a n k : ℕ) → k < n → p (a + k) ≡ true → list_any p (count_from a n) ≡ true
any_counted p a zero k lt h = absurd (omega (arith, lt))
any_counted p a (suc n) zero lt h =
    let e : a + 0 ≡ a = omega arith in
    let here : p a ≡ true = ap p (sym e) ∙ h in
    ap (λ b. b || list_any p (count_from (suc a) n)) here
any_counted p a (suc n) (suc k) lt h =
    let e : a + suc k ≡ suc a + k = omega arith in
    let rest : list_any p (count_from (suc a) n) ≡ true = any_counted p (suc a) n k (omega (arith, lt)) (ap p (sym e) ∙ h) in
    or_true (p a) (list_any p (count_from (suc a) n)) rest
  where
    or_true : (b c : Bool) → c ≡ true → (b || c) ≡ true
    or_true true c e = refl
    or_true false c e = e

-- what is an offset, and behind one at which decoding ends, is not reached
pub past_end : (code : List ℕ) (pc k : ℕ) → is_start code pc ≡ true → begins_none code pc ≡ true → pc < k → is_reached code k ≡ true → ⊥
past_end code pc k start none lt h =
    let here : is_end code pc ≡ true = ap (λ b. b && begins_none code pc) start ∙ none in
    let zero_pc : 0 + pc ≡ pc = omega arith in
    let found : list_any (is_end code) (count_from 0 k) ≡ true = any_counted (is_end code) 0 k pc lt (ap (is_end code) zero_pc ∙ here) in
    let last : not (list_any (is_end code) (count_from 0 k)) ≡ true = (and_parts (is_start code k) _ h).1 in
    let off : false ≡ true = ap not (sym found) ∙ last in
    absurd (false≢true off)

-- no end up to here, and none here
pub no_end_more : (code : List ℕ) (pc : ℕ) → list_any (is_end code) (count_from 0 pc) ≡ false → is_end code pc ≡ false
    → list_any (is_end code) (count_from 0 (pc + 1)) ≡ false
no_end_more code pc before here =
    let zero_pc : 0 + pc ≡ pc = omega arith in
    ap (list_any (is_end code)) (count_more 0 pc)
    ∙ list_any-append (is_end code) (count_from 0 pc) ((0 + pc) ∷ [])
    ∙ ap (λ b. b || list_any (is_end code) ((0 + pc) ∷ [])) before
    ∙ ap (λ q. is_end code q || false) zero_pc
    ∙ ap (λ b. b || false) here

-- past the marks is no offset
pub not_past : (code : List ℕ) (marks : List Bool) (k : ℕ) → marks ≡ starts code → length marks ≤ k → is_reached code k ≡ true → ⊥
not_past code marks k same le h =
    let off : is_start code k ≡ false = ap (λ (l : List Bool). get_or l k false) (sym same) ∙ get_or_past marks k false le in
    let on : is_start code k ≡ true = (and_parts (is_start code k) _ h).0 in
    absurd (false≢true (sym off ∙ on))

-- ---- at a mark

pub mark_is : (code : List ℕ) (marks : List Bool) (pc : ℕ) (d : Bool) → marks ≡ starts code → pc < length marks
    → get_or marks pc d ≡ is_start code pc
mark_is code marks pc d same lt =
    let one = slice_get-get_or marks pc d lt in
    let other = slice_get-get_or marks pc false lt in
    let both : get_or marks pc d ≡ get_or marks pc false = cc in
    both ∙ ap (λ (l : List Bool). get_or l pc false) same

-- a mark that is a boundary's, where something is wrong
pub wrong_at_mark : (code : List ℕ) (pc : ℕ) (mark wrong : Bool) → mark ≡ is_start code pc → (is_reached code pc && wrong) ≡ true
    → (mark && wrong) ≡ true
wrong_at_mark code pc mark wrong is h =
    let parts = and_parts (is_reached code pc) wrong h in
    let start : mark ≡ true = is ∙ (and_parts (is_start code pc) _ parts.0).0 in
    ap (λ b. b && wrong) start ∙ parts.1

-- decoding goes on, or it ends here
pub no_end_here : (code : List ℕ) (pc : ℕ) (mark goes_on : Bool) → mark ≡ is_start code pc → goes_on ≡ not (mark && begins_none code pc)
    → goes_on ≡ true → is_end code pc ≡ false
no_end_here code pc mark goes_on is on goes = yes_then (is_end code pc) (ap (λ b. not (b && begins_none code pc)) (sym is) ∙ sym on ∙ goes)
  where
    yes_then : (b : Bool) → not b ≡ true → b ≡ false
    yes_then true e = sym e
    yes_then false e = refl

pub end_here : (code : List ℕ) (pc : ℕ) (mark goes_on : Bool) → mark ≡ is_start code pc → goes_on ≡ not (mark && begins_none code pc)
    → goes_on ≡ false → (is_start code pc ≡ true) × (begins_none code pc ≡ true)
end_here code pc mark goes_on is on stops =
    and_parts (is_start code pc) (begins_none code pc) (no_then (is_end code pc) (ap (λ b. not (b && begins_none code pc)) (sym is) ∙ sym on ∙ stops))
  where
    no_then : (b : Bool) → not b ≡ false → b ≡ true
    no_then true e = refl
    no_then false e = sym e

-- ---- of the first places of some

pub below_then : (a b c : List Told) (file : ℕ) (place : ℕ → ToldPlace) (is_wrong : ℕ → Bool) (n : ℕ)
    → TellsBelow a b file place is_wrong n → Keeps b c → TellsBelow a c file place is_wrong n
below_then a b c file place is_wrong n first second = record {
  kept = keeps_both a b c first.kept second;
  told = λ k lt h. second.kept file (place k) (first.told k lt h);
}

-- ---- code

pub code_told : (files : Program) (tree : FileTree) (a b c : List Told) (file method : ℕ) (code : CodeTree)
    → TellsEach a b file (λ pc. places.Instruction method pc) (is_offset_wrong files tree code)
    → TellsEach b c file (λ k. places.Exception method k) (is_entry_wrong files tree code)
    → TellsCode files tree a c file method code
code_told files tree a b c file method code first second = record {
  kept = keeps_both a b c first.kept second.kept;
  offsets = λ pc h. second.kept.kept file (places.Instruction method pc) (first.told pc h);
  entries = λ k h. second.told k h;
}

-- ---- methods

of_code : (test : CodeTree → ℕ → Bool) (at : ℕ) (m : MethodTree) (code : CodeTree) → code_in m.parts ≡ Some code → in_code test at m ≡ true
    → test code at ≡ true
of_code test at m code is h = sym (ap (λ (o : Option CodeTree). option_map_or (λ (c : CodeTree). test c at) o false) is) ∙ h

of_none : (test : CodeTree → ℕ → Bool) (at : ℕ) (m : MethodTree) → code_in m.parts ≡ None → in_code test at m ≡ true → ⊥
of_none test at m is h = absurd (false≢true (sym (ap (λ (o : Option CodeTree). option_map_or (λ (c : CodeTree). test c at) o false) is) ∙ h))

pub method_told : (files : Program) (tree : FileTree) (a b c : List Told) (file method : ℕ) (m : MethodTree) (code : CodeTree)
    → Tells a b file (places.Method method) (is_declaration_wrong files tree m) → TellsCode files tree b c file method code
    → code_in m.parts ≡ Some code → TellsMethod files tree a c file method m
method_told files tree a b c file method m code first second is = record {
  kept = keeps_both a b c first.kept second.kept;
  declaration = λ h. second.kept.kept file (places.Method method) (first.told h);
  offsets = λ pc h. second.offsets pc (of_code (is_offset_wrong files tree) pc m code is h);
  entries = λ k h. second.entries k (of_code (is_entry_wrong files tree) k m code is h);
}

pub method_without_code : (files : Program) (tree : FileTree) (a b : List Told) (file method : ℕ) (m : MethodTree)
    → Tells a b file (places.Method method) (is_declaration_wrong files tree m) → code_in m.parts ≡ None
    → TellsMethod files tree a b file method m
method_without_code files tree a b file method m first is = record {
  kept = first.kept;
  declaration = λ h. first.told h;
  offsets = λ pc h. absurd (of_none (is_offset_wrong files tree) pc m is h);
  entries = λ k h. absurd (of_none (is_entry_wrong files tree) k m is h);
}

pub methods_none : (files : Program) (tree : FileTree) (a : List Told) (file : ℕ) → TellsMethods files tree a a file 0
methods_none files tree a file = record {
  kept = keeps_none a;
  declarations = λ j lt h. absurd (omega (arith, lt));
  offsets = λ j pc lt h. absurd (omega (arith, lt));
  entries = λ j k lt h. absurd (omega (arith, lt));
}

-- what is wrong of the method of a number
of_method : (test : MethodTree → Bool) (tree : FileTree) (i : ℕ) (m : MethodTree) → slice_get tree.methods i ≡ Some m
    → option_map_or test (slice_get tree.methods i) false ≡ true → test m ≡ true
of_method test tree i m is h = sym (ap (λ (o : Option MethodTree). option_map_or test o false) is) ∙ h

pub methods_more : (files : Program) (tree : FileTree) (a b c : List Told) (file i : ℕ) (m : MethodTree)
    → TellsMethods files tree a b file i → TellsMethod files tree b c file i m → slice_get tree.methods i ≡ Some m
    → TellsMethods files tree a c file (i + 1)
methods_more files tree a b c file i m first second is = record {
  kept = keeps_both a b c first.kept second.kept;
  declarations =
      below_more (λ j. is_wrong_at files tree (places.Method j) ≡ true → IsTold c file (places.Method j)) i
      (λ j lt h. second.kept.kept file (places.Method j) (first.declarations j lt h))
      (λ h. second.declaration (of_method (is_declaration_wrong files tree) tree i m is h));
  offsets = λ j pc lt.
      below_more (λ j. is_wrong_at files tree (places.Instruction j pc) ≡ true → IsTold c file (places.Instruction j pc)) i
      (λ j lt h. second.kept.kept file (places.Instruction j pc) (first.offsets j pc lt h))
      (λ h. second.offsets pc (of_method (in_code (is_offset_wrong files tree) pc) tree i m is h)) j lt;
  entries = λ j k lt.
      below_more (λ j. is_wrong_at files tree (places.Exception j k) ≡ true → IsTold c file (places.Exception j k)) i
      (λ j lt h. second.kept.kept file (places.Exception j k) (first.entries j k lt h))
      (λ h. second.entries k (of_method (in_code (is_entry_wrong files tree) k) tree i m is h)) j lt;
}

-- ---- class files

pub file_told : (files : Program) (tree : FileTree) (a b c d : List Told) (file : ℕ)
    → Tells a b file places.Class (class_stands files tree)
    → TellsEach b c file (λ k. places.Field k) (λ k. is_wrong_at files tree (places.Field k))
    → TellsMethods files tree c d file (length tree.methods) → TellsFile files tree a d file
file_told files tree a b c d file class fields methods = record {
  kept = keeps_both a b d class.kept (keeps_both b c d fields.kept methods.kept);
  told = told;
}
  where
    told : (place : ToldPlace) → is_wrong_at files tree place ≡ true → IsTold d file place
    told places.File h = absurd (false≢true h)
    told places.Class h = methods.kept.kept file places.Class (fields.kept.kept file places.Class (class.told h))
    told (places.Field k) h = methods.kept.kept file (places.Field k) (fields.told k h)
    told (places.Method k) h = methods.declarations k (within (is_declaration_wrong files tree) tree.methods k h) h
    told (places.Instruction k pc) h = methods.offsets k pc (within (in_code (is_offset_wrong files tree) pc) tree.methods k h) h
    told (places.Exception k entry) h = methods.entries k entry (within (in_code (is_entry_wrong files tree) entry) tree.methods k h) h

pub file_then : (files : Program) (tree : FileTree) (a b c : List Told) (file : ℕ) → Keeps a b → TellsFile files tree b c file
    → TellsFile files tree a c file
file_then files tree a b c file first second = record { kept = keeps_both a b c first second.kept; told = λ place h. second.told place h }

-- ---- places of classes

pub at_no_place : (files : Program) (told : List Told) (number : ℕ) → TellsPlace files None told told number
at_no_place files told number = record { kept = keeps_none told; told = λ e place h. none e }
  where
    none : {X : Type 0} → None ≡ Some number → X
    none e = cc

pub at_place : (files : Program) (tree : FileTree) (at : ℕ) (a b : List Told) (number : ℕ) → TellsFile files tree a b number
    → slice_get files at ≡ Some tree → TellsPlace files (Some at) a b number
at_place files tree at a b number first is = record { kept = first.kept; told = λ e place h. first.told place (wrong e place h) }
  where
    wrong : Some at ≡ Some number → (place : ToldPlace) → is_wrong_in files number place ≡ true → is_wrong_at files tree place ≡ true
    wrong e place h =
        let same : at ≡ number = cc in
        let there : slice_get files number ≡ Some tree = ap (slice_get files) (sym same) ∙ is in
        sym (ap (λ (o : Option FileTree). option_map_or (λ file. is_wrong_at files file place) o false) there) ∙ h

pub past_classes : (files : Program) (at : ℕ) (told : List Told) (number : ℕ) → slice_get files at ≡ None
    → TellsPlace files (Some at) told told number
past_classes files at told number is = record { kept = keeps_none told; told = λ e place h. absurd (wrong e place h) }
  where
    wrong : Some at ≡ Some number → (place : ToldPlace) → is_wrong_in files number place ≡ true → ⊥
    wrong e place h =
        let same : at ≡ number = cc in
        let there : slice_get files number ≡ None = ap (slice_get files) (sym same) ∙ is in
        false≢true (sym (ap (λ (o : Option FileTree). option_map_or (λ file. is_wrong_at files file place) o false) there) ∙ h)

-- ---- files

pub files_none : (files : Program) (at : List (Option ℕ)) (told : List Told) → TellsFiles files at told 0
files_none files at told number lt = absurd (omega (arith, lt))

pub files_more : (files : Program) (at : List (Option ℕ)) (a b c : List Told) (i : ℕ) → TellsFiles files at a i → Keeps a b
    → TellsPlace files (get_or at i None) b c i → TellsFiles files at c (i + 1)
files_more files at a b c i first kept last =
    below_more (λ number. get_or at number None ≡ Some number → (place : ToldPlace) → is_wrong_in files number place ≡ true → IsTold c number place) i
    (λ number lt is place h. last.kept.kept number place (kept.kept number place (first number lt is place h)))
    (λ is place h. last.told is place h)
