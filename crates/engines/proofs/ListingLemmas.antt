-- Why class files have no listings.
use Rattle.std.proofs.Common.{◌≡◌, ◌⊎◌, ℕ, suc, ◌<◌, List, [], ◌∷◌, length, map, Option, inl, inr, refl, ap, subst}
use Rattle.std.specs.List.{flat_map}
use Rattle.listings.proofs.disasm.Writing.{flat_map_over}
use Rattle.model.specs.declared.device.DeviceFault.{DeviceFault}
use Rattle.model.specs.declared.device.DeviceFault.TheVariants as devices
use Rattle.model.specs.Listing.{listing}
use Rattle.class_tree.specs.declared.tree.ClassFile.{ClassFile}
use Rattle.classfile.specs.View.{file_of}
use Rattle.listings.specs.class_listings.Listings.{IsFirstMalformed, listings, no_memory}
use Rattle.link_conditions.specs.declared.refusal.why.Refusal.{Refusal}
use Rattle.engines.specs.Devices.{fault_of}
use Rattle.engines.specs.Engines.{IsOfFile, ReadsEach}
use Rattle.engines.specs.Listings.{IsUnlisted, IsUnnamed, ListsFront, NamesFront}
use Rattle.engines.specs.declared.fault.Fault.{Fault}
use Rattle.engines.specs.declared.fault.Fault.TheVariants as faults

-- a class file isn't read, and nothing is written
pub unread_is_unlisted : (fault : Fault) (lefts : List (Option (List ℕ))) (held : Option (List ℕ)) (file : ℕ) → file < length lefts
    → IsOfFile file fault → IsUnlisted lefts held held fault
unread_is_unlisted faults.Device lefts held file within of_file = inl refl
unread_is_unlisted faults.Memory lefts held file within of_file = absurd of_file
unread_is_unlisted (faults.Schedule fault) lefts held file within of_file = absurd of_file
unread_is_unlisted (faults.Text fault) lefts held file within of_file = absurd of_file
unread_is_unlisted (faults.Place missing) lefts held file within of_file = absurd of_file
unread_is_unlisted (faults.Refusal refusal) lefts held file within of_file = (refl, inl (file, within, of_file))

-- as many sources are read as there are
pub read_count : (lefts : List (Option (List ℕ))) (files : List (List ℕ)) → ReadsEach lefts files → length files ≡ length lefts
read_count [] [] each = refl
read_count (left ∷ lefts) (bytes ∷ files) each = ap suc (read_count lefts files each.1)
read_count [] (bytes ∷ files) each = absurd each
read_count (left ∷ lefts) [] each = absurd each

-- a class file isn't decoded, and nothing is written
pub undecoded_is_unlisted : (lefts : List (Option (List ℕ))) (files : List (List ℕ)) (held : Option (List ℕ)) (refusal : Refusal)
    → ReadsEach lefts files
    → ((number : ℕ) × (number < length files) × (refusal ≡ no_memory number)) ⊎ IsFirstMalformed files refusal
    → IsUnlisted lefts held held (faults.Refusal refusal)
undecoded_is_unlisted lefts files held refusal each (inl memory) = (refl, inl (memory.0, subst (λ count. memory.0 < count) (read_count lefts files each) memory.1, memory.2))
undecoded_is_unlisted lefts files held refusal each (inr first) = (refl, inr (files, each, first))

-- the writing stops
pub front_is_unlisted : (fault : DeviceFault) (lefts : List (Option (List ℕ))) (old new : Option (List ℕ)) → ListsFront lefts old new
    → IsUnlisted lefts old new (fault_of fault)
front_is_unlisted devices.Device lefts old new front = inr front
front_is_unlisted devices.Memory lefts old new front = front

-- what is listed are the trees
pub listed_trees : (files : List ClassFile) → flat_map (λ file. listing (file_of file)) files ≡ listings (map file_of files)
listed_trees files = flat_map_over listing file_of files

-- ---- with names

pub unread_is_unnamed : (fault : Fault) (lefts : List (Option (List ℕ))) (held : Option (List ℕ)) (file : ℕ) → file < length lefts
    → IsOfFile file fault → IsUnnamed lefts held held fault
unread_is_unnamed faults.Device lefts held file within of_file = inl refl
unread_is_unnamed faults.Memory lefts held file within of_file = absurd of_file
unread_is_unnamed (faults.Schedule fault) lefts held file within of_file = absurd of_file
unread_is_unnamed (faults.Text fault) lefts held file within of_file = absurd of_file
unread_is_unnamed (faults.Place missing) lefts held file within of_file = absurd of_file
unread_is_unnamed (faults.Refusal refusal) lefts held file within of_file = (refl, inl (file, within, of_file))

pub undecoded_is_unnamed : (lefts : List (Option (List ℕ))) (files : List (List ℕ)) (held : Option (List ℕ)) (refusal : Refusal)
    → ReadsEach lefts files
    → ((number : ℕ) × (number < length files) × (refusal ≡ no_memory number)) ⊎ IsFirstMalformed files refusal
    → IsUnnamed lefts held held (faults.Refusal refusal)
undecoded_is_unnamed lefts files held refusal each refused = undecoded_is_unlisted lefts files held refusal each refused

pub front_is_unnamed : (fault : DeviceFault) (lefts : List (Option (List ℕ))) (old new : Option (List ℕ)) → NamesFront lefts old new
    → IsUnnamed lefts old new (fault_of fault)
front_is_unnamed devices.Device lefts old new front = inr front
front_is_unnamed devices.Memory lefts old new front = front
