-- What a call did of a method that has no code (own).
use Rattle.std.specs.Prelude.{ℕ, ◌-◌, if◌then◌else◌, nat_lt}
use Rattle.traces.specs.declared.traced_events.deed.Deed.{Deed}
use Rattle.traces.specs.declared.traced_events.deed.Deed.TheVariants.{Makes, Pushes, Runs}
use Rattle.model.specs.declared.name_method.NameMethod.{NameMethod}
use Rattle.model.specs.declared.name_method.NameMethod.TheVariants as names
use Rattle.model.specs.declared.text_method.TextMethod.{TextMethod}
use Rattle.model.specs.declared.text_method.TextMethod.TheVariants as writes
use Rattle.model.specs.declared.builder_method.BuilderMethod.{BuilderMethod}
use Rattle.model.specs.declared.builder_method.BuilderMethod.TheVariants.{ConstructEmpty, ConstructOfString, AppendString, AppendInt, AppendChar, AppendBuilder, ToString}

-- of String: by how many objects there were before it and are after it: what is new was made, and is what the word refers to
abbrev pub answered : (before after word : ℕ) → Deed
answered before after word = if nat_lt before after then Makes (word - 1) else Pushes word

-- of StringBuilder: a constructor gives nothing, `append` the receiver and `toString` the text, which are there
abbrev pub built : BuilderMethod → (method word : ℕ) → Deed
built ConstructEmpty method word = Runs method
built ConstructOfString method word = Runs method
built AppendString method word = Pushes word
built AppendInt method word = Pushes word
built AppendChar method word = Pushes word
built AppendBuilder method word = Pushes word
built ToString method word = Pushes word

-- of Thread's names: `getName` gives the name, which may be new; the others give nothing
abbrev pub named : NameMethod → (before after method word : ℕ) → Deed
named names.Construct before after method word = Runs method
named names.ConstructWithTarget before after method word = Runs method
named names.ConstructWithName before after method word = Runs method
named names.ConstructWithTargetAndName before after method word = Runs method
named names.GetName before after method word = answered before after word
named names.SetName before after method word = Runs method

-- of what makes the text of a String and takes it apart: `intern` gives a String that is there, the others give nothing
abbrev pub wrote : TextMethod → (method word : ℕ) → Deed
wrote writes.ConstructEmpty method word = Runs method
wrote writes.ConstructOfString method word = Runs method
wrote writes.ConstructOfChars method word = Runs method
wrote writes.GetChars method word = Runs method
wrote writes.Intern method word = Pushes word
