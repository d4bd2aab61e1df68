use Rattle.std.proofs.Common.{refl}
use Rattle.std.specs.Fmt.{digits}
use Rattle.std.specs.Char.{encode_utf8}
use Rattle.std.specs.Char.Utf16.{utf16_chars}
use Rattle.model.specs.OpcodeTable.{low_form, high_form, low_mnemonic, high_mnemonic}
use Rattle.model.specs.InstructionStarts.{starts_from}
use Rattle.run_laws.proofs.examples.listing_of_the_first_file.Goals as goal

pub returns : goal.returns
unfolding low_form high_form low_mnemonic high_mnemonic digits starts_from utf16_chars encode_utf8
returns c = record { holds = record { listed = refl } }
