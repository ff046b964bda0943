use Rattle.std.proofs.Common.{rules}
use Rattle.std.proofs.lemmas.Fmt.{hex_byte}
use Rattle.shader_text.proofs.name_texts.push_byte.Goals as goal

pub returns-else-is_shown : goal.returns-else-is_shown
returns-else-is_shown c = search (rules, hex_byte)
