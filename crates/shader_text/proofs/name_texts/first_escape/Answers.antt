use Rattle.std.proofs.Common.{rules}
use Rattle.shader_text.proofs.Escaped.{escape_value, escape_rest}
use Rattle.shader_text.proofs.name_texts.first_escape.Goals as goal

pub returns-clause-back : goal.returns-clause-back
returns-clause-back c = λ b rest small e. (escape_value _ b _ _ rest small e (search rules) (search rules), escape_rest _ b rest e)
