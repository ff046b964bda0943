use Rattle.std.proofs.Common.{refl}
use Rattle.std.proofs.lemmas.Bool.Decides.{not_from_Decides}
use Rattle.settings.proofs.Numeral.{written, not_written, plain_decimal}
use Rattle.settings.proofs.naming.read_key.Goals as goal

pub returns-then-not-plain : goal.returns-then-not-plain
returns-then-not-plain c = (refl, λ n l e. not_from_Decides _ c.plain.ensures c.if-not-plain.true (plain_decimal _ n l e))

pub returns-in-Some : goal.returns-in-Some
returns-in-Some c = written _ _ (c.plain.ensures.0 c.if-not-plain.false) c.in-Some.ensures

pub returns-in-None : goal.returns-in-None
returns-in-None c = (refl, not_written _ c.in-None.ensures)
