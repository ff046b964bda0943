use Rattle.std.proofs.Common.{◌≡◌, sym, ap, ◌∙◌, rules}
use Rattle.listing.specs.Names.{kind_word, short_name}
use Rattle.listing.proofs.Named.{one_width, none_named, not_named}
use Rattle.listing.proofs.scalars.read_kind.Goals as goal

pub returns-then-is_some : goal.returns-then-is_some
returns-then-is_some c =
    let k = c.args.kind in
    not_named k c.args.word.now (search rules) (λ w small none is.
    let same : w ≡ c.in_ok-width.width = one_width c.args.word.now (kind_word k) c.in_ok-width.width w (search rules) small (search rules) is in
    none_named c.short_of.result (search rules) (c.short_of.ensures ∙ ap (short_name k) (sym same) ∙ none))
