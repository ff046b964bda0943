use Rattle.std.proofs.Common.{rules}
use Rattle.std.proofs.lemmas.List.{length-map}
use Rattle.arena.proofs.Tilings.{longer}
use Rattle.arena.proofs.arena.Arena.append.Goals as goal

pub invariant_of-self : goal.invariant_of-self
invariant_of-self c =
    let a = c.args.self.now in
    let it = longer _ _ _ _ _ _ c.push_reserved.ensures.items c.extend_reserved.ensures.items (search rules) (search rules) a.total a.tiled in
    record { total = it.total; tiled = it.tiled; small = search rules }

pub returns-clause-cases : goal.returns-clause-cases
returns-clause-cases c =
    let a = c.args.self.now in
    let it = longer _ _ _ _ _ _ c.push_reserved.ensures.items c.extend_reserved.ensures.items (search rules) (search rules) a.total a.tiled in
    record {
      handle = search (rules, length-map);
      nodes = it.nodes;
      entries = search (rules, length-map);
      operands = search rules;
    }
