-- The examples, computed.
use Rattle.std.proofs.Common.{refl}
use Rattle.evaluator.specs.Trees.{operated}
use Rattle.layers.specs.Examples.{Examples}

pub examples : Examples
unfolding operated
examples =
    record {
      sum = refl;
      sum_words = refl;
      difference = refl;
      swapped = refl;
      product = refl;
      below_zero = refl;
      divide = refl;
      mixed = refl;
      floats = refl;
      through = refl;
      from_body = refl;
      found = refl;
      fourth_word = refl;
      not_found = refl;
      kept = refl;
      not_kept = refl;
      fault = refl;
      no_fault = refl;
    }
