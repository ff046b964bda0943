use Rattle.overrides.proofs.Standing.{none_without_key, settling_accepts, valued_is_values}
use Rattle.overrides.proofs.Once.{valued_once}
use Rattle.overrides.proofs.values_stand.Goals as goal

pub returns-clause-accepted : goal.returns-clause-accepted
returns-clause-accepted c = settling_accepts

pub returns-clause-values : goal.returns-clause-values
returns-clause-values c = valued_is_values

pub returns-clause-once : goal.returns-clause-once
returns-clause-once c = valued_once

pub returns-clause-none : goal.returns-clause-none
returns-clause-none c = none_without_key
