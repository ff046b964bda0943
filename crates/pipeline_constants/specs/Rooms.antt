-- How much room a module has for what is finished.
use Rattle.std.specs.Prelude.{ℕ, min}
use Rattle.pipeline_constants.specs.declared.room.Room.{Room}
use Rattle.pipeline_constants.specs.Settlings.{Limits}

-- as much as the tables of any module may hold; of variables no number is too large
abbrev pub most : Room
most =
    record { entries = 65536; operands = 262144; constants = 65536; overrides = 4096; variables = 18446744073709551615; handles = 65536; settled = 4096; kinds = 65536 }

-- no more than that, nor than so many variables
abbrev pub within : Room → ℕ → Room
within r variables =
    record {
      entries = min r.entries 65536;
      operands = min r.operands 262144;
      constants = min r.constants 65536;
      overrides = min r.overrides 4096;
      variables = min r.variables variables;
      handles = min r.handles 65536;
      settled = min r.settled 4096;
      kinds = min r.kinds 65536;
    }

-- the same as the limits of tables
abbrev pub limits_in : Room → Limits
limits_in r =
    record {
      walk = record {
        tables = record { entries = r.entries; operands = r.operands; kinds = r.kinds };
        constants = r.constants;
        images = r.handles;
        settled = r.settled;
      };
      overrides = r.overrides;
      variables = r.variables;
    }
