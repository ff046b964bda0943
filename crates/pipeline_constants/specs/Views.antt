-- The finished tables as the program holds them.
use Rattle.std.specs.Prelude.{ℕ, List, length, take, None, vec_items}
use Rattle.arena.specs.Items.{items, limit}
use Rattle.arena.specs.Nodes.{Node, nodes, operand_total}
use Rattle.ir.specs.Tables.{Global, global}
use Rattle.evaluator.specs.declared.expression_kind.ExpressionKind.{ExpressionKind}
use Rattle.evaluator.specs.declared.tables.NewConstant.{NewConstant}
use Rattle.walking.specs.States.{State}
use Rattle.pipeline_constants.specs.declared.slots.Slots.{Slots}
use Rattle.pipeline_constants.specs.declared.finished.Finished.{Finished}
use Rattle.pipeline_constants.specs.declared.finished.Written.{Written}
use Rattle.pipeline_constants.specs.declared.module.Module.{Module}
use Rattle.pipeline_constants.specs.Contents.{Content}
use Rattle.pipeline_constants.specs.Settlings.{Limits}

-- the slots that are written
abbrev pub written_of : Slots → List ℕ
written_of s = take s.written (vec_items s.values)

-- how many may be written
abbrev pub places_of : Slots → ℕ
places_of s = length (vec_items s.values)

-- what a walk has written
abbrev pub state_of : List Node → List NewConstant → List ℕ → List ℕ → List ExpressionKind → State
state_of es cs images settled ks =
    record {
      tables = record { entries = es; kinds = ks; constants = record { list = cs; globals = None } };
      images = images;
      settled = settled;
    }

-- what the finished tables hold
abbrev pub content_of : Finished → Content
content_of f =
    record {
      walk = state_of (nodes (items f.entries) (items f.operands)) (items f.constants) (written_of f.images) (written_of f.settled) (items f.kinds);
      overrides = items f.overrides;
      variables = items f.variables;
    }

-- how much they take
abbrev pub limits_of : Finished → Limits
limits_of f =
    record {
      walk = record {
        tables = record { entries = limit f.entries; operands = limit f.operands; kinds = limit f.kinds };
        constants = limit f.constants;
        images = places_of f.images;
        settled = places_of f.settled;
      };
      overrides = limit f.overrides;
      variables = limit f.variables;
    }

-- how much of each table is written
abbrev pub counts : Content → Written
counts c =
    record {
      entries = length c.walk.tables.entries;
      operands = operand_total c.walk.tables.entries;
      constants = length c.walk.tables.constants.list;
      overrides = length c.overrides;
      variables = length c.variables;
      images = length c.walk.images;
      settled = length c.walk.settled;
      kinds = length c.walk.tables.kinds;
    }

-- ---- a module

-- the tables and sizes as they stand
abbrev pub tables_of : Module → Global
tables_of m = global m.source m.sizes

-- the room for what is finished
abbrev pub room_of : Module → Limits
room_of m = limits_of m.finished

-- how much is written, read off the tables
abbrev pub written_in : Finished → Written
written_in f =
    record {
      entries = length (items f.entries);
      operands = length (items f.operands);
      constants = length (items f.constants);
      overrides = length (items f.overrides);
      variables = length (items f.variables);
      images = length (written_of f.images);
      settled = length (written_of f.settled);
      kinds = length (items f.kinds);
    }
