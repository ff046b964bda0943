-- The tables as the checks go through them.
use Rattle.std.specs.Prelude.{take}
use Rattle.ir.specs.Tables.{Global, Local}

-- a module's tables without the operands past their limit
abbrev pub global_below : Global → Global
global_below m =
    record {
      entries = m.entries;
      operands = take 262144 m.operands;
      constants = m.constants;
      overrides = m.overrides;
      names = m.names;
      variables = m.variables;
      sizes = m.sizes;
    }

-- and a body's
abbrev pub local_below : Local → Local
local_below b =
    record {
      entries = b.entries;
      operands = take 262144 b.operands;
      records = b.records;
      record_operands = take 262144 b.record_operands;
      locals = b.locals;
      named = b.named;
      constants = b.constants;
      overrides = b.overrides;
    }
