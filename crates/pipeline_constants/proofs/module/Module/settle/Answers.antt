use Rattle.std.proofs.Common.{rules, ◌≡◌, [], length, vec_items, None, ap, sym, ◌∙◌, inl, inr}
use Rattle.std.specs.Option.{option_map}
use Rattle.std.proofs.lemmas.List.{nil_from_length}
use Rattle.places.specs.First.{number_of}
use Rattle.refusals.specs.Codes.{code_of}
use Rattle.settings.specs.Reading.{given}
use Rattle.overrides.specs.Settling.{Settleable}
use Rattle.pipeline_constants.specs.Settlings.{full_at_first}
use Rattle.pipeline_constants.specs.Views.{room_of, tables_of}
use Rattle.pipeline_constants.proofs.Modules.{bare_given}
use Rattle.pipeline_constants.proofs.module.Module.settle.Goals as goal

pub returns-in-Some : goal.returns-in-Some
returns-in-Some g c =
    let ready : Settleable c.args.file.now (tables_of c.args.self) c.in-Ok.settings = search rules in
    inl (inr (record {
      clean = ready.clean;
      table = number_of c.in-Some.table;
      full = sym c.full_at_first.ensures ∙ ap (option_map number_of) c.in-Some.is;
      refusal = ap code_of c.unsettled-in-Some.ensures.refusal;
      untouched = c.unsettled-in-Some.ensures.untouched;
    }))

pub returns-then-is_empty : goal.returns-then-is_empty
returns-then-is_empty g c =
    let ready : Settleable c.args.file.now (tables_of c.args.self) c.in-Ok.settings = search rules in
    let room : full_at_first (room_of c.args.self) (tables_of c.args.self) ≡ None = search rules in
    let count : length (vec_items c.args.self.source.overrides) ≡ 0 = search rules in
    let bare : vec_items c.args.self.source.overrides ≡ [] = nil_from_length (vec_items c.args.self.source.overrides) count in
    inr (record {
      clean = ready.clean;
      room = room;
      given = given c.in-Ok.settings;
      values = [];
      by_file = record {
        encodes = ready.encodes;
        distinct = ready.distinct;
        values = bare_given (given c.in-Ok.settings) (vec_items c.args.self.source.names) (vec_items c.args.self.source.overrides) bare;
      };
      answer = c.copied.ensures (g.F.Folder.verdict c.args.folder.now);
    })

pub returns : goal.returns
returns g c =
    let ready : Settleable c.args.file.now (tables_of c.args.self) c.in-Ok.settings = search rules in
    let room : full_at_first (room_of c.args.self) (tables_of c.args.self) ≡ None = search rules in
    let w = c.walked.ensures in
    inr (record {
      clean = ready.clean;
      room = room;
      given = given c.in-Ok.settings;
      values = w.0;
      by_file = record { encodes = ready.encodes; distinct = ready.distinct; values = w.1 };
      answer = w.2;
    })
