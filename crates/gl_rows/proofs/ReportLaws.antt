-- The report that is computed on rows is the report, where its lists and its stem pass the tests.
use Rattle.std.proofs.Common.{◌≡◌, map, true, Bool, refl}
use Rattle.std.specs.Prelude.{not}
use Rattle.std.specs.List.{list_any}
use Rattle.std.proofs.lemmas.Bool.{and_parts, not-true}
use Rattle.gl_text.specs.Flattening.{Flat}
use Rattle.gl_match.specs.Choice.{sets_of}
use Rattle.gl_match.specs.Picks.{AreChoices, picks_of}
use Rattle.gl_base.specs.Libraries.{Library}
use Rattle.gl_base.specs.BaseCircuit.{circuit_of}
use Rattle.gl_base.specs.Stems.{names_in, stands_in, stem_of}
use Rattle.gl_base.specs.Rounds.{source_of, cells_at, searched, cell_pattern}
use Rattle.gl_base.specs.Lifting.{IsReport}
use Rattle.gl_rows.specs.Files.{lists_of, are_listed, is_checked, report_of}
use Rattle.gl_base.proofs.StemLaws.{stem_of_is}
use Rattle.gl_base.proofs.TriedLaws.{lists_are}

pub report_is : AreChoices → (flat : Flat) (library : Library) → is_checked flat library ≡ true → IsReport flat library (report_of flat library)
report_is choice flat library e =
    let lists = lists_of flat library in
    let stands : Bool = list_any (stands_in (stem_of (names_in flat))) (names_in flat) in
    let parts = and_parts (are_listed flat library lists) (not stands) e in
    record {
      lists = lists;
      picks = picks_of 1 (sets_of lists);
      stem = stem_of (names_in flat);
      round = record {
        complete = lists_are (circuit_of (source_of flat library)) (map (cell_pattern (source_of flat library)) (searched (cells_at 0 library))) lists parts.0;
        choice = choice 1 (sets_of lists);
      };
      stem_is = stem_of_is (names_in flat) (not-true stands parts.1);
      text_is = refl;
    }
