use Rattle.std.proofs.Common.{◌≡◌, ℕ, List, ◌∙◌, ◌++◌, length, ap, arith}
use Rattle.std.proofs.lemmas.List.{length-map}
use Rattle.indexmap.specs.IndexMap.{get}
use Rattle.gl_text.specs.LogicalLines.{same_text}
use Rattle.gl_base.specs.Rails.{all_rails}
use Rattle.gl_base.specs.TypeNames.{word_of}
use Rattle.gl_base.specs.BaseCircuit.{nets_of}
use Rattle.gl_base.specs.Rounds.{cards_of}
use Rattle.gl_flat.specs.Kept.{kept_device}
use Rattle.gl_lib.specs.Sources.{cards_of_cells}
use Rattle.gl_lib.proofs.TableLaws.{types_read, few_cards}
use Rattle.gl_lib.proofs.tables.tables_of.Goals as goal

pub of-requires : goal.of-requires
of-requires c =
    let p = c.args.parts.now in
    let deck = c.deck-library.ensures.deck in
    let subs : c.as_slice-subs.result.now ≡ p.library.now.deck.subs = cc in
    let cards = cards_of p.flat.now in
    let devices = ap length c.devices.ensures.devices ∙ length-map cards (kept_device (nets_of cards)) in
    let cells = ap (λ ss. length (cards_of_cells ss)) subs in
    omega (arith, devices, cells, few_cards p.flat.now p.library.now c.requires.source)

pub returns : goal.returns
returns c =
    let p = c.args.parts.now in
    let deck = c.deck-library.ensures.deck in
    let subs : c.as_slice-subs.result.now ≡ p.library.now.deck.subs = cc in
    let library : c.models-2.result.now ≡ p.library.now.deck.models = cc in
    let words : (name : List ℕ) → get same_text c.in_ok-words.words name ≡ word_of (p.flat.now.models ++ p.library.now.deck.models) name = λ name. c.in_ok-words.ensures.words name ∙ (λ i. word_of (c.models.ensures.models i ++ library i) name) in
    record {
      tables = record {
        words_are = words;
        kinds_are = types_read p.flat.now p.library.now (get same_text c.in_ok-words.words) (nets_of (cards_of p.flat.now)) c.devices.result.now c.as_slice-subs.result.now _ words c.devices.ensures.devices subs c.in_ok-kinds.ensures.types;
        rails_are = c.in_ok-rails.ensures.rails ∙ ap all_rails c.rails.ensures.rails;
      };
    }
