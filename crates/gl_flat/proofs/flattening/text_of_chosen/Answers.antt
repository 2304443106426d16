use Rattle.std.proofs.Common.{◌≡◌, ◌∙◌, ap, sym, map}
use Rattle.std.specs.Option.{option_copied}
use Rattle.gl_text.specs.Decks.{Sub, once}
use Rattle.gl_text.specs.Flattening.{DEPTH}
use Rattle.gl_deck.specs.Bodies.{bodies_value}
use Rattle.gl_flat.specs.Steps.{flat_or_fault}
use Rattle.gl_flat.proofs.SoundLaws.{once_same, ports_differ, ports_once}
use Rattle.gl_flat.proofs.StepLaws.{gives_same, same_devices}
use Rattle.gl_flat.proofs.flattening.text_of_chosen.Goals as goal

pub text_of_cards-requires-clause-scene : goal.text_of_cards-requires-clause-scene
text_of_cards-requires-clause-scene c =
    let subs = c.args.frame.now.deck.now.subs in
    let there = c.scene-scene.ensures.subs in
    record {
      ports = c.scene-scene.ensures.ports ∙ c.in_ok-tables.ensures.ports ∙ ap (map (λ (s : Sub). once s.head.ports)) c.subs-subs.ensures.subs ∙ ports_once subs (ports_differ subs subs c.requires.sound.subs)
          ∙ ap (map (λ (s : Sub). s.head.ports)) (sym (there ∙ c.subs-subs.ensures.subs));
    }

pub returns : goal.returns
returns c =
    let deck = c.args.frame.now.deck.now in
    let rails = c.args.frame.now.rails.now in
    let scene = c.scene-scene.result in
    let known : scene.rails.now.keys ≡ rails = ap (λ t. t.keys) c.scene-scene.ensures.rails ∙ c.in_ok-tables.ensures.rails ∙ once_same rails c.requires.rails.differ in
    let subs = c.scene-scene.ensures.subs ∙ c.subs-subs.ensures.subs in
    let same = same_devices DEPTH scene.rails.now.keys rails scene.subs.now deck.subs (bodies_value c.args.cards.now) known subs in
    record { gives = gives_same _ c.text_of_cards.result _ _ (ap (flat_or_fault deck rails (option_copied c.args.frame.now.head)) same) c.text_of_cards.ensures.gives }
