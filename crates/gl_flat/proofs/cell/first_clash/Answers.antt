use Rattle.std.proofs.Common.{◌≡◌, ◌∙◌, ◌∷◌, ◌++◌, ap, sym, map, flat_map, option_map, subst, List, ℕ}
use Rattle.std.specs.Prelude.{IfOk, codes}
use Rattle.gl_text.specs.LogicalLines.{name_clash}
use Rattle.gl_text.specs.Cards.{Head}
use Rattle.gl_text.specs.Decks.{Sub, once}
use Rattle.gl_text.specs.Flattening.{DEPTH, FlatDevice, flat_devices, top_place, bearers, first_clash, net, top_net, clash_in}
use Rattle.gl_flat.proofs.ClashLaws.{clash_same}
use Rattle.gl_flat.proofs.PlainNames.{plain_differ}
use Rattle.gl_flat.proofs.SoundLaws.{once_same, ports_once}
use Rattle.gl_flat.proofs.cell.first_clash.Goals as goal

pub clash_of_cards-requires : goal.clash_of_cards-requires
clash_of_cards-requires c =
    let subs = c.args.subs.now in
    let there = c.scene-scene.ensures.subs in
    record {
      scene = record {
        ports = c.scene-scene.ensures.ports ∙ c.in_ok-tables.ensures.ports ∙ ports_once subs c.requires.ports ∙ ap (map (λ (s : Sub). s.head.ports)) (sym there);
      };
      names = c.requires.names;
    }

pub returns : goal.returns
returns c =
    let subs = c.args.subs.now in
    let rails = c.args.rails.now in
    let cell = c.args.cell.now in
    let scene = c.scene-scene.result in
    let rails_once : scene.rails.now.keys ≡ once rails = ap (λ t. t.keys) c.scene-scene.ensures.rails ∙ c.in_ok-tables.ensures.rails in
    let known : scene.rails.now.keys ≡ rails = rails_once ∙ once_same rails c.requires.rails in
    let ports : scene.own.now.keys ≡ once cell.head.ports = ap (λ t. t.keys) c.scene-scene.ensures.own ∙ c.in_ok-tables.ensures.own ∙ ap once (c.ports.ensures.ports ∙ ap (λ (h : Head). h.ports) c.head.ensures.head) in
    let devices : List (List ℕ) → List FlatDevice = λ (k : List (List ℕ)). flat_devices k subs DEPTH top_place cell.cards in
    let given = flat_devices scene.rails.now.keys scene.subs.now DEPTH top_place cell.cards in
    let same : first_clash (map (λ n. net (top_net n)) (codes "0" ∷ scene.rails.now.keys ++ scene.own.now.keys)) (flat_map bearers given) ≡ clash_in rails cell.head.ports (devices rails) =
    clash_same scene.rails.now.keys scene.own.now.keys rails cell.head.ports (flat_map bearers given) (plain_differ scene.rails.now.keys scene.subs.now DEPTH cell.cards c.requires.names) rails_once ports
    ∙ ap (λ m. clash_in rails cell.head.ports (flat_devices scene.rails.now.keys m DEPTH top_place cell.cards)) c.scene-scene.ensures.subs
    ∙ ap (λ (k : List (List ℕ)). clash_in rails cell.head.ports (devices k)) known in
    record {
      clash = subst (λ w. IfOk c.clash_of_cards.result (λ name. option_map name_clash name ≡ w)) same c.clash_of_cards.ensures.clash;
    }
