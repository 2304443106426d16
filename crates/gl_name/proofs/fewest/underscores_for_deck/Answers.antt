use Rattle.std.proofs.Common.{◌≡◌, ap, ◌∙◌, ℕ, List, arith, map}
use Rattle.std.specs.Prelude.{max}
use Rattle.gl_text.specs.Flattening.{flat_card, top_ports}
use Rattle.gl_base.specs.BaseCircuit.{nets_of}
use Rattle.gl_flat.specs.Kept.{KeptDevice}
use Rattle.gl_name.specs.Needs.{need_of_names}
use Rattle.gl_name.proofs.NamesLaws.{card_names, names_of_cards, need_parts}
use Rattle.gl_name.proofs.fewest.underscores_for_deck.Goals as goal

pub returns-in-Some : goal.returns-in-Some
returns-in-Some c =
    let f = c.args.flat.now in
    let names = card_names f.devices in
    let nets = nets_of (map flat_card f.devices) in
    let named : map (λ (d : KeptDevice). d.name) c.devices.result.now ≡ names = c.devices.ensures.names ∙ names_of_cards f.devices in
    let d : c.underscores_for_devices-devices.result ≡ max 0 (need_of_names names) = c.underscores_for_devices-devices.ensures.needed ∙ ap (λ (ns : List (List ℕ)). max 0 (need_of_names ns)) named in
    let items : c.items.result.now ≡ nets = c.items.ensures.items ∙ c.nets.ensures.nets in
    let n : c.underscores_for_names-nets.result ≡ max c.underscores_for_devices-devices.result (need_of_names nets) = c.underscores_for_names-nets.ensures.needed ∙ ap (λ (ns : List (List ℕ)). max c.underscores_for_devices-devices.result (need_of_names ns)) items in
    let r : c.underscores_for_names-rails.result ≡ max c.underscores_for_names-nets.result (need_of_names f.rails) = c.underscores_for_names-rails.ensures.needed ∙ ap (λ ns. max c.underscores_for_names-nets.result (need_of_names ns)) c.rails.ensures.rails in
    let top : c.ports.result.now ≡ top_ports f.top = c.ports.ensures.ports ∙ ap top_ports c.in-Some.ensures.top in
    let p : c.underscores_for_names.result ≡ max c.underscores_for_names-rails.result (need_of_names (top_ports f.top)) = c.underscores_for_names.ensures.needed ∙ ap (λ ns. max c.underscores_for_names-rails.result (need_of_names ns)) top in
    let all : c.underscores_for_names.result ≡ max (max (max (max 0 (need_of_names names)) (need_of_names nets)) (need_of_names f.rails)) (need_of_names (top_ports f.top)) =
    p ∙ ap (λ m. max m (need_of_names (top_ports f.top))) (r ∙ ap (λ m. max m (need_of_names f.rails)) (n ∙ ap (λ m. max m (need_of_names nets)) d)) in
    record { needed = all ∙ need_parts names nets f.rails (top_ports f.top) }

pub returns-in-None : goal.returns-in-None
returns-in-None c =
    let f = c.args.flat.now in
    let names = card_names f.devices in
    let nets = nets_of (map flat_card f.devices) in
    let named : map (λ (d : KeptDevice). d.name) c.devices.result.now ≡ names = c.devices.ensures.names ∙ names_of_cards f.devices in
    let d : c.underscores_for_devices-devices.result ≡ max 0 (need_of_names names) = c.underscores_for_devices-devices.ensures.needed ∙ ap (λ (ns : List (List ℕ)). max 0 (need_of_names ns)) named in
    let items : c.items.result.now ≡ nets = c.items.ensures.items ∙ c.nets.ensures.nets in
    let n : c.underscores_for_names-nets.result ≡ max c.underscores_for_devices-devices.result (need_of_names nets) = c.underscores_for_names-nets.ensures.needed ∙ ap (λ (ns : List (List ℕ)). max c.underscores_for_devices-devices.result (need_of_names ns)) items in
    let r : c.underscores_for_names-rails.result ≡ max c.underscores_for_names-nets.result (need_of_names f.rails) = c.underscores_for_names-rails.ensures.needed ∙ ap (λ ns. max c.underscores_for_names-nets.result (need_of_names ns)) c.rails.ensures.rails in
    let none : 0 ≡ need_of_names (top_ports f.top) = ap (λ top. need_of_names (top_ports top)) c.in-None.ensures.top in
    let all : c.underscores_for_names-rails.result ≡ max (max (max (max 0 (need_of_names names)) (need_of_names nets)) (need_of_names f.rails)) (need_of_names (top_ports f.top)) =
    omega (arith, none, r ∙ ap (λ m. max m (need_of_names f.rails)) (n ∙ ap (λ m. max m (need_of_names nets)) d)) in
    record { needed = all ∙ need_parts names nets f.rails (top_ports f.top) }
