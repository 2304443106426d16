-- The rails of a run, and the numbers of nets.
use Rattle.std.proofs.Common.{◌≡◌, ℕ, List, [], ◌++◌, true, false, Bool, Some, ap, ◌∙◌}
use Rattle.std.specs.Prelude.{not, Contains, filter, slice_get, flat_map}
use Rattle.std.proofs.lemmas.Bool.{false_from_ne_true, not-true}
use Rattle.gl_lists.proofs.Once.{Once, once_filter}
use Rattle.gl_lists.proofs.Membership.{from_filter, in_flat_map}
use Rattle.gl_text.specs.LogicalLines.{same_text}
use Rattle.gl_text.specs.Cards.{Device as Card}
use Rattle.gl_text.specs.Decks.{is_in, once}
use Rattle.gl_base.specs.Rails.{zero_rail, all_rails, run_rails, AreRails}
use Rattle.gl_base.specs.BaseCircuit.{nets_of, net_number}
use Rattle.gl_lists.proofs.EachOnce.{there, found, place_within, place_back}
pub use Rattle.gl_text.proofs.Names.{exact, itself, once_is, once_from, never_twice, each_once, names_differ, names_stay, names_were, names_fewer}
use Rattle.std.proofs.lemmas.Option.{slice_get-get_or}
pub use Rattle.std.proofs.lemmas.Option.{slice_get-get_or as get_at}

-- the rails of a run differ, and `0` is none of them
pub rails_are : (deck library : List (List ℕ)) → AreRails (run_rails deck library)
rails_are deck library =
    let keep : List ℕ → Bool = λ name. not (same_text name zero_rail) in
    record {
      differ = never_twice (filter keep (once (deck ++ library))) (once_filter keep (once (deck ++ library)) (each_once (deck ++ library)));
      no_zero = false_from_ne_true (is_in zero_rail (run_rails deck library)) (λ t.
          let r = (from_filter keep (once (deck ++ library)) zero_rail (there same_text exact itself (run_rails deck library) zero_rail t)).1 in
          let off : same_text zero_rail zero_rail ≡ false = not-true (same_text zero_rail zero_rail) r in
          let on : same_text zero_rail zero_rail ≡ true = itself zero_rail in
          absurd cc);
    }

-- rails that differ and are not `0`, with `0` before them
pub rails_once : (rails : List (List ℕ)) → AreRails rails → Once (all_rails rails)
rails_once rails are = (
  (λ h. let on : is_in zero_rail rails ≡ true = found same_text exact itself rails zero_rail h in let off : is_in zero_rail rails ≡ false = are.no_zero in absurd cc),
  once_from rails are.differ,
)

-- the name of a node of a device is among the nets
pub node_is_net : (devices : List Card) (card : Card) (name : List ℕ) → Contains devices card → Contains card.nodes name → Contains (nets_of devices) name
node_is_net devices card name h g = names_stay (flat_map (λ (d : Card). d.nodes) devices) name (in_flat_map (λ (d : Card). d.nodes) devices card name h g)

-- the number of a node's net leads back to its name
pub numbers_lead_back : (devices : List Card) (card : Card) (name : List ℕ) → Contains devices card → Contains card.nodes name → slice_get (nets_of devices) (net_number (nets_of devices) name) ≡ Some name
numbers_lead_back devices card name h g =
    let nets = nets_of devices in
    let in_nets = node_is_net devices card name h g in
    slice_get-get_or nets (net_number nets name) [] (place_within same_text exact itself nets name in_nets)
    ∙ ap Some (place_back same_text exact itself nets name [] in_nets)
