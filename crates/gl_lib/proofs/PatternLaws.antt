-- The pattern of a cell has no fault.
use Rattle.std.proofs.Common.{◌≡◌, ◌<◌, ℕ, List, [], ◌∷◌, length, get_or, map, take, Bool, true, false, eqb, ltb, Option, None, Some, refl, sym, ap, ◌∙◌, subst, arith, inl, inr}
use Rattle.std.specs.Prelude.{not, Contains, ◌||◌, flat_map, position, slice_get}
use Rattle.std.specs.List.{list_any, list_all}
use Rattle.std.proofs.lemmas.Bool.{or_from, or_cases, not_from_true, lt-ltb, eqb-true, eq-eqb, ne_eqb, false_from_ne_true}
use Rattle.std.proofs.lemmas.List.{length-map, get_or-take, length-take}
use Rattle.std.proofs.lemmas.List.Folds.{list_any_at, list_any_none}
use Rattle.std.proofs.lemmas.List.Elements.{Contains-get_or}
use Rattle.gl_match.proofs.Lists.{Once, get_map, in_map, from_map, from_flat_map, in_head, in_tail}
use Rattle.gl_match.proofs.Says.{all_says}
use Rattle.gl_text.specs.LogicalLines.{same_text}
use Rattle.gl_text.specs.Decks.{Body, once, is_in as text_in}
use Rattle.gl_match.specs.declared.role.Role.{Role}
use Rattle.gl_match.specs.Graph.{Device, Pattern, is_some_at, is_in}
use Rattle.gl_graph.specs.declared.fault.BuildFault.TheVariants.{BadRole, BadPort}
use Rattle.gl_graph.specs.Faults.{first_in, is_placed, is_rail_of, is_bad_role, role_fault, port_fault}
use Rattle.gl_base.specs.BaseCircuit.{net_number}
use Rattle.gl_base.specs.Libraries.{nodes_of}
use Rattle.gl_lifting.specs.Runs.{Run, card_device}
use Rattle.gl_base.specs.Patterns.{role_by}
use Rattle.gl_base.proofs.OnceLaws.{once_apart, position_back, position_there, place_within, place_back, place_at}
use Rattle.gl_text.proofs.Names as text_names
use Rattle.gl_base.proofs.TextLaws as text
use Rattle.gl_lib.proofs.FaultLaws.{no_fault, none_from_start}

any_of : {X : Type 0} (p : X → Bool) (xs : List X) (x : X) → Contains xs x → p x ≡ true → list_any p xs ≡ true
any_of p xs x h e = list_any_at p xs h.0 x h.1 (ap p h.2 ∙ e)

any_says : {X : Type 0} (p : X → Bool) (xs : List X) → list_any p xs ≡ true → (x : X) × Contains xs x × (p x ≡ true)
any_says p [] e = absurd cc
any_says p (x ∷ xs) e =
    elim (or_cases (p x) (list_any p xs) e) [
      | inl here ↦ (x, in_head x xs, here)
      | inr later ↦ let r = any_says p xs later in (r.0, in_tail x xs r.0 r.1, r.2)
    ]

-- each net stands on a device
pub placed : (run : Run) (bs : List Body) (net : ℕ) → net < length (once (flat_map nodes_of bs)) → is_placed (map (card_device run (once (flat_map nodes_of bs))) bs) net ≡ true
placed run bs net lt =
    let nets = once (flat_map nodes_of bs) in
    let name = get_or nets net [] in
    let stood = text.names_were (flat_map nodes_of bs) name (Contains-get_or nets net [] lt) in
    let r = from_flat_map nodes_of bs name stood in
    let dev : Device = card_device run nets r.0 in
    let number : net_number nets name ≡ net = place_at same_text text.exact text.itself nets net [] (text.each_once (flat_map nodes_of bs)) lt in
    any_of (λ (d : Device). is_in d.nets net) (map (card_device run nets) bs) dev (in_map (card_device run nets) bs r.0 r.1)
    (any_of (λ y. eqb y net) (map (net_number nets) (nodes_of r.0)) (net_number nets name) (in_map (net_number nets) (nodes_of r.0) name r.2) (eq-eqb (net_number nets name) net number))

rail_says : (rail : ℕ) (a b : Option ℕ) → is_rail_of rail (role_by a b) ≡ true → a ≡ Some rail
rail_says rail (Some r) b e = ap Some (eqb-true r rail e)
rail_says rail None (Some i) e = absurd cc
rail_says rail None None e = absurd cc

module _ (rails ports nets : List (List ℕ)) (once_nets : Once nets) (ports_stand : (port : List ℕ) → Contains ports port → Contains nets port) where
  -- the role of each net holds
  role_sound : (k : ℕ) → k < length nets → (a b : Option ℕ) → a ≡ position (same_text (get_or nets k [])) rails → b ≡ position (same_text (get_or nets k [])) ports
      → is_bad_role (length rails) (map (λ net. role_by (position (same_text net) rails) (position (same_text net) ports)) nets) (map (net_number nets) ports) k (role_by a b) ≡ false
  role_sound k lt (Some rail) b ra rb =
      let roles = map (λ net. role_by (position (same_text net) rails) (position (same_text net) ports)) nets in
      let mine = position_back same_text text.exact text.itself rails (get_or nets k []) [] rail (sym ra) in
      or_from (not (ltb rail (length rails))) (list_any (is_rail_of rail) (take k roles))
      (not_from_true (ltb rail (length rails)) (lt-ltb rail (length rails) mine.0))
      (list_any_none (is_rail_of rail) (take k roles) (λ j d within.
      let below : j < k = omega (arith, within, length-take k roles) in
      let f : List ℕ → Role = λ net. role_by (position (same_text net) rails) (position (same_text net) ports) in
      let read : get_or (take k roles) j d ≡ f (get_or nets j []) = get_or-take k roles j d below ∙ get_map f nets j [] d (omega (arith, below, lt)) in
      false_from_ne_true (is_rail_of rail (get_or (take k roles) j d)) (λ t.
      let its = rail_says rail (position (same_text (get_or nets j [])) rails) (position (same_text (get_or nets j [])) ports) (ap (is_rail_of rail) (sym read) ∙ t) in
      let other = position_back same_text text.exact text.itself rails (get_or nets j []) [] rail its in
      once_apart nets [] j k once_nets below lt (sym other.1 ∙ mine.1))))
  role_sound k lt None (Some port) ra rb =
      let mine = position_back same_text text.exact text.itself ports (get_or nets k []) [] port (sym rb) in
      let number : get_or (map (net_number nets) ports) port 0 ≡ k =
      get_map (net_number nets) ports port [] 0 mine.0 ∙ ap (net_number nets) mine.1 ∙ place_at same_text text.exact text.itself nets k [] once_nets lt in
      let read : slice_get (map (net_number nets) ports) port ≡ Some k =
      text.get_at (map (net_number nets) ports) port 0 (omega (arith, mine.0, length-map ports (net_number nets))) ∙ ap Some number in
      not_from_true (is_some_at k (slice_get (map (net_number nets) ports) port)) (ap (is_some_at k) read ∙ eq-eqb k k refl)
  role_sound k lt None None ra rb =
      false_from_ne_true (is_in (map (net_number nets) ports) k) (λ t.
      let r = any_says (λ y. eqb y k) (map (net_number nets) ports) t in
      let q = from_map (net_number nets) ports r.0 r.1 in
      let number : net_number nets q.0 ≡ k = q.2 ∙ eqb-true r.0 k r.2 in
      let same : q.0 ≡ get_or nets k [] = sym (place_back same_text text.exact text.itself nets q.0 [] (ports_stand q.0 q.1)) ∙ ap (λ i. get_or nets i []) number in
      let some = position_there same_text text.exact text.itself ports (get_or nets k []) (subst (λ n. Contains ports n) same q.1) in
      let none : None ≡ position (same_text (get_or nets k [])) ports = rb in
      absurd cc)

  -- no role has a fault
  pub roles_sound : (devices : List Device) → ((net : ℕ) → net < length nets → is_placed devices net ≡ true)
      → first_in (role_fault (length rails) (record { devices = devices; roles = map (λ net. role_by (position (same_text net) rails) (position (same_text net) ports)) nets; ports = map (net_number nets) ports })) 0 (map (λ net. role_by (position (same_text net) rails) (position (same_text net) ports)) nets) ≡ None
  roles_sound devices stands =
      let f : List ℕ → Role = λ net. role_by (position (same_text net) rails) (position (same_text net) ports) in
      let p : Pattern = record { devices = devices; roles = map f nets; ports = map (net_number nets) ports } in
      none_from_start (role_fault (length rails) p) (map f nets) (λ k d lt.
      let within : k < length nets = omega (arith, lt, length-map nets f) in
      let read : get_or (map f nets) k d ≡ f (get_or nets k []) = get_map f nets k [] d within in
      no_fault (not (is_placed devices k) || is_bad_role (length rails) p.roles p.ports k (get_or (map f nets) k d)) (BadRole k)
      (or_from (not (is_placed devices k)) (is_bad_role (length rails) p.roles p.ports k (get_or (map f nets) k d))
      (not_from_true (is_placed devices k) (stands k within))
      (ap (is_bad_role (length rails) p.roles p.ports k) read
      ∙ role_sound k within (position (same_text (get_or nets k [])) rails) (position (same_text (get_or nets k [])) ports) refl refl)))

  -- no port has a fault
  pub ports_sound : (count : ℕ) → count ≡ length nets → Once ports → first_in (port_fault count (map (net_number nets) ports)) 0 (map (net_number nets) ports) ≡ None
  ports_sound count count_is once_ports =
      let numbers = map (net_number nets) ports in
      let number_of : (i : ℕ) (d : ℕ) → i < length ports → get_or numbers i d ≡ net_number nets (get_or ports i []) = λ i d within. get_map (net_number nets) ports i [] d within in
      none_from_start (port_fault count numbers) numbers (λ k d lt.
      let within : k < length ports = omega (arith, lt, length-map ports (net_number nets)) in
      let stands = ports_stand (get_or ports k []) (Contains-get_or ports k [] within) in
      let small : get_or numbers k d < count = omega (arith, number_of k d within, place_within same_text text.exact text.itself nets (get_or ports k []) stands, count_is) in
      no_fault (not (ltb (get_or numbers k d) count) || is_in (take k numbers) (get_or numbers k d)) (BadPort k)
      (or_from (not (ltb (get_or numbers k d) count)) (is_in (take k numbers) (get_or numbers k d))
      (not_from_true (ltb (get_or numbers k d) count) (lt-ltb (get_or numbers k d) count small))
      (list_any_none (λ y. eqb y (get_or numbers k d)) (take k numbers) (λ j e below_length.
      let below : j < k = omega (arith, below_length, length-take k numbers) in
      let earlier : j < length ports = omega (arith, below, within) in
      ne_eqb (get_or (take k numbers) j e) (get_or numbers k d) (λ same.
      let both : net_number nets (get_or ports j []) ≡ net_number nets (get_or ports k []) = sym (number_of j e earlier) ∙ sym (get_or-take k numbers j e below) ∙ same ∙ number_of k d within in
      let back : (port : List ℕ) → Contains ports port → get_or nets (net_number nets port) [] ≡ port = λ port h. place_back same_text text.exact text.itself nets port [] (ports_stand port h) in
      once_apart ports [] j k once_ports below within
      (sym (back (get_or ports j []) (Contains-get_or ports j [] earlier)) ∙ ap (λ i. get_or nets i []) both ∙ back (get_or ports k []) (Contains-get_or ports k [] within)))))))

-- each port that stands on a card is a net
pub ports_are_nets : (bs : List Body) (ports : List (List ℕ)) → list_all (λ port. text_in port (flat_map nodes_of bs)) ports ≡ true → (port : List ℕ) → Contains ports port → Contains (once (flat_map nodes_of bs)) port
ports_are_nets bs ports all port h =
    let on : text_in port (flat_map nodes_of bs) ≡ true = ap (λ p. text_in p (flat_map nodes_of bs)) (sym h.2) ∙ all_says (λ p. text_in p (flat_map nodes_of bs)) (λ p. text_in p (flat_map nodes_of bs) ≡ true) (λ p e. e) ports all h.0 port h.1 in
    text.names_stay (flat_map nodes_of bs) port (text_names.stands port (flat_map nodes_of bs) on)
