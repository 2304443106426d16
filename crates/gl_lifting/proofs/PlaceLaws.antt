-- Nets of a place: what cards of a composite see goes where the composite has it, and so it is inside each X card.
use Rattle.std.proofs.Common.{◌≡◌, ◌∙◌, ℕ, List, [], ◌∷◌, map, cond, Bool, Option, Some, None, refl, ap, ap₂, inl, inr}
use Rattle.std.specs.Prelude.{Contains, find, zip}
use Rattle.std.specs.Option.{unwrap_or, option_map}
use Rattle.std.proofs.lemmas.Bool.{cases_Bool}
use Rattle.gl_match.proofs.Lists.{in_head, in_tail}
use Rattle.gl_text.specs.LogicalLines.{same_text}
use Rattle.gl_text.specs.Cards.{Call}
use Rattle.gl_text.specs.Decks.{Sub}
use Rattle.gl_text.specs.Flattening.{Net, Place, actual, net_of, inside}
use Rattle.gl_base.proofs.TextLaws.{exact}
use Rattle.gl_lifting.specs.Pairing.{IsMet}

module _ {X : Type 0} (old : Net → X) (image : List ℕ → X) where
  head_is : (a b : X) (xs ys : List X) → a ∷ xs ≡ b ∷ ys → a ≡ b
  head_is a b xs ys e = cc

  tail_is : (a b : X) (xs ys : List X) → a ∷ xs ≡ b ∷ ys → xs ≡ ys
  tail_is a b xs ys e = cc

  -- what a port or else another net goes to
  port_is : (ports : List (List ℕ × Net)) (name : List ℕ) (other : Net) → map (λ (p : List ℕ × Net). old p.1) ports ≡ map (λ (p : List ℕ × Net). image p.0) ports → (actual ports name ≡ None → old other ≡ image name) → old (unwrap_or (actual ports name) other) ≡ image name
  port_is [] name other same none = none refl
  port_is (p ∷ ps) name other same none =
      let olds : List X = map (λ (q : List ℕ × Net). old q.1) ps in
      let images : List X = map (λ (q : List ℕ × Net). image q.0) ps in
      elim (cases_Bool (same_text p.0 name)) [
        | inl on ↦ ap (λ b. old (by other (cond b (Some p) (find (tried name) ps)))) on ∙ head_is (old p.1) (image p.0) olds images same ∙ ap image (exact p.0 name on)
        | inr off ↦ ap (λ b. old (by other (cond b (Some p) (find (tried name) ps)))) off
            ∙ port_is ps name other (tail_is (old p.1) (image p.0) olds images same) (λ e. none (ap (λ b. option_map (λ (q : List ℕ × Net). q.1) (cond b (Some p) (find (tried name) ps))) off ∙ e))
      ]
    where
      tried : List ℕ → List ℕ × Net → Bool
      tried x q = same_text q.0 x

      by : Net → Option (List ℕ × Net) → Net
      by o r = unwrap_or (option_map (λ (q : List ℕ × Net). q.1) r) o

  -- a name of the cell goes where the composite has it
  pub name_is : (rails : List (List ℕ)) (place : Place) (names : List (List ℕ)) → IsMet old image rails place names → (name : List ℕ) → Contains names name → old (net_of rails place name) ≡ image name
  name_is rails place names met name h = port_is place.ports name (net_of rails (record { path = place.path; ports = [] }) name) met.ports (met.others name h)

  -- and so do the nodes of a card
  pub nodes_are : (rails : List (List ℕ)) (place : Place) (names : List (List ℕ)) → IsMet old image rails place names → (nodes : List (List ℕ)) → ((name : List ℕ) → Contains nodes name → Contains names name) → map old (map (net_of rails place) nodes) ≡ map image nodes
  nodes_are rails place names met [] h = refl
  nodes_are rails place names met (n ∷ ns) h = ap₂ (λ x xs. x ∷ xs) (name_is rails place names met n (h n (in_head n ns))) (nodes_are rails place names met ns (λ x k. h x (in_tail n ns x k)))

-- ports beside their actual nets
pub beside_ports : {X : Type 0} (old : Net → X) (inner : List ℕ → X) (ports : List (List ℕ)) (nets : List Net) → map old nets ≡ map inner ports → map (λ (p : List ℕ × Net). old p.1) (zip ports nets) ≡ map (λ (p : List ℕ × Net). inner p.0) (zip ports nets)
beside_ports old inner [] nets e = refl
beside_ports old inner (p ∷ ps) [] e = refl
beside_ports {X} old inner (p ∷ ps) (n ∷ ns) e = ap₂ (λ (x : X) (xs : List X). x ∷ xs) (first (old n) (inner p) (map old ns) (map inner ps) e) (beside_ports old inner ps ns (rest (old n) (inner p) (map old ns) (map inner ps) e)) where
  first : (a b : X) (xs ys : List X) → a ∷ xs ≡ b ∷ ys → a ≡ b
  first a b xs ys f = cc

  rest : (a b : X) (xs ys : List X) → a ∷ xs ≡ b ∷ ys → xs ≡ ys
  rest a b xs ys f = cc

-- inside an X card whose nodes go where the called composite has its ports, ports go where it has them
pub inside_ports : {X : Type 0} (old : Net → X) (image inner : List ℕ → X) (rails : List (List ℕ)) (place : Place) (names : List (List ℕ)) (call : Call) (sub : Sub) → IsMet old image rails place names → ((name : List ℕ) → Contains call.nodes name → Contains names name) → map image call.nodes ≡ map inner sub.head.ports
    → map (λ (p : List ℕ × Net). old p.1) (inside rails place call sub).ports ≡ map (λ (p : List ℕ × Net). inner p.0) (inside rails place call sub).ports
inside_ports old image inner rails place names call sub met h same = beside_ports old inner sub.head.ports (map (net_of rails place) call.nodes) (nodes_are old image rails place names met call.nodes h ∙ same)
