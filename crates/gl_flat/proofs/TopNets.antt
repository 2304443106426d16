-- Nets of the top that are seen one after the other, and their numbers.
use Rattle.std.proofs.Common.{◌≡◌, ◌<◌, ◌+◌, ◌^◌, ℕ, List, [], ◌∷◌, ◌++◌, length, take, get_or, Option, Ok, sym, ap, ◌∙◌, subst, map}
use Rattle.std.proofs.lemmas.List.{get_or-map, take-map, length-map}
use Rattle.indexmap.specs.IndexSet.{insert_all}
use Rattle.gl_text.specs.LogicalLines.{Fault, same_text}
use Rattle.gl_text.specs.Flattening.{Net, net, net_name, top_net}
use Rattle.gl_base.specs.BaseCircuit.{net_number}
use Rattle.gl_fault.specs.Refusals.{IsRefusal}
use Rattle.gl_flat.specs.SeenNames.{Seen, net_names, seen_all}
use Rattle.gl_flat.proofs.SeenLaws.{net_added, net_refused}
use Rattle.gl_flat.proofs.SeenNumbers.{net_numbered, net_fits}

taken : (names : List (List ℕ)) (i : ℕ) → map top_net (take i names) ≡ take i (map top_net names)
taken names i = sym (take-map top_net i names)

below : (names : List (List ℕ)) (i : ℕ) → i < length names → i < length (map top_net names)
below names i lt = subst (λ n. i < n) (sym (length-map names top_net)) lt

at_top : (names : List (List ℕ)) (i : ℕ) (name : List ℕ) (m : Net) → i < length names → name ≡ get_or names i name → m ≡ top_net name → m ≡ get_or (map top_net names) i m
at_top names i name m lt is e = e ∙ ap top_net is ∙ sym (get_or-map top_net names i name m lt)

-- one more is added
pub top_added : (names : List (List ℕ)) (i : ℕ) (name : List ℕ) (m : Net) (s t u : Seen) → i < length names → name ≡ get_or names i name → m ≡ top_net name
    → seen_all s (map net (map top_net (take i names))) ≡ Ok t → seen_all t (net m ∷ []) ≡ Ok u → seen_all s (map net (map top_net (take (i + 1) names))) ≡ Ok u
top_added names i name m s t u lt is e g h =
    ap (λ ms. seen_all s (map net ms)) (taken names (i + 1))
    ∙ net_added (map top_net names) i m s t u (below names i lt) (at_top names i name m lt is e) (ap (λ ms. seen_all s (map net ms)) (sym (taken names i)) ∙ g) h

-- or refused
pub top_refused : (o : Option Fault) (names : List (List ℕ)) (i : ℕ) (name : List ℕ) (m : Net) (s t : Seen) → i < length names → name ≡ get_or names i name → m ≡ top_net name
    → seen_all s (map net (map top_net (take i names))) ≡ Ok t → IsRefusal o (seen_all t (net m ∷ [])) → IsRefusal o (seen_all s (map net (map top_net names)))
top_refused o names i name m s t lt is e g h =
    net_refused o (map top_net names) i m s t (below names i lt) (at_top names i name m lt is e) (ap (λ ms. seen_all s (map net ms)) (sym (taken names i)) ∙ g) h

-- its number
pub top_numbered : (s t u : Seen) (names : List (List ℕ)) (i : ℕ) (name : List ℕ) (m : Net) (old new : List ℕ) (k : ℕ) → i < length names → name ≡ get_or names i name → m ≡ top_net name
    → seen_all s (map net (map top_net (take i names))) ≡ Ok t → seen_all t (net m ∷ []) ≡ Ok u → old ≡ map (λ n. net_number (net_names t) (net_name n)) (map top_net (take i names)) → new ≡ old ++ k ∷ []
    → k ≡ net_number (net_names u) (net_name m) → new ≡ map (λ n. net_number (net_names u) (net_name n)) (map top_net (take (i + 1) names))
top_numbered s t u names i name m old new k lt is e f g o h w =
    let number : Seen → List Net → List ℕ = λ (v : Seen) (ms : List Net). map (λ n. net_number (net_names v) (net_name n)) ms in
    net_numbered s t u (map top_net names) i m old new k (below names i lt) (at_top names i name m lt is e) (ap (λ ms. seen_all s (map net ms)) (sym (taken names i)) ∙ f) g (o ∙ ap (number t) (taken names i)) h w
    ∙ ap (number u) (sym (taken names (i + 1)))

-- and there is room for it
pub top_fits : (s t : Seen) (names : List (List ℕ)) (i : ℕ) (name : List ℕ) (m : Net) → i < length names → name ≡ get_or names i name → m ≡ top_net name
    → seen_all s (map net (map top_net (take i names))) ≡ Ok t → length (insert_all same_text (net_names s) (map net_name (map top_net names))) < 2 ^ 32
    → length (insert_all same_text (net_names t) (net_name m ∷ [])) < 2 ^ 32
top_fits s t names i name m lt is e f h =
    net_fits s t (map top_net names) i m (below names i lt) (at_top names i name m lt is e) (ap (λ ms. seen_all s (map net ms)) (sym (taken names i)) ∙ f) h
