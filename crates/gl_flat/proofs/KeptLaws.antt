-- What may clash, seen one after the other.
use Rattle.std.proofs.Common.{◌≡◌, ◌<◌, ◌+◌, ℕ, List, [], ◌∷◌, ◌++◌, length, take, get_or, Option, Ok, refl, sym, ap, ◌∙◌, subst, map, filter, flat_map}
use Rattle.std.proofs.lemmas.List.Elements.{filter-append}
use Rattle.gl_text.specs.LogicalLines.{Fault}
use Rattle.gl_text.specs.Flattening.{Net, Bearer, net, top_net}
use Rattle.gl_fault.specs.Refusals.{IsRefusal}
use Rattle.gl_flat.specs.SeenNames.{Seen, may_clash, seen_all}
use Rattle.gl_flat.proofs.SeenLaws.{as_list, single, item_added, item_refused}

abbrev kept : List Bearer → List Bearer
kept bs = filter may_clash bs

spread : {X : Type 0} (f : X → List Bearer) (xs : List X) → kept (flat_map f xs) ≡ flat_map (λ x. kept (f x)) xs
spread f [] = refl
spread f (x ∷ xs) = filter-append may_clash (f x) (flat_map f xs) ∙ ap (λ t. kept (f x) ++ t) (spread f xs)

-- the item at an index is added
pub kept_added : {X : Type 0} (f : X → List Bearer) (xs : List X) (i : ℕ) (x : X) (s t u : Seen) → i < length xs → x ≡ get_or xs i x → seen_all s (filter may_clash (flat_map f (take i xs))) ≡ Ok t
    → seen_all t (filter may_clash (f x)) ≡ Ok u → seen_all s (filter may_clash (flat_map f (take (i + 1) xs))) ≡ Ok u
kept_added f xs i x s t u lt e g h =
    ap (seen_all s) (spread f (take (i + 1) xs)) ∙ item_added (λ x. kept (f x)) xs i x s t u lt e (ap (seen_all s) (sym (spread f (take i xs))) ∙ g) h

-- or refused
pub kept_refused : {X : Type 0} (o : Option Fault) (f : X → List Bearer) (xs : List X) (i : ℕ) (x : X) (s t : Seen) → i < length xs → x ≡ get_or xs i x → seen_all s (filter may_clash (flat_map f (take i xs))) ≡ Ok t
    → IsRefusal o (seen_all t (filter may_clash (f x))) → IsRefusal o (seen_all s (filter may_clash (flat_map f xs)))
kept_refused o f xs i x s t lt e g h =
    subst (λ bs. IsRefusal o (seen_all s bs)) (sym (spread f xs)) (item_refused o (λ x. kept (f x)) xs i x s t lt e (ap (seen_all s) (sym (spread f (take i xs))) ∙ g) h)

-- ---- the same of nets

pub net_kept : (ns : List Net) (i : ℕ) (n : Net) (s t u : Seen) → i < length ns → n ≡ get_or ns i n → seen_all s (filter may_clash (map net (take i ns))) ≡ Ok t → seen_all t (filter may_clash (net n ∷ [])) ≡ Ok u
    → seen_all s (filter may_clash (map net (take (i + 1) ns))) ≡ Ok u
net_kept ns i n s t u lt e g h =
    ap (λ bs. seen_all s (kept bs)) (sym (single (take (i + 1) ns))) ∙ kept_added as_list ns i n s t u lt e (ap (λ bs. seen_all s (kept bs)) (single (take i ns)) ∙ g) h

pub net_not_kept : (o : Option Fault) (ns : List Net) (i : ℕ) (n : Net) (s t : Seen) → i < length ns → n ≡ get_or ns i n → seen_all s (filter may_clash (map net (take i ns))) ≡ Ok t
    → IsRefusal o (seen_all t (filter may_clash (net n ∷ []))) → IsRefusal o (seen_all s (filter may_clash (map net ns)))
net_not_kept o ns i n s t lt e g h =
    subst (λ bs. IsRefusal o (seen_all s (kept bs))) (single ns) (kept_refused o as_list ns i n s t lt e (ap (λ bs. seen_all s (kept bs)) (single (take i ns)) ∙ g) h)

-- ---- and of nets of the top by their names

abbrev of_top : List ℕ → List Bearer
of_top name = net (top_net name) ∷ []

tops : (names : List (List ℕ)) → flat_map of_top names ≡ map net (map top_net names)
tops [] = refl
tops (n ∷ ns) = ap (λ t. net (top_net n) ∷ t) (tops ns)

pub top_kept : (names : List (List ℕ)) (i : ℕ) (name : List ℕ) (m : Net) (s t u : Seen) → i < length names → name ≡ get_or names i name → m ≡ top_net name
    → seen_all s (filter may_clash (map net (map top_net (take i names)))) ≡ Ok t → seen_all t (filter may_clash (net m ∷ [])) ≡ Ok u → seen_all s (filter may_clash (map net (map top_net (take (i + 1) names)))) ≡ Ok u
top_kept names i name m s t u lt e is g h =
    ap (λ bs. seen_all s (kept bs)) (sym (tops (take (i + 1) names)))
    ∙ kept_added of_top names i name s t u lt e (ap (λ bs. seen_all s (kept bs)) (tops (take i names)) ∙ g) (ap (λ n. seen_all t (kept (net n ∷ []))) (sym is) ∙ h)

pub top_not_kept : (o : Option Fault) (names : List (List ℕ)) (i : ℕ) (name : List ℕ) (m : Net) (s t : Seen) → i < length names → name ≡ get_or names i name → m ≡ top_net name
    → seen_all s (filter may_clash (map net (map top_net (take i names)))) ≡ Ok t → IsRefusal o (seen_all t (filter may_clash (net m ∷ []))) → IsRefusal o (seen_all s (filter may_clash (map net (map top_net names))))
top_not_kept o names i name m s t lt e is g h =
    subst (λ bs. IsRefusal o (seen_all s (kept bs))) (tops names)
    (kept_refused o of_top names i name s t lt e (ap (λ bs. seen_all s (kept bs)) (tops (take i names)) ∙ g) (subst (λ n. IsRefusal o (seen_all t (kept (net n ∷ [])))) is h))
