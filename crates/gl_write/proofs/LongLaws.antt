-- Names of a lifted deck's subcircuits, and which of them are too long.
use Rattle.std.proofs.Common.{◌≡◌, ℕ, List, [], ◌∷◌, ◌++◌, length, map, Option, Some, None, suc, refl, sym, ap, ◌∙◌, arith}
use Rattle.gl_base.specs.Rounds.{cards_of}
use Rattle.std.specs.Prelude.{zip, option_map, option_to_list}
use Rattle.std.proofs.lemmas.List.{map-append}
use Rattle.gl_text.specs.Cards.{Head}
use Rattle.gl_text.specs.Decks.{Body, Sub}
use Rattle.gl_text.specs.Flattening.{Flat}
use Rattle.gl_printed.specs.FlatDecks.{subs_around}
use Rattle.gl_base.specs.BaseCircuit.{Source}
use Rattle.gl_lifting.specs.Replacement.{Slot}
use Rattle.gl_lifting.specs.Variants.{Variant, Variants, names_behind, variant_names}
use Rattle.gl_lifting.specs.LiftedDecks.{variant_sub, slot_card, top_name}
use Rattle.gl_write.proofs.DeckLaws.{lifted_by}

-- as many names as variants
names_many : (top : Option (List ℕ)) (before vs : List Variant) → length (names_behind top before vs) ≡ length vs
names_many top before [] = refl
names_many top before (v ∷ vs) = ap suc (names_many top (before ++ v ∷ []) vs)

-- the names of subcircuits under names
named_subs : (s : Source) (all names : List (List ℕ)) (vs : List Variant) → length names ≡ length vs → map (λ (x : Sub). x.head.name) (map (variant_sub s all) (zip names vs)) ≡ names
named_subs s all [] vs e = refl
named_subs s all (n ∷ names) [] e = absurd (omega (arith, e))
named_subs s all (n ∷ names) (v ∷ vs) e = ap (λ ns. n ∷ ns) (named_subs s all names vs (omega (arith, e)))

-- the top's name, if it stands around the cards
named_top : (top : Option Head) (cards : List Body) → map (λ (x : Sub). x.head.name) (subs_around top cards) ≡ option_to_list (option_map (λ (h : Head). h.name) top)
named_top None cards = refl
named_top (Some head) cards = refl

-- the names of the variants and that of the top are those of the deck's subcircuits
pub names_are : (stem : List ℕ) (flat : Flat) (s : Source) (vs : Variants) (slots : List Slot)
    → variant_names (top_name flat) vs.different ++ option_to_list (top_name flat) ≡ map (λ (x : Sub). x.head.name) (lifted_by stem flat s vs slots).subs
names_are stem flat s vs slots =
    let names = variant_names (top_name flat) vs.different in
    let cards = map (slot_card stem (cards_of flat) names vs.numbers) slots in
    let name : Sub → List ℕ = λ (x : Sub). x.head.name in
    let subs = map (variant_sub s names) (zip names vs.different) in
    sym (map-append name subs (subs_around flat.top cards)
    ∙ ap (λ (ns : List (List ℕ)). ns ++ map name (subs_around flat.top cards)) (named_subs s names names vs.different (names_many (top_name flat) [] vs.different))
    ∙ ap (λ (ns : List (List ℕ)). names ++ ns) (named_top flat.top cards))
