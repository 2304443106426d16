-- The types of devices, from the types that are inserted.
use Rattle.std.proofs.Common.{◌≡◌, ◌+◌, ◌<◌, ◌≤◌, ℕ, List, [], ◌∷◌, ◌++◌, length, get_or, map, drop, length-append, sym, ap, ◌∙◌, arith}
use Rattle.std.proofs.lemmas.List.{map-append, drop_more, drop_all}
use Rattle.std.proofs.lemmas.List.Sums.{fold-append}
use Rattle.indexmap.specs.IndexSet.{insert_key, insert_all}
use Rattle.gl_text.specs.Cards.{Device as Card}
use Rattle.gl_text.specs.Decks.{Sub}
use Rattle.gl_text.specs.CellCards.{devices_in}
use Rattle.gl_base.specs.TypeNames.{TypeName, same_type, each_once}
use Rattle.gl_base.proofs.OnceLaws.{length_once}
use Rattle.gl_base.proofs.TypeLaws.{once_is}
use Rattle.gl_lib.specs.Sources.{cards_of_cells}
use Rattle.gl_lib.proofs.InsertLaws.{types_inserted}

-- types into an empty set, and then others
pub kinds_inserted : (start first second some others : List TypeName) → start ≡ [] → first ≡ insert_all same_type start some → second ≡ insert_all same_type first others → second ≡ each_once (some ++ others)
kinds_inserted start first second some others empty one two =
    let both : second ≡ insert_all same_type start (some ++ others) =
    two
    ∙ ap (λ ks. insert_all same_type ks others) one
    ∙ sym (fold-append (insert_key same_type) start some others) in
    types_inserted start second (some ++ others) empty both

pub few_kinds : (kinds some others : List TypeName) (limit : ℕ) → kinds ≡ each_once (some ++ others) → length some + length others < limit → length kinds < limit
few_kinds kinds some others limit e few =
    let same : length kinds ≡ length (each_once (some ++ others)) = ap length e in
    let fewer = length_once same_type (some ++ others) in
    let once = ap length (once_is (some ++ others)) in
    omega (arith, same, once, fewer, length-append some others, few)

-- one step of a loop over cells: the types of one cell's devices go first
pub cells_step : (type : Card → TypeName) (keys new : List TypeName) (cells : List Sub) (i : ℕ) (c : Sub) (whole : List TypeName) → i < length cells → c ≡ get_or cells i c → new ≡ insert_all same_type keys (map type (devices_in c.cards))
    → insert_all same_type keys (map type (cards_of_cells (drop i cells))) ≡ whole → insert_all same_type new (map type (cards_of_cells (drop (i + 1) cells))) ≡ whole
cells_step type keys new cells i c whole lt c_is new_is before =
    let rest = drop (i + 1) cells in
    let split : drop i cells ≡ c ∷ rest = drop_more cells i c lt ∙ ap (λ d. d ∷ rest) (sym c_is) in
    ap (λ ks. insert_all same_type ks (map type (cards_of_cells rest))) new_is
    ∙ sym (fold-append (insert_key same_type) keys (map type (devices_in c.cards)) (map type (cards_of_cells rest)))
    ∙ ap (insert_all same_type keys) (sym (map-append type (devices_in c.cards) (cards_of_cells rest)))
    ∙ ap (λ cs. insert_all same_type keys (map type (cards_of_cells cs))) (sym split)
    ∙ before

-- at its end
pub cells_done : (type : Card → TypeName) (keys : List TypeName) (cells : List Sub) (i : ℕ) (whole : List TypeName) → length cells ≤ i → insert_all same_type keys (map type (cards_of_cells (drop i cells))) ≡ whole → keys ≡ whole
cells_done type keys cells i whole past e = ap (λ cs. insert_all same_type keys (map type (cards_of_cells cs))) (sym (drop_all i cells past)) ∙ e
