-- The devices among the cards of a cell.
use Rattle.std.proofs.Common.{◌≡◌, ◌+◌, ◌<◌, ◌≤◌, ℕ, List, [], ◌∷◌, ◌++◌, length, get_or, drop, append_assoc, sym, ap, ◌∙◌}
use Rattle.std.proofs.lemmas.List.{append-nil, drop_more, drop_all}
use Rattle.std.proofs.lemmas.List.Elements.{filter_map-append}
use Rattle.gl_text.specs.Cards.{Device as Card}
use Rattle.gl_text.specs.CellCards.{device_in, devices_in}
use Rattle.gl_deck.specs.declared.body.Body.{Body}
use Rattle.gl_deck.specs.Bodies.{body_value, bodies_value}

-- one step of a loop over cards
pub cards_step : (old new whole : List Card) (cards : List Body) (i : ℕ) (c : Body) → i < length cards → c ≡ get_or cards i c → new ≡ old ++ devices_in (body_value c ∷ []) → old ++ devices_in (bodies_value (drop i cards)) ≡ whole → new ++ devices_in (bodies_value (drop (i + 1) cards)) ≡ whole
cards_step old new whole cards i c lt c_is new_is before =
    let rest = drop (i + 1) cards in
    let split : drop i cards ≡ c ∷ rest = drop_more cards i c lt ∙ ap (λ d. d ∷ rest) (sym c_is) in
    ap (λ cs. cs ++ devices_in (bodies_value rest)) new_is
    ∙ append_assoc old (devices_in (body_value c ∷ [])) (devices_in (bodies_value rest))
    ∙ ap (λ cs. old ++ cs) (sym (filter_map-append device_in (body_value c ∷ []) (bodies_value rest)))
    ∙ ap (λ bs. old ++ devices_in (bodies_value bs)) (sym split)
    ∙ before

-- at its end
pub cards_done : (found whole : List Card) (cards : List Body) (i : ℕ) → length cards ≤ i → found ++ devices_in (bodies_value (drop i cards)) ≡ whole → found ≡ whole
cards_done found whole cards i past e = sym (append-nil found) ∙ ap (λ bs. found ++ devices_in (bodies_value bs)) (sym (drop_all i cards past)) ∙ e
