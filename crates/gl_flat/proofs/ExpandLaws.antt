-- The flat devices of cards, one card after the other.
use Rattle.std.proofs.Common.{◌≡◌, ◌<◌, ◌+◌, ℕ, zero, suc, List, [], ◌∷◌, ◌++◌, length, take, get_or, sym, ap, ◌∙◌, append_assoc}
use Rattle.std.proofs.lemmas.Grind.{flat_map-append}
use Rattle.std.proofs.lemmas.List.{take_more, map-append}
use Rattle.gl_text.specs.Decks as decks
use Rattle.gl_text.specs.Decks.{dev_at, call_at, Sub, find_sub}
use Rattle.gl_text.specs.Flattening.{FlatDevice, Place, devices_of, flat_devices}
use Rattle.gl_deck.specs.declared.body.Body.{Body}
use Rattle.gl_deck.specs.Bodies.{body_value, bodies_value}

-- cards behind cards
devices_both : (rails : List (List ℕ)) (subs : List Sub) (depth : ℕ) (place : Place) (xs ys : List decks.Body) → flat_devices rails subs depth place (xs ++ ys) ≡ flat_devices rails subs depth place xs ++ flat_devices rails subs depth place ys
devices_both rails subs zero place xs ys = flat_map-append (devices_of rails subs (λ p c. []) place) xs ys
devices_both rails subs (suc depth) place xs ys = flat_map-append (devices_of rails subs (flat_devices rails subs depth) place) xs ys

-- one card more
pub devices_more : (rails : List (List ℕ)) (subs : List Sub) (depth : ℕ) (place : Place) (cards : List Body) (i : ℕ) (card : Body) (out mid new : List FlatDevice) → i < length cards → card ≡ get_or cards i card
    → mid ≡ out ++ flat_devices rails subs depth place (bodies_value (take i cards)) → new ≡ mid ++ flat_devices rails subs depth place (bodies_value (card ∷ []))
    → new ≡ out ++ flat_devices rails subs depth place (bodies_value (take (i + 1) cards))
devices_more rails subs depth place cards i card out mid new lt is e f =
    let one = bodies_value (card ∷ []) in
    let before = bodies_value (take i cards) in
    let all : bodies_value (take (i + 1) cards) ≡ before ++ one =
    ap bodies_value (take_more cards i card lt ∙ ap (λ c. take i cards ++ c ∷ []) (sym is)) ∙ map-append body_value (take i cards) (card ∷ []) in
    f ∙ ap (λ t. t ++ flat_devices rails subs depth place one) e ∙ append_assoc out (flat_devices rails subs depth place before) (flat_devices rails subs depth place one)
    ∙ ap (λ t. out ++ t) (sym (devices_both rails subs depth place before one)) ∙ ap (λ t. out ++ flat_devices rails subs depth place t) (sym all)
