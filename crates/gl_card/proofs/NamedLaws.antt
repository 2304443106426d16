-- The device of a letter, by its names.
use Rattle.std.proofs.Common.{◌≡◌, ℕ, List, [], ◌∷◌, take, drop, refl, ap, ◌∙◌}
use Rattle.gl_text.specs.Cards as cards
use Rattle.gl_text.specs.Cards.{first_byte, first_or}
use Rattle.gl_card.specs.declared.letter.Letter.{Letter}
use Rattle.gl_card.specs.declared.letter.Letter.TheVariants.{M, D, R, C, L, V, I}
use Rattle.gl_card.specs.Letters.{byte_of}
use Rattle.gl_card.specs.Kinds.{nodes_of, count_of}
use Rattle.gl_card.specs.Named.{nodes_by, device_by}
use Rattle.gl_card.proofs.PartLaws.{device_is}

nodes_at : (l : Letter) → nodes_by (byte_of l) ≡ nodes_of l
nodes_at M = refl
nodes_at D = refl
nodes_at R = refl
nodes_at C = refl
nodes_at L = refl
nodes_at V = refl
nodes_at I = refl

first_stays : (l : Letter) (all : List (List ℕ)) → first_or [] (take (count_of l) all) ≡ first_or [] all
first_stays M [] = refl
first_stays M (x ∷ xs) = refl
first_stays D [] = refl
first_stays D (x ∷ xs) = refl
first_stays R [] = refl
first_stays R (x ∷ xs) = refl
first_stays C [] = refl
first_stays C (x ∷ xs) = refl
first_stays L [] = refl
first_stays L (x ∷ xs) = refl
first_stays V [] = refl
first_stays V (x ∷ xs) = refl
first_stays I [] = refl
first_stays I (x ∷ xs) = refl

-- the first of the names that are kept begins with the letter
pub first_kept : (l : Letter) (names all : List (List ℕ)) → names ≡ take (count_of l) all → first_byte (first_or [] all) ≡ byte_of l → first_byte (first_or [] names) ≡ byte_of l
first_kept l names all e h = ap (λ ns. first_byte (first_or [] ns)) e ∙ ap first_byte (first_stays l all) ∙ h

-- a device by the names that are kept is the card of its kind
pub device_kept : (l : Letter) (names all : List (List ℕ)) (tail tail' text : List ℕ) → names ≡ take (count_of l) all → first_byte (first_or [] all) ≡ byte_of l → tail ≡ tail'
    → cards.dev (device_by names tail) ≡ cards.card_by (cards.device (nodes_of l) (count_of l)) (take (count_of l) all) tail' text
device_kept l names all tail tail' text e h t =
    let count : nodes_by (first_byte (first_or [] names)) ≡ nodes_of l = ap nodes_by (first_kept l names all e h) ∙ nodes_at l in
    let nodes = ap (λ n. take n (drop 1 names)) count ∙ ap (λ ns. take (nodes_of l) (drop 1 ns)) e in
    let model = ap (λ n. cards.front (drop n (drop 1 names))) count ∙ ap (λ ns. cards.front (drop (nodes_of l) (drop 1 ns))) e in
    device_is _ _ _ _ _ _ _ _ (ap (first_or []) e) nodes model t
