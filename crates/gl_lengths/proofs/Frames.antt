-- The text of a flat deck is as long as that of its frame and the lines of its devices, in whatever order; so the flattened lifted deck's is told by the original one.
use Rattle.std.proofs.Common.{◌≡◌, ◌∙◌, ◌+◌, ℕ, List, [], ◌++◌, length, length-append, Option, None, Some, refl, sym, ap, arith}
use Rattle.std.specs.Prelude.{flat_map, IsPermutation}
use Rattle.std.proofs.lemmas.List.{length-map}
use Rattle.std.proofs.lemmas.List.Concat.{length-flat_map}
use Rattle.std.proofs.lemmas.List.Folds.{flat_map-map}
use Rattle.std.proofs.lemmas.List.Sorted.{sum_by-IsPermutation}
use Rattle.gl_text.specs.Cards.{Device as Card, Head, dev, ended}
use Rattle.gl_text.specs.Decks.{line_of, head_line, ends_line, passed_line}
use Rattle.gl_text.specs.Flattening.{Flat, around, flat_card, flat_line, flat_text}
use Rattle.gl_text.proofs.Names.{once_from}
use Rattle.gl_base.specs.BaseCircuit.{nets_of}
use Rattle.gl_base.specs.Rounds.{cards_of}
use Rattle.gl_lifting.specs.Runs.{Run}
use Rattle.gl_lifting.specs.Histories.{History}
use Rattle.gl_lifting.specs.LiftedDecks.{lifted_deck}
use Rattle.gl_lifting.specs.NameMaps.{NameMap, map_of}
use Rattle.gl_lifting.specs.OutLimits.{lifted_flat}
use Rattle.gl_lifting.specs.Renaming.{old_names, new_names, names_of_devices}
use Rattle.gl_lifting.specs.FewerLinks.{HasAsMany}
use Rattle.gl_lifting.specs.Counting.{IsPaired, HasOnceNames, HasNewCards, HasNewLength, new_card, new_cards}
use Rattle.gl_lengths.proofs.Permuted.{permuted}

-- ---- frames

-- a text between two others
between : (a t e : List ℕ) → length ((a ++ t) ++ e) ≡ length ((a ++ []) ++ e) + length t
between a t e = omega (arith, length-append (a ++ t) e, length-append a t, length-append (a ++ []) e, length-append a [])

around_length : (top : Option Head) (t : List ℕ) → length (around top t) ≡ length (around top []) + length t
around_length None t = omega arith
around_length (Some h) t = between (head_line h) t (ends_line h.name)

-- a text inside the top, between what stands before and behind it
framed : (x p e : List ℕ) (top : Option Head) (t : List ℕ) → length (((x ++ around top t) ++ p) ++ e) ≡ length (((x ++ around top []) ++ p) ++ e) + length t
framed x p e top t =
    let a = length-append ((x ++ around top t) ++ p) e in
    let b = length-append (x ++ around top t) p in
    let c = length-append x (around top t) in
    let f = length-append ((x ++ around top []) ++ p) e in
    let g = length-append (x ++ around top []) p in
    let h = length-append x (around top []) in
    omega (arith, a, b, c, f, g, h, around_length top t)

-- ---- lines

-- the line of a device
abbrev card_line : Card → List ℕ
card_line c = line_of (dev c)

-- lines in another order are as long
lines_permuted : (new there : List Card) → IsPermutation new there → length (flat_map card_line there) ≡ length (flat_map card_line new)
lines_permuted new there p = length-flat_map card_line there ∙ sum_by-IsPermutation (λ c. length (card_line c)) new there p ∙ sym (length-flat_map card_line new)

-- the text of a flat deck whose devices are these cards in some order
pub text_length : (f : Flat) (new : List Card) → IsPermutation new (cards_of f) → length (flat_text f) ≡ length (flat_text (record (f) { devices = [] })) + length (flat_map card_line new)
text_length f new p =
    framed _ (flat_map passed_line f.passed) (line_of ended) f.top (flat_map flat_line f.devices)
    ∙ ap (λ (n : ℕ). length (flat_text (record (f) { devices = [] })) + n) (ap length (sym (flat_map-map card_line flat_card f.devices)) ∙ lines_permuted new (cards_of f) p)

-- ---- the flattened lifted deck

-- where its devices are as many as the original ones, are paired with these, have a name each, and are these under their new names
pub length_told : (flat : Flat) (run : Run) (h : History) (stem : List ℕ) → HasAsMany flat run h stem → IsPaired flat run h stem → HasNewCards flat run h stem → HasOnceNames flat run h stem
    → old_names (map_of stem flat run.source h).devices ≡ names_of_devices flat → HasNewLength flat run h stem
length_told flat run h stem many paired stand differ olds =
    let m : NameMap = map_of stem flat run.source h in
    let f : Flat = lifted_flat flat.top (lifted_deck stem flat run.source h) in
    let cards = cards_of flat in
    let news : length (new_names m.devices) ≡ length cards = length-map m.devices (λ (n : List ℕ × List ℕ). n.0) ∙ sym (length-map m.devices (λ (n : List ℕ × List ℕ). n.1)) ∙ ap length olds ∙ length-map cards (λ (c : Card). c.name) in
    let theirs : length (cards_of f) ≡ length cards = length-map f.devices flat_card ∙ many ∙ sym (length-map flat.devices flat_card) in
    text_length f (new_cards m flat) (permuted (new_card m (nets_of cards)) (λ z. refl) (new_names m.devices) cards (cards_of f) news theirs (once_from (names_of_devices f) differ) stand paired.known)
