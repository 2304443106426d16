-- The lines of kept devices are those of the flat devices that they are.
use Rattle.std.proofs.Common.{◌≡◌, ℕ, List, [], ◌∷◌, ◌++◌, refl, sym, ap, ◌∙◌, map}
use Rattle.std.specs.Prelude.{flat_map}
use Rattle.gl_text.specs.Cards.{Device as Card, dev}
use Rattle.gl_text.specs.Decks.{line_of}
use Rattle.gl_text.specs.Flattening.{flat_line}
use Rattle.gl_text.specs.PlainFlats.{plain_device}
use Rattle.gl_flat.specs.Kept.{KeptDevice, kept_card, device_line}
use Rattle.gl_flat.proofs.PlainLaws.{card_stays}

pub lines_kept : (nets : List (List ℕ)) (devices : List KeptDevice) → flat_map (device_line nets) devices ≡ flat_map flat_line (map plain_device (map (kept_card nets) devices))
lines_kept nets [] = refl
lines_kept nets (d ∷ ds) =
    ap (λ (c : Card). line_of (dev c) ++ flat_map (device_line nets) ds) (sym (card_stays (kept_card nets d)))
    ∙ ap (λ t. flat_line (plain_device (kept_card nets d)) ++ t) (lines_kept nets ds)
