-- The text of a flat deck under new names is as long as that of the deck without devices and the lines of its devices under these.
use Rattle.std.proofs.Common.{◌≡◌, ℕ, zero, suc, ◌+◌, ◌^◌, ◌<◌, ◌≤◌, List, [], ◌∷◌, ◌++◌, Option, get_or, refl, sym, ap, ◌∙◌, map, nat_lt, length, arith}
use Rattle.std.specs.Prelude.{flat_map, unwrap_or, zip}
use Rattle.gl_text.specs.Cards.{Device as Card, dev}
use Rattle.gl_text.specs.Decks.{line_of}
use Rattle.gl_text.specs.Flattening.{Flat, FlatDevice, device_name, flat_card, flat_text}
use Rattle.gl_base.specs.BaseCircuit.{nets_of, net_number}
use Rattle.gl_base.specs.Reports.{name_at}
use Rattle.gl_base.specs.Rounds.{cards_of}
use Rattle.gl_flat.specs.Kept.{KeptDevice, kept_device, kept_of, kept_card, device_line, device_lines}
use Rattle.gl_flat.specs.Lengths.{after}
use Rattle.gl_lifting.specs.NameMaps.{NameMap}
use Rattle.gl_lifting.specs.Counting.{new_card, new_length}
use Rattle.gl_lifting.specs.Renaming.{new_names}
use Rattle.gl_named.specs.Named.{devices_from, map_under, under_name, without_devices}
use Rattle.gl_named.specs.Walks.{renamed_from}

-- ---- names by their numbers

-- the new name of a number that is there
pub new_found : (new : ℕ → Option (List ℕ)) (k : ℕ) (names : List (List ℕ)) (i j : ℕ) (old : List ℕ) → j ≡ k + i → i < length names → old ≡ get_or names i old
    → unwrap_or (new j) old ≡ name_at (new_names (renamed_from new k names)) i
new_found new k [] i j old at lt is = absurd (omega (arith, lt))
new_found new k (name ∷ names) zero j old at lt is = let same : j ≡ k = omega (arith, at) in (λ h. unwrap_or (new (same h)) (is h))
new_found new k (name ∷ names) (suc i) j old at lt is =
    let same : j ≡ (k + 1) + i = omega (arith, at) in
    let less : i < length names = omega (arith, lt) in
    new_found new (k + 1) names i j old same less is

-- past the last there is none
pub new_missing : (new : ℕ → Option (List ℕ)) (k : ℕ) (names : List (List ℕ)) (i : ℕ) → length names ≤ i → [] ≡ name_at (new_names (renamed_from new k names)) i
new_missing new k [] i past = refl
new_missing new k (name ∷ names) zero past = absurd (omega (arith, past))
new_missing new k (name ∷ names) (suc i) past = let less : length names ≤ i = omega (arith, past) in new_missing new (k + 1) names i less

-- ---- lines

module _ (m : NameMap) (nets : List (List ℕ)) where
  nodes_are : (nodes : List (List ℕ)) → map (λ n. name_at (new_names m.nets) (net_number nets n)) nodes ≡ map (name_at (new_names m.nets)) (map (net_number nets) nodes)
  nodes_are [] = refl
  nodes_are (n ∷ ns) = ap (λ ms. name_at (new_names m.nets) (net_number nets n) ∷ ms) (nodes_are ns)

  card_is : (name : List ℕ) (c : Card) → new_card m nets (name, c) ≡ kept_card (new_names m.nets) (under_name name (kept_device nets c))
  card_is name c = ap (λ (ns : List (List ℕ)). record { name = name; nodes = ns; model = c.model; tail = c.tail }) (nodes_are c.nodes)

  -- the lines of cards under new names are those of kept devices
  lines_are : (new : ℕ → Option (List ℕ)) (k : ℕ) (ds : List FlatDevice)
      → flat_map (λ (c : Card). line_of (dev c)) (map (new_card m nets) (zip (new_names (renamed_from new k (map device_name ds))) (map flat_card ds)))
      ≡ device_lines (new_names m.nets) (devices_from new k (map (kept_device nets) (map flat_card ds)))
  lines_are new k [] = refl
  lines_are new k (d ∷ ds) =
      let name = unwrap_or (new k) (device_name d) in
      ap (λ (c : Card). line_of (dev c) ++ flat_map (λ (e : Card). line_of (dev e)) (map (new_card m nets) (zip (new_names (renamed_from new (k + 1) (map device_name ds))) (map flat_card ds)))) (card_is name (flat_card d))
      ∙ ap (λ rest. device_line (new_names m.nets) (under_name name (kept_device nets (flat_card d))) ++ rest) (lines_are new (k + 1) ds)

-- ---- counts

-- a count that stays at the largest is above the limit exactly where the length is
counted : (l : ℕ) (t : List ℕ) → nat_lt 67108864 (after l t) ≡ nat_lt 67108864 (l + length t)
counted l t = grind arith

-- a count behind nothing more
pub settled : (n : ℕ) → n < 2 ^ 64 → n ≡ after n []
settled n fits = omega (arith, fits)

-- by the numbers that the code counts
pub long_by_count : (devices nets : ℕ → Option (List ℕ)) (flat : Flat) (olds : List (List ℕ)) (kept : List KeptDevice) (frame total : ℕ)
    → frame ≡ length (flat_text (without_devices flat)) → olds ≡ nets_of (cards_of flat) → kept ≡ kept_of (cards_of flat)
    → total ≡ after frame (device_lines (new_names (renamed_from nets 0 olds)) (devices_from devices 0 kept))
    → nat_lt 67108864 total ≡ nat_lt 67108864 (new_length (map_under devices nets flat) flat)
long_by_count devices nets flat olds kept frame total frame_is olds_are kept_are total_is =
    let m = map_under devices nets flat in
    let lines = lines_are m (nets_of (cards_of flat)) devices 0 flat.devices in
    ap (nat_lt 67108864) (total_is ∙ (λ i. after (frame_is i) (device_lines (new_names (renamed_from nets 0 (olds_are i))) (devices_from devices 0 (kept_are i)))))
    ∙ counted (length (flat_text (without_devices flat))) (device_lines (new_names m.nets) (devices_from devices 0 (kept_of (cards_of flat))))
    ∙ ap (λ (t : List ℕ). nat_lt 67108864 (length (flat_text (without_devices flat)) + length t)) (sym lines)
