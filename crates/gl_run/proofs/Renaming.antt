-- A flat deck with its devices at the top is renamed as the flat deck itself.
use Rattle.std.proofs.Common.{◌≡◌, ℕ, ◌+◌, List, [], ◌∷◌, length, map, Ok, sym, ap, ◌∙◌, subst, inl, inr}
use Rattle.std.specs.Prelude.{Result, filter_map, option_map}
use Rattle.gl_text.specs.Cards.{Device as Card}
use Rattle.gl_text.specs.Flattening.{Flat}
use Rattle.gl_text.specs.PlainFlats.{plain, plain_by}
use Rattle.gl_base.specs.BaseCircuit.{nets_of}
use Rattle.gl_flat.proofs.PlainLaws.{plain_cards}
use Rattle.gl_lifting.specs.NameMaps.{NameMap}
use Rattle.gl_lifting.specs.Renaming.{RestoreFault, missing, extra, net_merge, letter_changed, device_merge, first_fault, first_missing, first_line, is_for_none, is_merged, has_other_letter, unless_fault, device_back, restore}
use Rattle.gl_job.specs.declared.kind.Kind.TheVariants as kinds
use Rattle.gl_job.specs.Texts.{End}
use Rattle.gl_job.specs.Points.{Refuses}
use Rattle.gl_restore.specs.Texts.{fault_text}
use Rattle.gl_run.specs.Restoring.{IsRestoredText, IsNotRestored}

-- the flat deck under the old names, by its cards
abbrev restore_by : Flat → NameMap → List Card → Result Flat RestoreFault
restore_by f m cards = let devices = map (λ (c : Card). c.name) cards in let nets = nets_of cards in let behind = 2 + length m.devices in
    unless_fault (first_fault (
    option_map missing (first_missing m.devices devices)
    ∷ option_map missing (first_missing m.nets nets)
    ∷ option_map extra (first_line (is_for_none devices) 2 [] m.devices)
    ∷ option_map extra (first_line (is_for_none nets) behind [] m.nets)
    ∷ option_map net_merge (first_line is_merged behind [] m.nets)
    ∷ option_map letter_changed (first_line has_other_letter 2 [] m.devices)
    ∷ option_map device_merge (first_line is_merged 2 [] m.devices) ∷ []))
    (plain_by f (filter_map (device_back m cards) m.devices))

plain_restored : (f value : Flat) (m : NameMap) → value ≡ plain f → restore value m ≡ restore f m
plain_restored f value m is = ap (λ (v : Flat). restore v m) is ∙ ap (restore_by f m) (plain_cards f)

-- so what is made of it is made of the flat deck itself
pub text_of_plain : (f value : Flat) (m : NameMap) (text : List ℕ) → value ≡ plain f → IsRestoredText value m text → IsRestoredText f m text
text_of_plain f value m text is made =
    record { restored = made.restored; restored_is = sym (plain_restored f value m is) ∙ made.restored_is; text_is = made.text_is }

pub no_text_of_plain : (f value : Flat) (m : NameMap) (end : End) → value ≡ plain f → IsNotRestored value m end → IsNotRestored f m end
no_text_of_plain f value m end is (inl refuses) = inl (subst (λ (r : Result Flat RestoreFault). Refuses kinds.Map fault_text r end) (plain_restored f value m is) refuses)
no_text_of_plain f value m end is (inr long) = inr (record { restored = long.restored; restored_is = sym (plain_restored f value m is) ∙ long.restored_is; refuses = long.refuses })
