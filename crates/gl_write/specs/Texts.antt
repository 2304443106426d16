-- The text of a lifted deck, by its parts. This project's own.
use Rattle.std.specs.Prelude.{ℕ, Bool, List, ◌++◌, ◌∷◌, map, flat_map, zip, Option}
use Rattle.gl_text.specs.Cards.{ended}
use Rattle.gl_text.specs.Decks.{line_of, body_line, global_line, model_line, passed_line, sub_text}
use Rattle.gl_text.specs.Flattening.{Flat, around}
use Rattle.gl_base.specs.BaseCircuit.{Source}
use Rattle.gl_base.specs.Rounds.{cards_of}
use Rattle.gl_lifting.specs.Replacement.{Slot}
use Rattle.gl_lifting.specs.Variants.{Variant}
use Rattle.gl_lifting.specs.LiftedDecks.{variant_sub, slot_card}
use Rattle.gl_history.specs.Plain.{Lifted}
use Rattle.gl_history.specs.Replacing.{slots_of}
use Rattle.gl_write.specs.declared.device.Scene.{Scene}

-- the text of variants under their names
abbrev pub variants_text : Source → List (List ℕ) → List Variant → List ℕ
variants_text s names variants = flat_map sub_text (map (variant_sub s names) (zip names variants))

-- the text of the devices of a last circuit
abbrev pub slots_text : List ℕ → Flat → List (List ℕ) → List ℕ → List Slot → List ℕ
slots_text stem flat names numbers slots = flat_map body_line (map (slot_card stem (cards_of flat) names numbers) slots)

-- the text of a lifted deck, by its variants, their names and the devices of the last circuit
abbrev pub deck_by : Source → List ℕ → Flat → List (List ℕ) → List Variant → List ℕ → List Slot → List ℕ
deck_by s stem flat names variants numbers slots =
    flat.title ++ 10 ∷ flat_map global_line flat.rails ++ flat_map model_line flat.models ++ variants_text s names variants
    ++ around flat.top (slots_text stem flat names numbers slots) ++ flat_map passed_line flat.passed ++ line_of ended

-- the text of the last circuit's devices, as it is written in a scene
abbrev pub last_text : Scene → Lifted → List ℕ
last_text scene lift = slots_text scene.stem.now scene.flat.now scene.names.now scene.numbers.now (slots_of lift.last.devices lift.last_origins)

-- the text of the lifted deck, as it is written in a scene
abbrev pub whole_text : Source → Scene → List Variant → Lifted → List ℕ
whole_text s scene variants lift = deck_by s scene.stem.now scene.flat.now scene.names.now variants scene.numbers.now (slots_of lift.last.devices lift.last_origins)

-- a lifted deck, written: whether a name of one of its subcircuits is too long, and its text, none where that is too long
pub record Written : Type 0 where
  pub has_long_name : Bool
  pub text : Option (List ℕ)
