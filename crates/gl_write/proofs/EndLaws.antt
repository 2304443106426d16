-- Loops over two lists side by side end where one of them does.
use Rattle.std.proofs.Common.{◌≡◌, ◌⊎◌, List, [], ◌∷◌, map, refl, ap, inl, inr}
use Rattle.std.specs.Prelude.{zip}
use Rattle.gl_deck.specs.declared.body.Body.{Body}
use Rattle.gl_deck.specs.Bodies.{bodies_value}
use Rattle.gl_match.specs.Graph.{Device}
use Rattle.gl_history.specs.declared.origin.Origin as declared
use Rattle.gl_history.specs.Plain.{origin_value}
use Rattle.gl_history.specs.Replacing.{slots_of}
use Rattle.gl_found.proofs.ZipLaws.{zip_none}

-- of cards and what they carry
pub cards_none : {B : Type 0} (cards : List Body) (carried : List B) → (cards ≡ []) ⊎ (carried ≡ []) → zip (bodies_value cards) carried ≡ []
cards_none cards carried (inl e) = zip_none (bodies_value cards) carried (inl (ap bodies_value e))
cards_none cards carried (inr e) = zip_none (bodies_value cards) carried (inr e)

-- of devices and where they come from
pub slots_none : (devices : List Device) (origins : List declared.Origin) → (devices ≡ []) ⊎ (origins ≡ []) → slots_of devices (map origin_value origins) ≡ []
slots_none devices origins (inl e) = ap (λ ds. slots_of ds (map origin_value origins)) e
slots_none [] origins (inr e) = refl
slots_none (d ∷ devices) origins (inr e) = ap (λ os. slots_of (d ∷ devices) (map origin_value os)) e
