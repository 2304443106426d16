-- Subcircuits and their ports, looked up by name.
use Rattle.std.proofs.Common.{◌≡◌, ℕ, List, Some, sym, ap, ◌∙◌, map, option_map}
use Rattle.std.specs.Prelude.{slice_get}
use Rattle.std.proofs.lemmas.Option.{same_Some, slice_get-map}
use Rattle.gl_text.specs.Decks.{Sub}

-- the ports at a subcircuit's place are its own
pub ports_at_place : {T : Type 0} (keys : T → List (List ℕ)) (subs : List Sub) (ports : List T) (place : ℕ) (s : Sub) (p : T) → map keys ports ≡ map (λ (t : Sub). t.head.ports) subs
    → slice_get subs place ≡ Some s → Some p ≡ slice_get ports place → keys p ≡ s.head.ports
ports_at_place keys subs ports place s p same e f =
    same_Some (keys p) s.head.ports (ap (option_map keys) f ∙ sym (slice_get-map keys ports place) ∙ ap (λ xs. slice_get xs place) same ∙ slice_get-map (λ (t : Sub). t.head.ports) subs place
    ∙ ap (option_map (λ (t : Sub). t.head.ports)) e)
