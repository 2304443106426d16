-- The old names of nets, gathered one by one.
use Rattle.std.proofs.Common.{◌≡◌, ◌+◌, ◌<◌, ℕ, List, [], ◌∷◌, ◌++◌, Option, Some, Bor, length, take, get_or, map, sym, ap, ◌∙◌}
use Rattle.std.specs.Prelude.{option_map, unwrap_or}
use Rattle.std.specs.Option.{option_copied}
use Rattle.std.proofs.lemmas.List.{map-append, take_more}
use Rattle.gl_lifting.specs.Renaming.{old_name}
use Rattle.gl_restore.proofs.LineLaws.{Line}

-- what is referred to is what was found
pub old_seen : (o : Option (Bor (List ℕ))) (p : Option Line) (x : Bor (List ℕ)) → o ≡ Some x → option_copied o ≡ option_map (λ (n : Line). n.1) p → x.now ≡ unwrap_or (option_map (λ (n : Line). n.1) p) []
old_seen o p x e h = ap (λ (q : Option (List ℕ)). unwrap_or q []) (sym (ap option_copied e) ∙ h)

-- one more net
pub old_more : {B : Type 0} (g : B → List ℕ) (lines : List Line) (nets : List (List ℕ)) (i : ℕ) (net : List ℕ) (old : B) (olds more : List B) → i < length nets → net ≡ get_or nets i net
    → more ≡ olds ++ old ∷ [] → g old ≡ old_name lines net → map g olds ≡ map (old_name lines) (take i nets) → map g more ≡ map (old_name lines) (take (i + 1) nets)
old_more {B} g lines nets i net old olds more lt is m e h =
    ap (λ (bs : List B). map g bs) m ∙ map-append g olds (old ∷ [])
    ∙ ap (λ (os : List (List ℕ)). os ++ g old ∷ []) h
    ∙ ap (λ (o : List ℕ). map (old_name lines) (take i nets) ++ o ∷ []) e
    ∙ sym (map-append (old_name lines) (take i nets) (net ∷ []))
    ∙ ap (λ (ns : List (List ℕ)). map (old_name lines) ns) (sym (take_more nets i net lt ∙ ap (λ (n : List ℕ). take i nets ++ n ∷ []) (sym is)))
