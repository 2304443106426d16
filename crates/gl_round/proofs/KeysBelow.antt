-- The devices of listed instances are devices of the circuit.
use Rattle.std.proofs.Common.{◌<◌, ℕ, List, [], ◌∷◌, length, subst, sym, arith}
use Rattle.std.specs.Prelude.{All}
use Rattle.std.specs.List.{AllZip, range_with_len}
use Rattle.std.proofs.lemmas.List.Elements.{All-nil, All-cons, All-filter, All-weaker}
use Rattle.std.proofs.lemmas.List.FromFn.{length-range_with_len, get_or-range_with_len}
use Rattle.gl_match.specs.Graph.{Circuit, Pattern, is_in}
use Rattle.gl_match.specs.Keys.{Key}
use Rattle.gl_match.specs.Listing.{Instance, IsInstance, Listed}

-- the first n numbers are below n
all_below : (n : ℕ) → All (λ (k : ℕ). k < n) (range_with_len 0 n)
all_below n i d lt =
    let short : i < n = omega (arith, lt, length-range_with_len 0 n) in
    subst (λ (k : ℕ). k < n) (sym (get_or-range_with_len 0 n i d short)) (omega (arith, short))

-- the devices of an instance
set_below : (c : Circuit) (p : Pattern) (i : Instance) → IsInstance c p i → All (λ dev. dev < length c.devices) i.key.set
set_below c p i h = subst (λ (k : Key). All (λ dev. dev < length c.devices) k.set) h.key_is
    (All-filter (is_in _) (λ dev. dev < length c.devices) (range_with_len 0 (length c.devices)) (all_below (length c.devices)))

-- and of those of complete lists
pub lists_below : (c : Circuit) (ps : List Pattern) (lists : List (List Instance)) → AllZip (Listed c) ps lists → All (λ list. All (λ (i : Instance). All (λ dev. dev < length c.devices) i.key.set) list) lists
lists_below c [] [] h = All-nil (λ list. All (λ (i : Instance). All (λ dev. dev < length c.devices) i.key.set) list)
lists_below c [] (l ∷ ls) h = absurd h
lists_below c (p ∷ ps) [] h = absurd h
lists_below c (p ∷ ps) (l ∷ ls) h = All-cons (λ list. All (λ (i : Instance). All (λ dev. dev < length c.devices) i.key.set) list) l ls
    (All-weaker (IsInstance c p) (λ (i : Instance). All (λ dev. dev < length c.devices) i.key.set) (set_below c p) l h.0.each)
    (lists_below c ps ls h.1)
