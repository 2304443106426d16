-- Where no item has a fault, there is no first fault.
use Rattle.std.proofs.Common.{◌≡◌, ◌+◌, ◌<◌, ℕ, suc, List, [], ◌∷◌, length, get_or, Bool, false, Option, None, refl, ap, ◌∙◌, arith}
use Rattle.std.specs.Prelude.{slice_index_or}
use Rattle.std.proofs.lemmas.Bool.{not_from_true, lt-ltb, eq-eqb}
use Rattle.std.specs.Option.{option_or}
use Rattle.gl_fault.specs.Refusals.{when}
use Rattle.gl_match.specs.Graph.{Device}
use Rattle.gl_graph.specs.declared.fault.BuildFault.{BuildFault}
use Rattle.gl_graph.specs.declared.fault.BuildFault.TheVariants.{BadNet}
use Rattle.gl_graph.specs.Built.{NetsBelow}
use Rattle.gl_graph.specs.Faults.{first_in, net_fault, device_fault}

pub no_fault : (test : Bool) (fault : BuildFault) → test ≡ false → when test fault ≡ None
no_fault test fault e = ap (λ b. when b fault) e

pub neither_fault : (a b : Option BuildFault) → a ≡ None → b ≡ None → option_or a b ≡ None
neither_fault a b x y = ap (λ f. option_or f b) x ∙ y

pub none_in : {X : Type 0} (fault : ℕ → X → Option BuildFault) (n : ℕ) (xs : List X) → ((k : ℕ) (d : X) → k < length xs → fault (n + k) (get_or xs k d) ≡ None) → first_in fault n xs ≡ None
none_in fault n [] h = refl
none_in fault n (x ∷ xs) h =
    let here : fault n x ≡ None = ap (λ m. fault m x) (omega arith) ∙ h 0 x (omega arith) in
    let rest : first_in fault (n + 1) xs ≡ None = none_in fault (n + 1) xs (λ k d lt. ap (λ m. fault m (get_or xs k d)) (omega arith) ∙ h (suc k) d (omega (arith, lt))) in
    neither_fault (fault n x) (first_in fault (n + 1) xs) here rest

-- from 0 on
pub none_from_start : {X : Type 0} (fault : ℕ → X → Option BuildFault) (xs : List X) → ((k : ℕ) (d : X) → k < length xs → fault k (get_or xs k d) ≡ None) → first_in fault 0 xs ≡ None
none_from_start fault xs h = none_in fault 0 xs (λ k d lt. ap (λ m. fault m (get_or xs k d)) (omega arith) ∙ h k d lt)

-- a device without a fault
pub device_sound : (shapes : List (List ℕ)) (nets dev : ℕ) (d : Device) → d.kind < length shapes → length d.nets ≡ length (slice_index_or shapes d.kind []) → NetsBelow nets d → device_fault shapes nets dev d ≡ None
device_sound shapes nets dev d kind places below =
    neither_fault _ _ (no_fault _ _ (not_from_true _ (lt-ltb d.kind (length shapes) kind)))
    (neither_fault _ _ (no_fault _ _ (not_from_true _ (eq-eqb (length d.nets) (length (slice_index_or shapes d.kind [])) places)))
    (none_from_start (net_fault nets dev) d.nets (λ k e lt. no_fault _ (BadNet dev k) (not_from_true _ (lt-ltb (get_or d.nets k e) nets (below k e lt))))))
