-- Flat names at the top: they are as long, and clash no more.
use Rattle.std.proofs.Common.{◌≡◌, ℕ, List, [], ◌∷◌, ◌++◌, length, map, ltb, not, Bool, true, false, Option, None, refl, sym, ap, ◌∙◌, flat_map}
use Rattle.std.specs.Prelude.{◌||◌, ◌&&◌}
use Rattle.std.specs.List.{list_any}
use Rattle.std.proofs.lemmas.Bool.{or_parts}
use Rattle.std.proofs.lemmas.List.{map-append}
use Rattle.gl_text.specs.LogicalLines.{NAME, Fault, name_clash, long_flat_name, same_text}
use Rattle.gl_fault.specs.Refusals.{first_some, when}
use Rattle.gl_text.specs.Flattening.{Net, FlatDevice, Bearer, device, net, net_name, top_net, device_name, bearers, bearer_name, clash, first_clash}
use Rattle.gl_lists.proofs.Bools.{and_not_itself}
use Rattle.gl_fault.proofs.FirstLaws.{none_first, when_none, first_none}
use Rattle.gl_steady.proofs.AtTop.{at_top}

-- what has a flat name, at the top
abbrev lifted : Bearer → Bearer
lifted (device name) = device name
lifted (net n) = net (top_net (net_name n))

nets_lifted : (ns : List Net) → map net (map top_net (map net_name ns)) ≡ map lifted (map net ns)
nets_lifted [] = refl
nets_lifted (n ∷ ns) = ap (λ bs. net (top_net (net_name n)) ∷ bs) (nets_lifted ns)

all_lifted : (ds : List FlatDevice) → flat_map bearers (map at_top ds) ≡ map lifted (flat_map bearers ds)
all_lifted [] = refl
all_lifted (d ∷ ds) =
    ap (λ bs. (device (device_name d) ∷ bs) ++ flat_map bearers (map at_top ds)) (nets_lifted d.nets)
    ∙ ap (λ bs. map lifted (bearers d) ++ bs) (all_lifted ds) ∙ sym (map-append lifted (bearers d) (flat_map bearers ds))

-- ---- lengths

abbrev pub long : Bearer → Option Fault
long b = when (ltb NAME (length (bearer_name b))) (long_flat_name (length (bearer_name b)))

lengths_lifted : (bs : List Bearer) → map long (map lifted bs) ≡ map long bs
lengths_lifted [] = refl
lengths_lifted (device n ∷ bs) = ap (λ os. long (device n) ∷ os) (lengths_lifted bs)
lengths_lifted (net n ∷ bs) = ap (λ os. long (net n) ∷ os) (lengths_lifted bs)

pub lengths_stay : (ds : List FlatDevice) → map long (flat_map bearers (map at_top ds)) ≡ map long (flat_map bearers ds)
lengths_stay ds = ap (map long) (all_lifted ds) ∙ lengths_lifted (flat_map bearers ds)

-- ---- clashes

clash_lifted : (b c : Bearer) → clash b c ≡ false → clash (lifted b) (lifted c) ≡ false
clash_lifted (device m) (device n) h = h
clash_lifted (device m) (net n) h = refl
clash_lifted (net m) (device n) h = refl
clash_lifted (net m) (net n) h = and_not_itself (same_text (net_name m) (net_name n))

any_lifted : (b : Bearer) (cs : List Bearer) → list_any (clash b) cs ≡ false → list_any (clash (lifted b)) (map lifted cs) ≡ false
any_lifted b [] h = refl
any_lifted b (c ∷ cs) h =
    let a = or_parts (clash b c) (list_any (clash b) cs) h in
    ap (λ t. t || list_any (clash (lifted b)) (map lifted cs)) (clash_lifted b c a.0) ∙ any_lifted b cs a.1

none_lifted : (bs before : List Bearer) → first_clash before bs ≡ None → first_clash (map lifted before) (map lifted bs) ≡ None
none_lifted [] before h = refl
none_lifted (b ∷ bs) before h =
    let a = none_first (when (list_any (clash b) before) (name_clash (bearer_name b))) (first_clash (before ++ b ∷ []) bs ∷ []) h in
    let c = none_first (first_clash (before ++ b ∷ []) bs) [] a.1 in
    let here = any_lifted b before (when_none (list_any (clash b) before) (name_clash (bearer_name b)) a.0) in
    first_none (when (list_any (clash (lifted b)) (map lifted before)) (name_clash (bearer_name (lifted b))) ∷ first_clash (map lifted before ++ lifted b ∷ []) (map lifted bs) ∷ []) (
      ap (λ t. when t (name_clash (bearer_name (lifted b)))) here,
      (ap (λ cs. first_clash cs (map lifted bs)) (sym (map-append lifted before (b ∷ []))) ∙ none_lifted bs (before ++ b ∷ []) c.0, tt),
    )

abbrev pub top_bearer : List ℕ → Bearer
top_bearer n = net (top_net n)

tops_lifted : (ns : List (List ℕ)) → map lifted (map top_bearer ns) ≡ map top_bearer ns
tops_lifted [] = refl
tops_lifted (n ∷ ns) = ap (λ bs. top_bearer n ∷ bs) (tops_lifted ns)

pub no_clash_stays : (tops : List (List ℕ)) (ds : List FlatDevice) → first_clash (map top_bearer tops) (flat_map bearers ds) ≡ None → first_clash (map top_bearer tops) (flat_map bearers (map at_top ds)) ≡ None
no_clash_stays tops ds h =
    ap (first_clash (map top_bearer tops)) (all_lifted ds) ∙ ap (λ bs. first_clash bs (map lifted (flat_map bearers ds))) (sym (tops_lifted tops))
    ∙ none_lifted (flat_map bearers ds) (map top_bearer tops) h
