-- X cards on the way: the nets to which names lead.
use Rattle.std.proofs.Common.{◌≡◌, ◌<◌, ◌≤◌, ◌+◌, ◌-◌, ℕ, suc, List, [], ◌∷◌, ◌++◌, length, take, get_or, Bool, true, false, not, cond, ltb, Option, Some, None, refl, sym, ap, ◌∙◌, map, option_map, find, zip, unwrap_or, fold, append_assoc, append-nil, subst, arith}
use Rattle.std.specs.Prelude.{position, IfOk, Result}
use Rattle.std.specs.List.{position_or_len}
use Rattle.std.specs.Cmp.Lexicographic.{nat_list_eq_equiv}
use Rattle.std.proofs.lemmas.Bool.{ltb-true, ltb-false, lt-ltb}
use Rattle.std.proofs.lemmas.List.{take_more}
use Rattle.std.proofs.lemmas.List.Sums.{fold-append}
use Rattle.gl_text.specs.LogicalLines.{same_text}
use Rattle.gl_text.specs.Flattening.{Net, Place, actual, top_place, top_net, is_rail, net_of}
use Rattle.gl_flat.specs.declared.step.Step.{Step}
use Rattle.gl_flat.specs.Ways.{behind, place_of, path_of, node_at, actual_node}

-- ---- ports

not_less : (n len : ℕ) (b : Bool) → ltb (suc n) (suc len) ≡ b → ltb n len ≡ false → b ≡ false
not_less n len true e f = let l = ltb-true (suc n) (suc len) e in let m = ltb-false n len f in absurd (omega arith)
not_less n len false e f = refl

less_by : (n len : ℕ) (b : Bool) → ltb n len ≡ b → ltb (suc n) (suc len) ≡ b
less_by n len true e = let l = ltb-true n len e in lt-ltb (suc n) (suc len) (omega arith)
less_by n len false e = not_less n len (ltb (suc n) (suc len)) refl e

first_by : (b c : Bool) (n : ℕ) → cond c (Some (suc n)) None ≡ option_map suc (cond c (Some n) None)
first_by b true n = refl
first_by b false n = refl

position_by : (b : Bool) (n len : ℕ) → cond (ltb (cond (not b) (1 + n) 0) (suc len)) (Some (cond (not b) (1 + n) 0)) None ≡ cond b (Some 0) (option_map suc (cond (ltb n len) (Some n) None))
position_by true n len = ap (λ b. cond b (Some 0) None) (lt-ltb 0 (suc len) (omega arith))
position_by false n len = let e : 1 + n ≡ suc n = omega arith in ap (λ k. cond (ltb k (suc len)) (Some k) None) e ∙ ap (λ b. cond b (Some (suc n)) None) (less_by n len (ltb n len) refl) ∙ first_by false (ltb n len) n

position_more : (p : List ℕ → Bool) (x : List ℕ) (xs : List (List ℕ)) → position p (x ∷ xs) ≡ cond (p x) (Some 0) (option_map suc (position p xs))
position_more p x xs = position_by (p x) (position_or_len p xs) (length xs)

nothing_at : (o : Option ℕ) → node_at [] o ≡ None
nothing_at None = refl
nothing_at (Some k) = refl

next_at : (n : List ℕ) (ns : List (List ℕ)) (o : Option ℕ) → node_at (n ∷ ns) (option_map suc o) ≡ node_at ns o
next_at n ns None = refl
next_at n ns (Some k) = refl

port_by : (f : List ℕ → Net) (b : Bool) (p n : List ℕ) (ns : List (List ℕ)) (o : Option (List ℕ × Net)) (k : Option ℕ) → option_map (λ (q : List ℕ × Net). q.1) o ≡ option_map f (node_at ns k)
    → option_map (λ (q : List ℕ × Net). q.1) (cond b (Some (p, f n)) o) ≡ option_map f (node_at (n ∷ ns) (cond b (Some 0) (option_map suc k)))
port_by f true p n ns o k h = refl
port_by f false p n ns o k h = h ∙ ap (option_map f) (sym (next_at n ns k))

-- the actual net of a port is that of its node
ports_are : (f : List ℕ → Net) (ports nodes : List (List ℕ)) (name : List ℕ) → actual (zip ports (map f nodes)) name ≡ option_map f (node_at nodes (position (same_text name) ports))
ports_are f [] nodes name = refl
ports_are f (p ∷ ps) [] name = ap (option_map f) (sym (nothing_at (position (same_text name) (p ∷ ps))))
ports_are f (p ∷ ps) (n ∷ ns) name =
    port_by f (same_text p name) p n ns (find (λ (q : List ℕ × Net). same_text q.0 name) (zip ps (map f ns))) (position (same_text name) ps) (ports_are f ps ns name)
    ∙ ap (λ b. option_map f (node_at (n ∷ ns) (cond b (Some 0) (option_map suc (position (same_text name) ps))))) (nat_list_eq_equiv.symm p name)
    ∙ ap (λ o. option_map f (node_at (n ∷ ns) o)) (sym (position_more (same_text name) p ps))

-- ---- ways

pub place_behind : (rails : List (List ℕ)) (way : List Step) (s : Step) → place_of rails (way ++ s ∷ []) ≡ behind rails (place_of rails way) s
place_behind rails way s = fold-append (behind rails) top_place way (s ∷ [])

path_from : (rails : List (List ℕ)) (p : Place) (way : List Step) → (fold (behind rails) p way).path ≡ p.path ++ path_of way
path_from rails p [] = sym (append-nil p.path)
path_from rails p (s ∷ ss) = path_from rails (behind rails p s) ss ∙ append_assoc p.path (s.call.now.name ∷ []) (path_of ss)

pub path_is : (rails : List (List ℕ)) (way : List Step) → (place_of rails way).path ≡ path_of way
path_is rails way = path_from rails top_place way

-- a way that is not empty ends in a step
pub last_step : (way : List Step) (s : Step) → 1 ≤ length way → s ≡ get_or way (length way - 1) s → way ≡ take (length way - 1) way ++ s ∷ []
last_step way s some e =
    let n = length way in
    let few : n - 1 < n = omega (arith, some) in
    let all : (n - 1) + 1 ≡ n = omega (arith, some) in
    sym (whole way) ∙ ap (λ k. take k way) (sym all) ∙ take_more way (n - 1) s few ∙ ap (λ t. take (n - 1) way ++ t ∷ []) (sym e) where
      whole : (xs : List Step) → take (length xs) xs ≡ xs
      whole [] = refl
      whole (x ∷ xs) = ap (λ t. x ∷ t) (whole xs)

-- the name of a port leads to that of its node
pub port_leads : (rails : List (List ℕ)) (way before : List Step) (s : Step) (name node : List ℕ) → way ≡ before ++ s ∷ [] → Some node ≡ actual_node s name → net_of rails (place_of rails before) node ≡ net_of rails (place_of rails way) name
port_leads rails way before s name node is e =
    let place = place_of rails before in
    let own = cond (is_rail rails name) (top_net name) (record { path = place.path ++ s.call.now.name ∷ []; name = name }) in
    ap (λ o. unwrap_or (option_map (net_of rails place) o) own) e ∙ ap (λ o. unwrap_or o own) (sym (ports_are (net_of rails place) s.ports.now.keys s.call.now.nodes name))
    ∙ ap (λ p. net_of rails p name) (sym (place_behind rails before s)) ∙ ap (λ w. net_of rails (place_of rails w) name) (sym is)

own_by : (rails : List (List ℕ)) (p : Place) (name : List ℕ) → actual p.ports name ≡ None → cond (is_rail rails name) (top_net name) (record { path = p.path; name = name }) ≡ net_of rails p name
own_by rails p name e = ap (λ o. unwrap_or o (cond (is_rail rails name) (top_net name) (record { path = p.path; name = name }))) (sym e)

-- a name that is no port is its own
pub own_leads : (rails : List (List ℕ)) (way : List Step) (name : List ℕ) → actual (place_of rails way).ports name ≡ None → cond (is_rail rails name) (top_net name) (record { path = path_of way; name = name }) ≡ net_of rails (place_of rails way) name
own_leads rails way name e = ap (λ (p : List (List ℕ)). cond (is_rail rails name) (top_net name) (record { path = p; name = name })) (sym (path_is rails way)) ∙ own_by rails (place_of rails way) name e

empty_way : (rails : List (List ℕ)) (way : List Step) (name : List ℕ) → length way < 1 → actual (place_of rails way).ports name ≡ None
empty_way rails [] name e = refl
empty_way rails (s ∷ ss) name e = absurd (omega (arith, e))

pub first_leads : (rails : List (List ℕ)) (way : List Step) (name : List ℕ) → length way < 1 → cond (is_rail rails name) (top_net name) (record { path = path_of way; name = name }) ≡ net_of rails (place_of rails way) name
first_leads rails way name e = own_leads rails way name (empty_way rails way name e)

pub no_port_leads : (rails : List (List ℕ)) (way before : List Step) (s : Step) (name : List ℕ) → way ≡ before ++ s ∷ [] → None ≡ actual_node s name
    → cond (is_rail rails name) (top_net name) (record { path = path_of way; name = name }) ≡ net_of rails (place_of rails way) name
no_port_leads rails way before s name is e =
    let place = place_of rails before in
    own_leads rails way name (ap (λ w. actual (place_of rails w).ports name) is ∙ ap (λ p. actual p.ports name) (place_behind rails before s)
    ∙ ports_are (net_of rails place) s.ports.now.keys s.call.now.nodes name ∙ ap (option_map (net_of rails place)) (sym e))

-- what an answer is, by another
pub same_net : {E : Type 0} (r : Result Net E) (m n : Net) → m ≡ n → IfOk r (λ x. x ≡ m) → IfOk r (λ x. x ≡ n)
same_net r m n e h = subst (λ y. IfOk r (λ x. x ≡ y)) e h
