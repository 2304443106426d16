-- The turns of devices and of ports, and the nodes of cards that are turned back.
use Rattle.std.proofs.Common.{◌≡◌, ◌≢◌, ◌+◌, ◌<◌, ◌≤◌, ◌++◌, Bool, ℕ, zero, suc, List, [], ◌∷◌, length, map, get_or, Option, Some, None, refl, sym, ap, ap₂, ◌∙◌, subst, arith}
use Rattle.std.specs.Prelude.{◌==◌, AllPairs, All, Contains, IsPermutation}
use Rattle.std.specs.List.{AllZip, AllByRecursion, range_with_len, position_or_len}
use Rattle.std.proofs.lemmas.Bool.{eqb-true, eq-eqb}
use Rattle.std.proofs.lemmas.List.Sorted.{IsPermutation-sym, Contains-permutation}
use Rattle.std.proofs.lemmas.List.{length-map}
use Rattle.std.proofs.lemmas.List.FromFn.{length-range_with_len, get_or-range_with_len}
use Rattle.std.specs.Ordering.{nat_cmp, ordering_reverse}
use Rattle.std.specs.declared.cmp.Ordering.TheVariants.{Less}
use Rattle.std.specs.Cmp.Lexicographic.{slice_cmp, nat_list_cmp_total}
use Rattle.gl_match.proofs.Lists.{in_none, in_head, in_tail, map_get_range, once_range}
use Rattle.gl_match.proofs.TurnLaws.{turn_is}
use Rattle.gl_match.proofs.AtLaws.{from_range}
use Rattle.gl_base.specs.Reports.{name_at}
use Rattle.gl_base.proofs.OnceLaws.{place_at}
use Rattle.gl_text.specs.Cards.{Device as Card, Call, first_byte}
use Rattle.gl_text.specs.Decks.{Body, dev_at, call_at}
use Rattle.gl_match.specs.Turns.{IsTurn, turns_of, turn_at}
use Rattle.gl_match.proofs.TurnOrder.{listed, ordered}
use Rattle.gl_base.specs.TypeNames.{TypeName, of_word, of_model, of_letter, of_cell, classes_of, classes_by, letter_classes, port_classes, type_by_word}
use Rattle.gl_base.specs.BaseCircuit.{Source, type_in}
use Rattle.gl_lifting.specs.LiftedDecks.{turned_back, nodes_back}
use Rattle.gl_lists.proofs.Each.{each_from as each_in}

-- ---- turns of devices

pub transistor_first : (turn : ℕ) → turn ≡ 0 → 0 ∷ 1 ∷ 2 ∷ 3 ∷ [] ≡ turn_at (0 ∷ 1 ∷ 0 ∷ 2 ∷ []) turn
transistor_first turn e = ap (turn_at (0 ∷ 1 ∷ 0 ∷ 2 ∷ [])) (sym e)

pub transistor_second : (turn : ℕ) → turn ≡ 1 → 2 ∷ 1 ∷ 0 ∷ 3 ∷ [] ≡ turn_at (0 ∷ 1 ∷ 0 ∷ 2 ∷ []) turn
transistor_second turn e = ap (turn_at (0 ∷ 1 ∷ 0 ∷ 2 ∷ [])) (sym e)

-- behind two
behind_two : {A : Type 0} (a b d : A) (n : ℕ) → n ≢ 0 → n ≢ 1 → d ≡ get_or (a ∷ b ∷ []) n d
behind_two a b d zero h g = absurd (h refl)
behind_two a b d (suc zero) h g = absurd (g refl)
behind_two a b d (suc (suc n)) h g = refl

-- behind one
behind_one : {A : Type 0} (a d : A) (n : ℕ) → n ≢ 0 → d ≡ get_or (a ∷ []) n d
behind_one a d zero h = absurd (h refl)
behind_one a d (suc n) h = refl

pub transistor_behind : (turn : ℕ) → turn ≢ 0 → turn ≢ 1 → [] ≡ turn_at (0 ∷ 1 ∷ 0 ∷ 2 ∷ []) turn
transistor_behind turn h g = behind_two (0 ∷ 1 ∷ 2 ∷ 3 ∷ []) (2 ∷ 1 ∷ 0 ∷ 3 ∷ []) [] turn h g

pub pair_first : (turn : ℕ) → turn ≡ 0 → 0 ∷ 1 ∷ [] ≡ turn_at (0 ∷ 0 ∷ []) turn
pair_first turn e = ap (turn_at (0 ∷ 0 ∷ [])) (sym e)

pub pair_second : (turn : ℕ) → turn ≡ 1 → 1 ∷ 0 ∷ [] ≡ turn_at (0 ∷ 0 ∷ []) turn
pair_second turn e = ap (turn_at (0 ∷ 0 ∷ [])) (sym e)

pub pair_behind : (turn : ℕ) → turn ≢ 0 → turn ≢ 1 → [] ≡ turn_at (0 ∷ 0 ∷ []) turn
pair_behind turn h g = behind_two (0 ∷ 1 ∷ []) (1 ∷ 0 ∷ []) [] turn h g

pub ends_first : (turn : ℕ) → turn ≡ 0 → 0 ∷ 1 ∷ [] ≡ turn_at (0 ∷ 1 ∷ []) turn
ends_first turn e = ap (turn_at (0 ∷ 1 ∷ [])) (sym e)

pub ends_behind : (turn : ℕ) → turn ≢ 0 → [] ≡ turn_at (0 ∷ 1 ∷ []) turn
ends_behind turn h = behind_one (0 ∷ 1 ∷ []) [] turn h

-- ---- the classes of a device's places

by_word : (letter : ℕ) (model : List ℕ) (word : Option (List ℕ)) → classes_of (type_by_word letter model word) ≡ classes_by letter_classes letter
by_word letter model None = refl
by_word letter model (Some w) = refl

-- the letter tells the classes of a device's places
pub device_classes : (s : Source) (d : Card) → classes_of (type_in s d) ≡ classes_by letter_classes (first_byte d.name)
device_classes s d = by d.model refl
  where
    by : (m : Option (List ℕ)) → d.model ≡ m → classes_of (type_in s d) ≡ classes_by letter_classes (first_byte d.name)
    by None e = rw e refl
    by (Some m) e = rw e (by_word (first_byte d.name) m _)

-- so its nodes are turned back by the turn of its letter
pub device_back : (s : Source) (line : ℕ) (d : Card) (turn : ℕ) → nodes_back s (dev_at line d) turn ≡ turned_back (turn_at (classes_by letter_classes (first_byte d.name)) turn) d.nodes
device_back s line d turn = ap (λ classes. turned_back (turn_at classes turn) d.nodes) (device_classes s d)

-- ---- ports

-- places of classes that are all different are these
same_places : (n : ℕ) (cs ps : List ℕ) → AllZip (λ c place. get_or (range_with_len 0 n) place 0 ≡ c) cs ps → AllByRecursion (λ place. place < n) ps → ps ≡ cs
same_places n [] [] h g = refl
same_places n [] (p ∷ ps) h g = absurd h
same_places n (c ∷ cs) [] h g = absurd h
same_places n (c ∷ cs) (p ∷ ps) h g =
    let there : get_or (range_with_len 0 n) p 0 ≡ 0 + p = get_or-range_with_len 0 n p 0 g.0 in
    ap₂ (λ (x : ℕ) (xs : List ℕ). x ∷ xs) (omega (arith, there, h.0)) (same_places n cs ps h.1 g.1)

-- a turn of a cell's type leaves each port in its place
one_turn : (name : List ℕ) (ports turn : ℕ) → turn < length (turns_of (classes_of (of_cell name (port_classes ports)))) → turn_at (classes_of (of_cell name (port_classes ports))) turn ≡ range_with_len 0 ports
one_turn name ports turn below =
    let classes = range_with_len 0 ports in
    let places = turn_at classes turn in
    let r = turn_is classes turn below in
    let n = length classes in
    let long : n ≡ ports = length-range_with_len 0 ports in
    let perm : IsPermutation (range_with_len 0 ports) places = subst (λ m. IsPermutation (range_with_len 0 m) places) long r.0 in
    same_places ports classes places r.1 (each_in (λ place. place < ports) places (λ place at. from_range ports place (Contains-permutation places (range_with_len 0 ports) place (IsPermutation-sym (range_with_len 0 ports) places perm) at)))

-- nodes in their places stay
nodes_stay : (names : List (List ℕ)) → turned_back (range_with_len 0 (length names)) names ≡ names
nodes_stay names =
    let n = length names in
    let range = range_with_len 0 n in
    maps range (λ place. name_at names (position_or_len (λ turned. turned == place) range)) (λ place. get_or names place []) (λ place at.
    ap (λ k. get_or names k []) (there n place (from_range n place at))) ∙ map_get_range names []
  where
    maps : (xs : List ℕ) (f g : ℕ → List ℕ) → ((x : ℕ) → Contains xs x → f x ≡ g x) → map f xs ≡ map g xs
    maps [] f g h = refl
    maps (x ∷ xs) f g h = ap₂ (λ (y : List ℕ) (ys : List (List ℕ)). y ∷ ys) (h x (in_head x xs)) (maps xs f g (λ y k. h y (in_tail x xs y k)))

    there : (n place : ℕ) → place < n → position_or_len (λ turned. turned == place) (range_with_len 0 n) ≡ place
    there n place lt =
        let same : ℕ → ℕ → Bool = λ x y. y == x in
        let at : get_or (range_with_len 0 n) place 0 ≡ 0 + place = get_or-range_with_len 0 n place 0 lt in
        let is : get_or (range_with_len 0 n) place 0 ≡ place = omega (arith, at) in
        ap (λ x. position_or_len (λ turned. turned == x) (range_with_len 0 n)) (sym is)
        ∙ place_at same (λ x y e. sym (eqb-true y x e)) (λ x. eq-eqb x x refl) (range_with_len 0 n) place 0 (once_range 0 n) (omega (arith, lt, length-range_with_len 0 n))

-- the places of ports, in their order, are a turn
range_from : (n a m : ℕ) → a + m ≡ n → AllZip (λ c place. get_or (range_with_len 0 n) place 0 ≡ c) (range_with_len a m) (range_with_len a m)
range_from n a zero e = tt
range_from n a (suc m) e = (get_or-range_with_len 0 n a 0 (omega (arith, e)) ∙ omega arith, range_from n (a + 1) m (omega (arith, e)))

range_turn : (n : ℕ) → IsTurn (range_with_len 0 n) (range_with_len 0 n)
range_turn n =
    let range = range_with_len 0 n in
    let long : length range ≡ n = length-range_with_len 0 n in
    record {
      class = range_from n 0 n (omega arith);
      places = λ k d lt. let is : get_or range k d ≡ 0 + k = get_or-range_with_len 0 n k d (omega (arith, lt, long)) in omega (arith, is, lt);
      differ = λ i j d lt below e.
          let first : get_or range i d ≡ 0 + i = get_or-range_with_len 0 n i d (omega (arith, lt, below, long)) in
          let second : get_or range j d ≡ 0 + j = get_or-range_with_len 0 n j d (omega (arith, below, long)) in
          absurd (omega (arith, e, first, second, lt));
    }

-- a text does not come before itself
not_less : (t u v : List ℕ) → t ≡ v → u ≡ v → slice_cmp nat_cmp t u ≡ Less → ⊥
not_less t u v e f less =
    let same : slice_cmp nat_cmp v v ≡ Less = ap (λ x. slice_cmp nat_cmp x v) (sym e) ∙ ap (λ x. slice_cmp nat_cmp t x) (sym f) ∙ less in
    let back : Less ≡ ordering_reverse Less = sym same ∙ nat_list_cmp_total.antisymm v v ∙ ap ordering_reverse same in
    absurd cc

-- turns that are all one turn are one
one_alone : (turns : List (List ℕ)) (t : List ℕ) → Contains turns t → ((k : ℕ) → k < length turns → get_or turns k [] ≡ t) → AllPairs (λ a b. slice_cmp nat_cmp a b ≡ Less) turns → turns ≡ t ∷ []
one_alone [] t h same apart = absurd (in_none t h)
one_alone (a ∷ []) t h same apart = ap (λ x. x ∷ []) (same 0 (omega arith))
one_alone (a ∷ b ∷ turns) t h same apart = absurd (not_less a b t (same 0 (omega arith)) (same 1 (omega arith)) (apart 0 1 [] (omega arith) (omega arith)))

-- the ports of a cell have one turn
port_turns : (ports : ℕ) → turns_of (port_classes ports) ≡ range_with_len 0 ports ∷ []
port_turns ports =
    let classes = port_classes ports in
    one_alone (turns_of classes) (range_with_len 0 ports) ((listed classes (range_with_len 0 ports)).1 (range_turn ports)) (λ k lt. one_turn [] ports k lt) (ordered classes)

-- ports stay in their places under the one turn that they have
pub ports_first : (nodes : List (List ℕ)) (turn : ℕ) → turn ≡ 0 → turned_back (turn_at (port_classes (length nodes)) turn) nodes ≡ nodes
ports_first nodes turn e =
    ap (λ t. turned_back (turn_at (port_classes (length nodes)) t) nodes) e
    ∙ ap (λ (ts : List (List ℕ)). turned_back (get_or ts 0 []) nodes) (port_turns (length nodes)) ∙ nodes_stay nodes

pub ports_behind : (nodes : List (List ℕ)) (turn : ℕ) → turn ≢ 0 → turned_back (turn_at (port_classes (length nodes)) turn) nodes ≡ turned_back [] nodes
ports_behind nodes turn h =
    ap (λ (ts : List (List ℕ)). turned_back (get_or ts turn []) nodes) (port_turns (length nodes))
    ∙ ap (λ t. turned_back t nodes) (sym (behind_one (range_with_len 0 (length nodes)) [] turn h))
