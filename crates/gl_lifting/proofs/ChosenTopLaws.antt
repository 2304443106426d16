-- The cards of a lifted deck that are flattened are those of the last circuit; and what its limits say.
use Rattle.std.proofs.Common.{◌≡◌, ◌≤◌, ◌∙◌, ℕ, List, [], ◌∷◌, ◌++◌, length, map, cond, Bool, true, false, Option, Some, None, Result, Ok, refl, sym, ap}
use Rattle.std.specs.Prelude.{find, flat_map, option_map, nat_lt}
use Rattle.std.specs.List.{AllByRecursion, list_any}
use Rattle.std.proofs.lemmas.Bool.{or_parts, ltb-false}
use Rattle.gl_text.specs.LogicalLines.{NAME, FILE, Fault, same_text}
use Rattle.gl_text.specs.Cards.{Head}
use Rattle.gl_text.specs.Decks.{Body, Sub, Deck, find_sub, deck_text}
use Rattle.gl_text.specs.Flattening.{CARDS, Bearer, bearers, bearer_name, count, one, chosen, flat_text}
use Rattle.gl_printed.proofs.Each.{each_right}
use Rattle.gl_printed.proofs.FlatAlike.{pick, pick_is}
use Rattle.gl_base.proofs.TextLaws.{exact, itself}
use Rattle.gl_printed.specs.FlatDecks.{subs_around, top_without}
use Rattle.gl_lifting.specs.OutLimits.{OutLimit, of_name, of_cards, of_lifted_text, of_lifted_flat, limits, passed_if, first_passed, out_limit, written_names, lifted_flat, expanded_cards}
use Rattle.gl_lifting.proofs.LimitLaws.{each_unmap}
use Rattle.std.proofs.lemmas.Option.{same_Some as some_is}

-- ---- limits

-- where no limit is passed, the first is not, and none of the others
next_passed : (b : Bool) (l : OutLimit) (rest : List (Option OutLimit)) → first_passed (passed_if b l ∷ rest) ≡ None → (b ≡ false) × (first_passed rest ≡ None)
next_passed false l rest e = (refl, e)
next_passed true l rest e = absurd cc

none_any : (test : List ℕ → Bool) (xs : List (List ℕ)) → list_any test xs ≡ false → AllByRecursion (λ x. test x ≡ false) xs
none_any test [] e = tt
none_any test (x ∷ xs) e = let p = or_parts (test x) (list_any test xs) e in (p.0, none_any test xs p.1)

short_names : (bs : List Bearer) → AllByRecursion (λ b. nat_lt NAME (length (bearer_name b)) ≡ false) bs → AllByRecursion (λ b. length (bearer_name b) ≤ NAME) bs
short_names [] h = tt
short_names (b ∷ bs) h = (ltb-false NAME (length (bearer_name b)) h.0, short_names bs h.1)

-- what is kept where no limit is passed
pub record IsWithin (top : Option Head) (deck : Deck) : Type 0 where
  pub names : AllByRecursion (λ b. length (bearer_name b) ≤ NAME) (flat_map bearers (lifted_flat top deck).devices)
  pub cards : count one deck.subs (expanded_cards top deck) ≤ CARDS
  pub text : length (flat_text (lifted_flat top deck)) ≤ FILE

pub limits_kept : (top : Option Head) (deck : Deck) (map_bytes report : List ℕ) → out_limit limits top deck map_bytes report ≡ None → IsWithin top deck
limits_kept top deck map_bytes report e =
    let flat = lifted_flat top deck in
    let test : List ℕ → Bool = λ name. nat_lt NAME (length name) in
    let a = next_passed (list_any test (written_names flat deck)) of_name _ e in
    let b = next_passed (nat_lt CARDS (count one deck.subs (expanded_cards top deck))) of_cards _ a.1 in
    let c = next_passed (nat_lt FILE (length (deck_text deck))) of_lifted_text _ b.1 in
    let d = next_passed (nat_lt FILE (length (flat_text flat))) of_lifted_flat _ c.1 in
    let each = each_right (λ name. test name ≡ false) (map (λ (t : Sub). t.head.name) deck.subs) (map bearer_name (flat_map bearers flat.devices)) (none_any test (written_names flat deck) a.0) in
    record {
      names = short_names (flat_map bearers flat.devices) (each_unmap (λ name. test name ≡ false) bearer_name (flat_map bearers flat.devices) each);
      cards = ltb-false CARDS (count one deck.subs (expanded_cards top deck)) b.0;
      text = ltb-false FILE (length (flat_text flat)) d.0;
    }

-- ---- the original deck

-- a head with cards, accepted
abbrev okay : Option Head → List Body → Result (Option Head × List Body) Fault
okay head cs = Ok (head, cs)

-- what is accepted tells the head
head_is : (a b : Option Head) (cs ds : List Body) → okay a cs ≡ okay b ds → a ≡ b
head_is a b cs ds e = ap (λ (z : Option Head × List Body). z.0) (pair_is (a, cs) (b, ds) e) where
  accepted : Option Head × List Body → Result (Option Head × List Body) Fault
  accepted x = Ok x

  pair_is : (x y : Option Head × List Body) → Ok x ≡ accepted y → x ≡ y
  pair_is x y e = cc

-- what is found passes the test
find_true : (p : Sub → Bool) (xs : List Sub) (x : Sub) → find p xs ≡ Some x → p x ≡ true
find_true p [] x e = absurd cc
find_true p (y ∷ ys) x e = go (p y) refl e (find_true p ys x) where
  go : (b : Bool) → p y ≡ b → cond b (Some y) (find p ys) ≡ Some x → (find p ys ≡ Some x → p x ≡ true) → p x ≡ true
  go true on e ih = ap p (sym (some_is y x e)) ∙ on
  go false off e ih = ih e

-- the top that is asked for is the one that is chosen
pub asked_is : (d : Deck) (top : Option (List ℕ)) (head : Option Head) (cs : List Body) → chosen d top ≡ Ok (head, cs) → top ≡ option_map (λ (h : Head). h.name) head
unfolding pick
asked_is d None head cs e = ap (option_map (λ (h : Head). h.name)) (head_is None head d.top cs e)
asked_is d (Some name) head cs e = by (find_sub d.subs name) refl d.top (sym (pick_is d name) ∙ e) where
  by : (o : Option Sub) → find_sub d.subs name ≡ o → (top : List Body) → pick name o top ≡ Ok (head, cs) → Some name ≡ option_map (λ (h : Head). h.name) head
  by None f top g = absurd cc
  by (Some t) f [] g = ap Some (sym (exact t.head.name name (find_true (λ (s : Sub). same_text s.head.name name) d.subs t f))) ∙ ap (option_map (λ (h : Head). h.name)) (head_is (Some t.head) head t.cards cs g)
  by (Some t) f (b ∷ bs) g = absurd cc

-- ---- the lifted deck

-- subcircuits of other names are passed over
find_behind : (xs ys : List Sub) (name : List ℕ) → AllByRecursion (λ (x : Sub). same_text x.head.name name ≡ false) xs → find_sub (xs ++ ys) name ≡ find_sub ys name
find_behind [] ys name h = refl
find_behind (x ∷ xs) ys name h = rw h.0 (find_behind xs ys name h.1)

-- the cards of the top are chosen
pub chosen_top : (d : Deck) (t : Option Head) (vs : List Sub) (bs : List Body) → d.subs ≡ vs ++ subs_around t bs → d.top ≡ top_without t bs → ((head : Head) → t ≡ Some head → AllByRecursion (λ (x : Sub). same_text x.head.name head.name ≡ false) vs)
    → chosen d (option_map (λ (h : Head). h.name) t) ≡ Ok (t, bs)
unfolding pick
chosen_top d None vs bs subs top others = ap (okay None) top
chosen_top d (Some head) vs bs subs top others =
    let t : Sub = record { line = 0; head = head; cards = bs } in
    let found : find_sub d.subs head.name ≡ Some t = ap (λ xs. find_sub xs head.name) subs ∙ find_behind vs (t ∷ []) head.name (others head refl) ∙ ap (λ b. cond b (Some t) None) (itself head.name) in
    pick_is d head.name ∙ ap (λ o. pick head.name o d.top) found ∙ ap (pick head.name (Some t)) top

-- the last subcircuit's cards
last_is : (d : Deck) (head : Head) (xs : List Sub) (x : Sub) → expanded_cards (Some head) (record d { subs = xs ++ x ∷ [] }) ≡ x.cards
last_is d head [] x = refl
last_is d head (y ∷ []) x = refl
last_is d head (y ∷ z ∷ ys) x = last_is d head (z ∷ ys) x

-- and they are expanded
pub expanded_top : (d : Deck) (t : Option Head) (vs : List Sub) (bs : List Body) → d.subs ≡ vs ++ subs_around t bs → d.top ≡ top_without t bs → expanded_cards t d ≡ bs
expanded_top d None vs bs subs top = top
expanded_top d (Some head) vs bs subs top = ap (λ (xs : List Sub). expanded_cards (Some head) (record d { subs = xs })) subs ∙ last_is d head vs (record { line = 0; head = head; cards = bs })
