-- A top is chosen again from the deck of a flat deck.
use Rattle.std.proofs.Common.{◌≡◌, ℕ, List, [], ◌∷◌, Bool, true, false, cond, Option, Some, None, Result, Ok, refl, sym, ap, ◌∙◌, subst, option_map}
use Rattle.std.specs.Cmp.Lexicographic.{bytes_decides, nat_list_eq_equiv}
use Rattle.gl_text.specs.LogicalLines.{Fault, same_text}
use Rattle.gl_text.specs.Cards.{Head}
use Rattle.gl_text.specs.Decks.{Body, Sub, Deck, find_sub}
use Rattle.gl_text.specs.Flattening.{Flat, chosen}
use Rattle.gl_printed.specs.FlatDecks.{flat_cards, subs_around, top_without, deck_of}
use Rattle.gl_printed.proofs.DistinctNames.{head_name}
use Rattle.gl_printed.proofs.FlatAlike.{Chosen, choice, pick, pick_is}
use Rattle.std.proofs.lemmas.Option.{same_Some}

-- ---- a chosen top has the name by which it was chosen

found_named : (subs : List Sub) (name : List ℕ) (s : Sub) → find_sub subs name ≡ Some s → s.head.name ≡ name
found_named [] name s e = absurd cc
found_named (t ∷ subs) name s e = by (same_text t.head.name name) refl (found_named subs name s) e where
  by : (b : Bool) → same_text t.head.name name ≡ b → (find_sub subs name ≡ Some s → s.head.name ≡ name) → cond b (Some t) (find_sub subs name) ≡ Some s → s.head.name ≡ name
  by true f later g = subst (λ (x : Sub). x.head.name ≡ name) (same_Some t s g) ((bytes_decides t.head.name name).0 f)
  by false f later g = later g

ok_head : (x y : Chosen) (r : Result Chosen Fault) → r ≡ Ok x → r ≡ Ok y → x.0 ≡ y.0
ok_head x y r e f = let g : x ≡ y = cc in ap (λ (c : Chosen). c.0) g

picked_named : (subs : List Sub) (name : List ℕ) (o : Option Sub) (top : List Body) (c : Chosen) → find_sub subs name ≡ o → pick name o top ≡ Ok c → option_map head_name c.0 ≡ Some name
unfolding pick
picked_named subs name None top c e f = absurd cc
picked_named subs name (Some s) [] c e f =
    ap (option_map head_name) (sym (ok_head (choice (Some s.head) s.cards) c (pick name (Some s) []) refl f)) ∙ ap (λ n. Some n) (found_named subs name s e)
picked_named subs name (Some s) (b ∷ bs) c e f = absurd cc

pub chosen_named : (d : Deck) (top : Option (List ℕ)) (c : Chosen) → chosen d top ≡ Ok c → option_map head_name c.0 ≡ top
chosen_named d None c e = ap (option_map head_name) (sym (ok_head (choice None d.top) c (chosen d None) refl e))
chosen_named d (Some name) c e = picked_named d.subs name (find_sub d.subs name) d.top c refl (sym (pick_is d name) ∙ e)

-- ---- and is chosen by it again

again_by : (f : Flat) (head : Option Head) (cs : List Body) → chosen (record { title = f.title; globals = f.rails; models = f.models; subs = subs_around head cs; top = top_without head cs; passed = f.passed }) (option_map head_name head) ≡ Ok (choice head cs)
unfolding pick
again_by f None cs = refl
again_by f (Some h) cs =
    let s : Sub = record { line = 0; head = h; cards = cs } in
    let d : Deck = record { title = f.title; globals = f.rails; models = f.models; subs = s ∷ []; top = []; passed = f.passed } in
    pick_is d h.name ∙ ap (λ b. pick h.name (cond b (Some s) None) []) (nat_list_eq_equiv.refl h.name)

pub chosen_again : (f : Flat) (top : Option (List ℕ)) → option_map head_name f.top ≡ top → chosen (deck_of f) top ≡ Ok (choice f.top (flat_cards f.devices))
chosen_again f top e = subst (λ t. chosen (deck_of f) t ≡ Ok (choice f.top (flat_cards f.devices))) e (again_by f f.top (flat_cards f.devices))
