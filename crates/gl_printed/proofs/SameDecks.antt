-- What is known of a deck that was read does not depend on line numbers.
use Rattle.std.proofs.Common.{◌≡◌, ℕ, List, [], ◌∷◌, map, true, false, refl, sym, ap, ◌∙◌, subst, codes}
use Rattle.std.specs.List.{AllByRecursion}
use Rattle.gl_text.specs.Cards.{Model, global, model, passed}
use Rattle.gl_text.specs.Decks.{Body, dev_at, call_at, Sub, Deck, has_twice, is_in, deck_text, body_name}
use Rattle.gl_printed.specs.ReadCards.{IsFine}
use Rattle.gl_printed.specs.ReadDecks.{body_card, IsTitle, AllDiffer, FindsSub, FindsSubWithin, IsReadSub, IsReadDeck, unnumbered_body, unnumbered_sub, unnumbered, ReadsBack}
use Rattle.gl_lists.proofs.Each.{each_map, each_to, each_unmap}
use Rattle.gl_printed.proofs.Renumbered.{Same, same_call}
use Rattle.gl_printed.proofs.ReadDeckLaws.{read_fine}

-- what holds of items holds of others that look the same
each_carried : {X : Type 0} (bare : X → X) (P Q R : X → Type 0) → ((x : X) → P x → Q (bare x)) → ((x : X) → Q (bare x) → R x) → (xs ys : List X) → map bare xs ≡ map bare ys → AllByRecursion P xs → AllByRecursion R ys
each_carried bare P Q R to fro xs ys e h = each_to (λ x. Q (bare x)) R fro ys (each_unmap Q bare ys (subst (AllByRecursion Q) e (each_map Q bare xs (each_to P (λ x. Q (bare x)) to xs h))))

Fine : Body → Type 0
Fine b = IsFine (body_card b)

fine_to : (b : Body) → Fine b → Fine (unnumbered_body b)
unfolding Fine
fine_to (dev_at line d) h = h
fine_to (call_at line c) h = h

fine_from : (b : Body) → Fine (unnumbered_body b) → Fine b
unfolding Fine
fine_from (dev_at line d) h = h
fine_from (call_at line c) h = h

bodies_same : (xs ys : List Body) → map unnumbered_body xs ≡ map unnumbered_body ys → AllByRecursion (λ b. IsFine (body_card b)) xs → AllByRecursion (λ b. IsFine (body_card b)) ys
unfolding Fine
bodies_same xs ys e h = each_carried unnumbered_body Fine Fine Fine fine_to fine_from xs ys e h

names_bare : (bs : List Body) → map body_name (map unnumbered_body bs) ≡ map body_name bs
names_bare [] = refl
names_bare (dev_at line d ∷ bs) = ap (λ xs. d.name ∷ xs) (names_bare bs)
names_bare (call_at line c ∷ bs) = ap (λ xs. c.name ∷ xs) (names_bare bs)

names_same : (xs ys : List Body) → map unnumbered_body xs ≡ map unnumbered_body ys → AllDiffer (map body_name xs) → AllDiffer (map body_name ys)
names_same xs ys e h = ap has_twice (sym (names_bare ys) ∙ ap (map body_name) (sym e) ∙ names_bare xs) ∙ h

-- ---- calls

finds_to : (subs : List Sub) (b : Body) → FindsSub subs b → FindsSub subs (unnumbered_body b)
finds_to subs (dev_at line d) h = h
finds_to subs (call_at line c) h = h

finds_from : (ss ts : List Sub) → Same ts ss → (b : Body) → FindsSub ss (unnumbered_body b) → FindsSub ts b
finds_from ss ts e (dev_at line d) h = h
finds_from ss ts e (call_at line c) h = let u = same_call ss ts c h.0 e h.1 in (u.0, u.1)

within_to : (subs : List Sub) (name : List ℕ) (b : Body) → FindsSubWithin subs name b → FindsSubWithin subs name (unnumbered_body b)
within_to subs name (dev_at line d) h = h
within_to subs name (call_at line c) h = h

within_from : (ss ts : List Sub) → Same ts ss → (name : List ℕ) (b : Body) → FindsSubWithin ss name (unnumbered_body b) → FindsSubWithin ts name b
within_from ss ts e name (dev_at line d) h = h
within_from ss ts e name (call_at line c) h = let u = same_call ss ts c h.0 e h.1 in (u.0, u.1, u.2 name ∙ h.2)

-- ---- subcircuits

sub_to : (subs : List Sub) (s : Sub) → IsReadSub subs s → IsReadSub subs (unnumbered_sub s)
unfolding Fine
sub_to subs s h = record {
  head = h.head;
  ports_differ = h.ports_differ;
  no_zero = h.no_zero;
  cards = each_map Fine unnumbered_body s.cards (each_to Fine (λ b. Fine (unnumbered_body b)) fine_to s.cards h.cards);
  names_differ = ap has_twice (names_bare s.cards) ∙ h.names_differ;
  calls = each_map (FindsSubWithin subs s.head.name) unnumbered_body s.cards (each_to (FindsSubWithin subs s.head.name) (λ b. FindsSubWithin subs s.head.name (unnumbered_body b)) (within_to subs s.head.name) s.cards h.calls);
}

sub_from : (ss ts : List Sub) → Same ts ss → (s : Sub) → IsReadSub ss (unnumbered_sub s) → IsReadSub ts s
unfolding Fine
sub_from ss ts e s h = record {
  head = h.head;
  ports_differ = h.ports_differ;
  no_zero = h.no_zero;
  cards = each_to (λ b. Fine (unnumbered_body b)) Fine fine_from s.cards (each_unmap Fine unnumbered_body s.cards h.cards);
  names_differ = ap has_twice (sym (names_bare s.cards)) ∙ h.names_differ;
  calls = each_to (λ b. FindsSubWithin ss s.head.name (unnumbered_body b)) (FindsSubWithin ts s.head.name) (within_from ss ts e s.head.name) s.cards (each_unmap (FindsSubWithin ss s.head.name) unnumbered_body s.cards h.calls);
}

names_of_subs : (ss : List Sub) → map (λ (s : Sub). s.head.name) (map unnumbered_sub ss) ≡ map (λ (s : Sub). s.head.name) ss
names_of_subs [] = refl
names_of_subs (s ∷ ss) = ap (λ xs. s.head.name ∷ xs) (names_of_subs ss)

-- ---- decks

same_read : (d e : Deck) → unnumbered d ≡ unnumbered e → IsReadDeck d → IsReadDeck e
same_read d e s h =
    let subs : map unnumbered_sub d.subs ≡ map unnumbered_sub e.subs = ap (λ (x : Deck). x.subs) s in
    let top : map unnumbered_body d.top ≡ map unnumbered_body e.top = ap (λ (x : Deck). x.top) s in
    let globals : d.globals ≡ e.globals = ap (λ (x : Deck). x.globals) s in
    let models : d.models ≡ e.models = ap (λ (x : Deck). x.models) s in
    record {
      title = subst IsTitle (ap (λ (x : Deck). x.title) s) h.title;
      globals = subst (AllByRecursion (λ n. IsFine (global (n ∷ [])))) globals h.globals;
      globals_differ = subst AllDiffer globals h.globals_differ;
      no_zero = subst (λ ns. is_in (codes "0") ns ≡ false) globals h.no_zero;
      models = subst (AllByRecursion (λ m. IsFine (model m))) models h.models;
      models_differ = subst (λ ms. AllDiffer (map (λ (m : Model). m.name) ms)) models h.models_differ;
      subs = each_carried unnumbered_sub (IsReadSub d.subs) (IsReadSub d.subs) (IsReadSub e.subs) (sub_to d.subs) (sub_from d.subs e.subs (sym subs)) d.subs e.subs subs h.subs;
      subs_differ = ap has_twice (sym (names_of_subs e.subs) ∙ ap (map (λ (t : Sub). t.head.name)) (sym subs) ∙ names_of_subs d.subs) ∙ h.subs_differ;
      top = bodies_same d.top e.top top h.top;
      top_differ = names_same d.top e.top top h.top_differ;
      top_calls = each_carried unnumbered_body (FindsSub d.subs) (FindsSub d.subs) (FindsSub e.subs) (finds_to d.subs) (finds_from d.subs e.subs (sym subs)) d.top e.top top h.top_calls;
      passed = subst (AllByRecursion (λ t. IsFine (passed t))) (ap (λ (x : Deck). x.passed) s) h.passed;
    }

-- a deck that reads back is as it is read
pub sound_read : (deck : Deck) → ReadsBack deck → IsReadDeck deck
sound_read deck h = same_read h.again deck h.is_same (read_fine true (deck_text deck) h.again h.is_read)
