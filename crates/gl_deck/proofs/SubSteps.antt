-- A card more: the subcircuits.
use Rattle.std.proofs.Common.{◌≡◌, ◌<◌, ◌≤◌, ◌+◌, ℕ, List, [], ◌∷◌, ◌++◌, map, cond, eqb, false, Option, Some, None, refl, sym, ap, ◌∙◌, subst, arith}
use Rattle.std.specs.Prelude.{filter_map, ⊤, option_map, option_to_list}
use Rattle.std.specs.List.{AllByRecursion}
use Rattle.std.specs.Map.{lookup, keys_of, values_of}
use Rattle.std.proofs.lemmas.List.{append-nil, map-append}
use Rattle.gl_lists.proofs.Each.{each_push}
use Rattle.indexmap.specs.IndexMap.{insert_entry}
use Rattle.gl_text.specs.LogicalLines.{same_text}
use Rattle.gl_text.specs.Cards.{Head, Card, dev, call, model, subckt, ends, global, ended, passed}
use Rattle.gl_text.specs.Decks.{Body, dev_at, call_at, Sub, Placed, body_of, bodies}
use Rattle.gl_deck.specs.Bodies.{names_of}
use Rattle.gl_deck.specs.Drafts.{Draft, scope_of, with_card, known_at, nested_in}
use Rattle.gl_deck.proofs.TableLaws.{keyed_more}
use Rattle.gl_deck.proofs.PlacedLists.{placed, push, none_more, apart, apart_back, same_number, absent, body_in}
use Rattle.gl_deck.proofs.CardSteps.{current_after, no_bodies}

-- the line and the head of a `.subckt`
abbrev pub head_in : ℕ → Card → Option (ℕ × Head)
head_in line (subckt h) = Some (line, h)
head_in line _ = None

abbrev pub head_at : Placed → Option (ℕ × Head)
head_at p = head_in p.line p.card

abbrev pub head_part : Sub → ℕ × Head
head_part s = (s.line, s.head)

abbrev pub heads_of : List (List ℕ × Sub) → Option Sub → List (ℕ × Head)
heads_of subs cur = map head_part (values_of subs) ++ option_to_list (option_map head_part cur)

abbrev pub HasBodies : List Placed → Sub → Type 0
HasBodies cards s = s.cards ≡ bodies s.line cards

abbrev pub StandsBefore : ℕ → Sub → Type 0
StandsBefore b s = (0 < s.line) × (s.line < b)

-- it is another one than that which is open
abbrev pub IsApart : Option Sub → Sub → Type 0
IsApart cur s = eqb (scope_of cur).line s.line ≡ false

abbrev pub OpenIs : ℕ → List Placed → List (List ℕ × Sub) → Option Sub → Type 0
OpenIs b cards subs None = ⊤
OpenIs b cards subs (Some s) = (0 < s.line) × (s.line < b) × HasBodies cards s × (lookup (same_text s.head.name) subs ≡ None)

-- what the closed subcircuits and the open one are behind cards
pub record SubsAre (b : ℕ) (cards : List Placed) (cur : Option Sub) (subs : List (List ℕ × Sub)) : Type 0 where
  pub heads : heads_of subs cur ≡ filter_map head_at cards
  pub named : keys_of subs ≡ names_of (values_of subs)
  pub closed_bodies : AllByRecursion (HasBodies cards) (values_of subs)
  pub closed_before : AllByRecursion (StandsBefore b) (values_of subs)
  pub closed_apart : AllByRecursion (IsApart cur) (values_of subs)
  pub current_is : OpenIs b cards subs cur

-- ---- bodies

-- a card of another scope is none of a subcircuit's
pub other_scope : (t : ℕ) (cards : List Placed) (p : Placed) → eqb p.scope.line t ≡ false → bodies t (cards ++ p ∷ []) ≡ bodies t cards
other_scope t cards p h = push (body_in t) cards p ∙ ap (λ b. bodies t cards ++ option_to_list (cond b (body_of p) None)) h ∙ append-nil (bodies t cards)

-- nor is one that is no device and no X card
pub no_body : (t : ℕ) (cards : List Placed) (p : Placed) → body_of p ≡ None → bodies t (cards ++ p ∷ []) ≡ bodies t cards
no_body t cards p h = push (body_in t) cards p ∙ ap (λ o. bodies t cards ++ option_to_list (cond (eqb p.scope.line t) o None)) h ∙ sym (none_more (bodies t cards) (eqb p.scope.line t))

own_body : (s : Sub) (cards : List Placed) (p : Placed) (card : Body) → p.scope.line ≡ s.line → body_of p ≡ Some card → HasBodies cards s → s.cards ++ card ∷ [] ≡ bodies s.line (cards ++ p ∷ [])
own_body s cards p card at is h =
    ap (λ t. t ++ card ∷ []) h
    ∙ ap (λ o. bodies s.line cards ++ option_to_list o) (sym (ap (λ n. cond (eqb n s.line) (body_of p) None) at ∙ ap (λ b. cond b (body_of p) None) (same_number s.line) ∙ is))
    ∙ sym (push (body_in s.line) cards p)

-- ---- the closed ones

pub bodies_kept : (cards : List Placed) (cur : Option Sub) (l : ℕ) (card : Card) (ss : List Sub) → AllByRecursion (HasBodies cards) ss → AllByRecursion (IsApart cur) ss
    → AllByRecursion (HasBodies (cards ++ placed cur l card ∷ [])) ss
bodies_kept cards cur l card [] h g = tt
bodies_kept cards cur l card (s ∷ ss) h g = (h.0 ∙ sym (other_scope s.line cards (placed cur l card) g.0), bodies_kept cards cur l card ss h.1 g.1)

pub later_before : (b c : ℕ) (ss : List Sub) → b ≤ c → AllByRecursion (StandsBefore b) ss → AllByRecursion (StandsBefore c) ss
later_before b c [] e h = tt
later_before b c (s ∷ ss) e h = ((h.0.0, omega (arith, e, h.0.1)), later_before b c ss e h.1)

new_apart : (b l : ℕ) (h : Head) (ss : List Sub) → b ≤ l → AllByRecursion (StandsBefore b) ss → AllByRecursion (IsApart (Some (record { line = l; head = h; cards = [] }))) ss
new_apart b l h [] e g = tt
new_apart b l h (s ∷ ss) e g = (apart_back s.line l (omega (arith, e, g.0.1)), new_apart b l h ss e g.1)

top_apart : (b : ℕ) (ss : List Sub) → AllByRecursion (StandsBefore b) ss → AllByRecursion (IsApart None) ss
top_apart b [] g = tt
top_apart b (s ∷ ss) g = (apart 0 s.line g.0.0, top_apart b ss g.1)

-- ---- a card that opens and closes nothing

heads_kept : (cards : List Placed) (p : Placed) (hs : List (ℕ × Head)) → head_at p ≡ None → hs ≡ filter_map head_at cards → hs ≡ filter_map head_at (cards ++ p ∷ [])
heads_kept cards p hs none h = h ∙ sym (append-nil (filter_map head_at cards)) ∙ ap (λ o. filter_map head_at cards ++ option_to_list o) (sym none) ∙ sym (push head_at cards p)

kept_top : (b l : ℕ) (cards : List Placed) (card : Card) (subs : List (List ℕ × Sub)) → b ≤ l → head_in l card ≡ None → SubsAre b cards None subs → SubsAre (l + 1) (cards ++ placed None l card ∷ []) None subs
kept_top b l cards card subs e none h = record {
  heads = heads_kept cards (placed None l card) (heads_of subs None) none h.heads;
  named = h.named;
  closed_bodies = bodies_kept cards None l card (values_of subs) h.closed_bodies h.closed_apart;
  closed_before = later_before b (l + 1) (values_of subs) (omega (arith, e)) h.closed_before;
  closed_apart = h.closed_apart;
  current_is = tt;
}

kept_inside : (b l : ℕ) (cards : List Placed) (s : Sub) (card : Card) (subs : List (List ℕ × Sub)) → b ≤ l → head_in l card ≡ None → body_of (placed (Some s) l card) ≡ None → SubsAre b cards (Some s) subs
    → SubsAre (l + 1) (cards ++ placed (Some s) l card ∷ []) (Some s) subs
kept_inside b l cards s card subs e none quiet h = record {
  heads = heads_kept cards (placed (Some s) l card) (heads_of subs (Some s)) none h.heads;
  named = h.named;
  closed_bodies = bodies_kept cards (Some s) l card (values_of subs) h.closed_bodies h.closed_apart;
  closed_before = later_before b (l + 1) (values_of subs) (omega (arith, e)) h.closed_before;
  closed_apart = h.closed_apart;
  current_is = (h.current_is.0, omega (arith, e, h.current_is.1), h.current_is.2 ∙ sym (no_body s.line cards (placed (Some s) l card) quiet), h.current_is.3);
}

more_inside : (b l : ℕ) (cards : List Placed) (s : Sub) (card : Card) (body : Body) (subs : List (List ℕ × Sub)) → b ≤ l → head_in l card ≡ None → body_of (placed (Some s) l card) ≡ Some body → SubsAre b cards (Some s) subs
    → SubsAre (l + 1) (cards ++ placed (Some s) l card ∷ []) (Some (record s { cards = s.cards ++ body ∷ [] })) subs
more_inside b l cards s card body subs e none is h = record {
  heads = heads_kept cards (placed (Some s) l card) (heads_of subs (Some s)) none h.heads;
  named = h.named;
  closed_bodies = bodies_kept cards (Some s) l card (values_of subs) h.closed_bodies h.closed_apart;
  closed_before = later_before b (l + 1) (values_of subs) (omega (arith, e)) h.closed_before;
  closed_apart = h.closed_apart;
  current_is = (h.current_is.0, omega (arith, e, h.current_is.1), own_body s cards (placed (Some s) l card) body refl is h.current_is.2, h.current_is.3);
}

-- ---- a subcircuit opens

opens : (b l : ℕ) (cards : List Placed) (k : Head) (subs : List (List ℕ × Sub)) → b ≤ l → 0 < b → AllByRecursion (λ (p : Placed). p.scope.line < l) cards → lookup (same_text k.name) subs ≡ None → SubsAre b cards None subs
    → SubsAre (l + 1) (cards ++ placed None l (subckt k) ∷ []) (Some (record { line = l; head = k; cards = [] })) subs
opens b l cards k subs e some low new h = record {
  heads = ap (λ t. t ++ (l, k) ∷ []) (sym (append-nil (map head_part (values_of subs))) ∙ h.heads) ∙ sym (push head_at cards (placed None l (subckt k)));
  named = h.named;
  closed_bodies = bodies_kept cards None l (subckt k) (values_of subs) h.closed_bodies h.closed_apart;
  closed_before = later_before b (l + 1) (values_of subs) (omega (arith, e)) h.closed_before;
  closed_apart = new_apart b l k (values_of subs) e h.closed_before;
  current_is = (omega (arith, e, some), omega arith, sym (no_body l cards (placed None l (subckt k)) refl ∙ no_bodies l cards low), new);
}

-- ---- it closes

closes : (b l : ℕ) (cards : List Placed) (s : Sub) (name : Option (List ℕ)) (subs : List (List ℕ × Sub)) → b ≤ l → SubsAre b cards (Some s) subs
    → SubsAre (l + 1) (cards ++ placed (Some s) l (ends name) ∷ []) None (insert_entry same_text subs s.head.name s)
closes b l cards s name subs e h =
    let p : Placed = placed (Some s) l (ends name) in
    let last : insert_entry same_text subs s.head.name s ≡ subs ++ (s.head.name, s) ∷ [] = absent s.head.name s subs h.current_is.3 in
    let those : values_of (insert_entry same_text subs s.head.name s) ≡ values_of subs ++ s ∷ [] = ap values_of last ∙ map-append (λ (x : List ℕ × Sub). x.1) subs ((s.head.name, s) ∷ []) in
    let P : List Sub → Type 0 = λ ss. AllByRecursion (HasBodies (cards ++ p ∷ [])) ss in
    let Q : List Sub → Type 0 = λ ss. AllByRecursion (StandsBefore (l + 1)) ss in
    let R : List Sub → Type 0 = λ ss. AllByRecursion (IsApart None) ss in
    record {
      heads = append-nil (map head_part (values_of (insert_entry same_text subs s.head.name s))) ∙ ap (map head_part) those ∙ map-append head_part (values_of subs) (s ∷ [])
          ∙ heads_kept cards p (heads_of subs (Some s)) refl h.heads;
      named = keyed_more subs s.head.name s refl h.named;
      closed_bodies = subst P (sym those) (each_push (HasBodies (cards ++ p ∷ [])) (values_of subs) s (bodies_kept cards (Some s) l (ends name) (values_of subs) h.closed_bodies h.closed_apart)
          (h.current_is.2 ∙ sym (no_body s.line cards p refl)));
      closed_before = subst Q (sym those) (each_push (StandsBefore (l + 1)) (values_of subs) s (later_before b (l + 1) (values_of subs) (omega (arith, e)) h.closed_before) (h.current_is.0, omega (arith, e, h.current_is.1)));
      closed_apart = subst R (sym those) (each_push (IsApart None) (values_of subs) s (top_apart b (values_of subs) h.closed_before) (apart 0 s.line h.current_is.0));
      current_is = tt;
    }

fresh : (o : Option Sub) → option_map (λ (s : Sub). s.line) o ≡ None → o ≡ None
fresh None h = refl
fresh (Some s) h = absurd cc

-- ---- each card

pub subs_step : (b l : ℕ) (cards : List Placed) (cur : Option Sub) (d : Draft) (card : Card) → b ≤ l → 0 < b → AllByRecursion (λ (p : Placed). p.scope.line < l) cards → nested_in cur l card ≡ None → known_at cur d card ≡ None
    → SubsAre b cards cur d.subs → SubsAre (l + 1) (cards ++ placed cur l card ∷ []) (current_after cur l card) (with_card cur d l card).subs
subs_step b l cards None d (dev c) e some low nest k h = kept_top b l cards (dev c) d.subs e refl h
subs_step b l cards (Some s) d (dev c) e some low nest k h = more_inside b l cards s (dev c) (dev_at l c) d.subs e refl refl h
subs_step b l cards None d (call c) e some low nest k h = kept_top b l cards (call c) d.subs e refl h
subs_step b l cards (Some s) d (call c) e some low nest k h = more_inside b l cards s (call c) (call_at l c) d.subs e refl refl h
subs_step b l cards None d (model m) e some low nest k h = kept_top b l cards (model m) d.subs e refl h
subs_step b l cards (Some s) d (model m) e some low nest k h = kept_inside b l cards s (model m) d.subs e refl refl h
subs_step b l cards None d (subckt g) e some low nest k h = opens b l cards g d.subs e some low (fresh (lookup (same_text g.name) d.subs) k) h
subs_step b l cards (Some s) d (subckt g) e some low nest k h = absurd cc
subs_step b l cards None d (ends name) e some low nest k h = kept_top b l cards (ends name) d.subs e refl h
subs_step b l cards (Some s) d (ends name) e some low nest k h = closes b l cards s name d.subs e h
subs_step b l cards None d (global names) e some low nest k h = kept_top b l cards (global names) d.subs e refl h
subs_step b l cards (Some s) d (global names) e some low nest k h = kept_inside b l cards s (global names) d.subs e refl refl h
subs_step b l cards None d ended e some low nest k h = kept_top b l cards ended d.subs e refl h
subs_step b l cards (Some s) d ended e some low nest k h = kept_inside b l cards s ended d.subs e refl refl h
subs_step b l cards None d (passed text) e some low nest k h = kept_top b l cards (passed text) d.subs e refl h
subs_step b l cards (Some s) d (passed text) e some low nest k h = kept_inside b l cards s (passed text) d.subs e refl refl h
