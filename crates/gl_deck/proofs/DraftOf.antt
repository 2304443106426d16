-- A draft is what stands behind its cards, and stays so.
use Rattle.std.proofs.Common.{◌≡◌, ◌<◌, ◌≤◌, ◌+◌, ℕ, List, [], ◌∷◌, ◌++◌, Option, Some, None, refl, arith}
use Rattle.std.specs.Prelude.{filter_map, flat_map}
use Rattle.std.specs.List.{AllByRecursion}
use Rattle.gl_lists.proofs.Each.{each_push}
use Rattle.indexmap.specs.IndexSet.{insert_all}
use Rattle.gl_text.specs.LogicalLines.{same_text}
use Rattle.gl_text.specs.Cards.{Card}
use Rattle.gl_text.specs.Decks.{Sub, Placed, bodies, model_of, passed_of, globals_of, scope_behind}
use Rattle.gl_deck.specs.Drafts.{Draft, empty_draft, scope_of, with_card, known_at, nested_in, names_at}
use Rattle.gl_deck.proofs.PlacedLists.{placed, grown, IsNumbered, names_in, name_in, model_name, body_in, site_at}
use Rattle.gl_deck.proofs.CardSteps.{current_after, current_step, scope_grown, here_step, top_step, top_names_step, model_names_step, models_step, passed_step, sites_step, globals_step, globals_grown}
use Rattle.gl_deck.proofs.SubSteps.{SubsAre, OpenIs, subs_step}

-- a draft is what stands behind these cards, of which the next has line b or a later one
pub record IsDraftOf (b : ℕ) (cards : List Placed) (cur : Option Sub) (d : Draft) : Type 0 where
  pub current_is : d.current ≡ cur
  pub scope_is : scope_behind cards ≡ scope_of cur
  pub low : AllByRecursion (λ (p : Placed). p.scope.line < b) cards
  pub top_names_are : d.top_names ≡ names_in 0 cards
  pub here_are : names_at cur d ≡ names_in (scope_of cur).line cards
  pub model_names_are : d.model_names ≡ filter_map model_name cards
  pub globals_are : d.globals ≡ insert_all same_text [] (flat_map globals_of cards)
  pub models_are : d.models ≡ filter_map model_of cards
  pub subs_are : SubsAre b cards cur d.subs
  pub top_is : d.top ≡ bodies 0 cards
  pub passed_are : d.passed ≡ filter_map passed_of cards
  pub sites_are : d.sites ≡ filter_map site_at cards

pub numbered : (b : ℕ) (cards : List Placed) (d : Draft) (cur : Option Sub) → OpenIs b cards d.subs cur → IsNumbered cur
numbered b cards d None h = tt
numbered b cards d (Some s) h = h.0

scope_low : (b l : ℕ) (cards : List Placed) (d : Draft) (cur : Option Sub) → b ≤ l → OpenIs b cards d.subs cur → (scope_of cur).line < l + 1
scope_low b l cards d None e h = omega arith
scope_low b l cards d (Some s) e h = omega (arith, e, h.1)

lower : (b l : ℕ) (cards : List Placed) → b ≤ l → AllByRecursion (λ (p : Placed). p.scope.line < b) cards → AllByRecursion (λ (p : Placed). p.scope.line < l) cards
lower b l [] e h = tt
lower b l (p ∷ ps) e h = (omega (arith, e, h.0), lower b l ps e h.1)

-- a card more
pub step : (b l : ℕ) (cards : List Placed) (cur : Option Sub) (d : Draft) (card : Card) → b ≤ l → 0 < b → nested_in cur l card ≡ None → known_at cur d card ≡ None → IsDraftOf b cards cur d
    → IsDraftOf (l + 1) (cards ++ placed cur l card ∷ []) (current_after cur l card) (with_card cur d l card)
step b l cards cur d card e some nest k h =
    let p : Placed = placed cur l card in
    let new : Draft = with_card cur d l card in
    let n = numbered b cards d cur h.subs_are.current_is in
    let low = lower b l cards e h.low in
    record {
      current_is = current_step cur d l card h.current_is;
      scope_is = scope_grown cards cur l card h.scope_is;
      low = each_push (λ (q : Placed). q.scope.line < l + 1) cards p (lower b (l + 1) cards (omega (arith, e)) h.low) (scope_low b l cards d cur e h.subs_are.current_is);
      top_names_are = grown (name_in 0) cards p d.top_names new.top_names h.top_names_are (top_names_step cur d l card n k);
      here_are = here_step cards cur d l card k low h.top_names_are h.here_are;
      model_names_are = grown model_name cards p d.model_names new.model_names h.model_names_are (model_names_step cur d l card k);
      globals_are = globals_grown cards p d.globals new.globals h.globals_are (globals_step cur d l card);
      models_are = grown model_of cards p d.models new.models h.models_are (models_step cur d l card);
      subs_are = subs_step b l cards cur d card e some low nest k h.subs_are;
      top_is = grown (body_in 0) cards p d.top new.top h.top_is (top_step cur d l card n);
      passed_are = grown passed_of cards p d.passed new.passed h.passed_are (passed_step cur d l card);
      sites_are = grown site_at cards p d.sites new.sites h.sites_are (sites_step cur d l card);
    }

pub nothing_yet : IsDraftOf 1 [] None empty_draft
nothing_yet = record {
  current_is = refl;
  scope_is = refl;
  low = tt;
  top_names_are = refl;
  here_are = refl;
  model_names_are = refl;
  globals_are = refl;
  models_are = refl;
  subs_are = record { heads = refl; named = refl; closed_bodies = tt; closed_before = tt; closed_apart = tt; current_is = tt };
  top_is = refl;
  passed_are = refl;
  sites_are = refl;
}
