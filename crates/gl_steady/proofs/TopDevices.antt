-- Flat devices at the top: their cards are the same, and flattening those cards gives them, within its limits.
use Rattle.std.proofs.Common.{◌≡◌, ◌≤◌, ◌+◌, ℕ, zero, suc, List, [], ◌∷◌, length, map, cond, ltb, not, Bool, true, false, Option, None, refl, sym, ap, ◌∙◌, filter, flat_map, fold, sum_by, arith, ltb-true}
use Rattle.gl_text.specs.LogicalLines.{Fault, too_deep, too_many_cards, too_many_devices}
use Rattle.gl_fault.proofs.FirstLaws.{first_none}
use Rattle.gl_fault.specs.Refusals.{first_some, when}
use Rattle.gl_text.specs.Cards.{Device}
use Rattle.gl_text.specs.Decks.{Body, dev_at, Sub, is_in, callees, deck_text}
use Rattle.gl_text.specs.Flattening.{DEPTH, CARDS, DEVICES, Net, FlatDevice, Place, Flat, top_net, top_place, is_rail, net_of, net_name, device_name, flat_card, devices_of, flat_devices, flat_text, size_of, sizes, one, one_device, at_depth, is_none_left}
use Rattle.gl_printed.specs.FlatDecks.{flat_cards, subs_around, top_without, deck_of}
use Rattle.gl_printed.proofs.FlatAlike.{faults_flat}
use Rattle.gl_printed.proofs.FlatDeckLaws.{flat_text_is}
use Rattle.gl_flat.proofs.PlainLaws.{card_stays}
use Rattle.gl_steady.proofs.AtTop.{at_top, all_at_top}

-- ---- cards

cards_stay : (ds : List FlatDevice) → flat_cards (map at_top ds) ≡ flat_cards ds
cards_stay [] = refl
cards_stay (d ∷ ds) = ap (λ c. dev_at 0 c ∷ flat_cards (map at_top ds)) (card_stays (flat_card d)) ∙ ap (λ cs. dev_at 0 (flat_card d) ∷ cs) (cards_stay ds)

pub deck_stays : (f : Flat) → deck_of (all_at_top f) ≡ deck_of f
deck_stays f = ap (λ cs. record { title = f.title; globals = f.rails; models = f.models; subs = subs_around f.top cs; top = top_without f.top cs; passed = f.passed }) (cards_stay f.devices)

pub text_stays : (f : Flat) → flat_text (all_at_top f) ≡ flat_text f
text_stays f = flat_text_is (all_at_top f) ∙ ap deck_text (deck_stays f) ∙ sym (flat_text_is f)

-- ---- devices

net_at_top : (rails : List (List ℕ)) (n : List ℕ) → net_of rails top_place n ≡ top_net n
net_at_top rails n = by (is_rail rails n) where
  by : (b : Bool) → cond b (top_net n) (top_net n) ≡ top_net n
  by true = refl
  by false = refl

nets_at_top : (rails ns : List (List ℕ)) → map (net_of rails top_place) ns ≡ map top_net ns
nets_at_top rails [] = refl
nets_at_top rails (n ∷ ns) = ap (λ m. m ∷ map (net_of rails top_place) ns) (net_at_top rails n) ∙ ap (λ xs. top_net n ∷ xs) (nets_at_top rails ns)

abbrev placed : Device → List Net → FlatDevice
placed card nets = record { path = []; card = card; nets = nets }

cards_at_top : (rails : List (List ℕ)) (subs : List Sub) (inner : Place → List Body → List FlatDevice) (ds : List FlatDevice) → flat_map (devices_of rails subs inner top_place) (flat_cards ds) ≡ map at_top ds
cards_at_top rails subs inner [] = refl
cards_at_top rails subs inner (d ∷ ds) =
    ap (λ ns. placed (flat_card d) ns ∷ flat_map (devices_of rails subs inner top_place) (flat_cards ds)) (nets_at_top rails (map net_name d.nets))
    ∙ ap (λ xs. at_top d ∷ xs) (cards_at_top rails subs inner ds)

-- the devices of the cards of flat devices are these, at the top
pub devices_at_top : (rails : List (List ℕ)) (subs : List Sub) (depth : ℕ) (ds : List FlatDevice) → flat_devices rails subs depth top_place (flat_cards ds) ≡ map at_top ds
devices_at_top rails subs zero ds = cards_at_top rails subs (λ p c. []) ds
devices_at_top rails subs (suc depth) ds = cards_at_top rails subs (flat_devices rails subs depth) ds

-- ---- limits

none_called : (ds : List FlatDevice) → callees (flat_cards ds) ≡ []
none_called [] = refl
none_called (d ∷ ds) = none_called ds

none_named : (subs : List Sub) → filter (λ (s : Sub). is_in s.head.name []) subs ≡ []
none_named [] = refl
none_named (s ∷ subs) = none_named subs

none_deep : (subs : List Sub) (ds : List FlatDevice) (n : ℕ) → at_depth subs (flat_cards ds) n ≡ []
none_deep subs ds zero = ap (λ names. filter (λ (s : Sub). is_in s.head.name names) subs) (none_called ds) ∙ none_named subs
none_deep subs ds (suc n) = ap (λ ss. filter (λ (s : Sub). is_in s.head.name (flat_map (λ (t : Sub). callees t.cards) ss)) subs) (none_deep subs ds n) ∙ none_named subs

each_once : (own : Body → ℕ) → ((c : Device) → own (dev_at 0 c) ≡ 1) → (a : ℕ) (ds : List FlatDevice) → fold (λ n b. n + own b) a (flat_cards ds) ≡ a + length ds
each_once own h a [] = omega arith
each_once own h a (d ∷ ds) =
    let rest : (a + 1) + length ds ≡ a + length (d ∷ ds) = omega arith in
    ap (λ n. fold (λ m b. m + own b) (a + n) (flat_cards ds)) (h (flat_card d)) ∙ each_once own h (a + 1) ds ∙ rest

none_over : (limit n : ℕ) (f : Fault) → n ≤ limit → when (ltb limit n) f ≡ None
none_over limit n f h = by (ltb limit n) refl where
  by : (b : Bool) → ltb limit n ≡ b → when b f ≡ None
  by true e = let l = ltb-true limit n e in absurd (omega (arith, l, h))
  by false e = refl

-- cards of at most so many devices exceed nothing
pub none_exceeds : (depth : ℕ) (subs : List Sub) (ds : List FlatDevice) → length ds ≤ DEVICES → first_some (faults_flat depth subs (flat_cards ds)) ≡ None
unfolding faults_flat
none_exceeds depth subs ds h =
    let cards = sum_by (size_of one (sizes one subs depth)) (flat_cards ds) in
    let devices = sum_by (size_of one_device (sizes one_device subs depth)) (flat_cards ds) in
    let a = each_once (size_of one (sizes one subs depth)) (λ c. refl) 0 ds in
    let b = each_once (size_of one_device (sizes one_device subs depth)) (λ c. refl) 0 ds in
    let few_cards : cards ≤ CARDS = omega (arith, a, h) in
    let few : devices ≤ DEVICES = omega (arith, b, h) in
    first_none (when (not (is_none_left (at_depth subs (flat_cards ds) depth))) (too_deep (DEPTH + 1)) ∷ when (ltb CARDS cards) (too_many_cards (CARDS + 1)) ∷ when (ltb DEVICES devices) (too_many_devices (DEVICES + 1)) ∷ []) (
      ap (λ ss. when (not (is_none_left ss)) (too_deep (DEPTH + 1))) (none_deep subs ds depth),
      (
        none_over CARDS cards (too_many_cards (CARDS + 1)) few_cards,
        (none_over DEVICES devices (too_many_devices (DEVICES + 1)) few, tt),
      ),
    )
