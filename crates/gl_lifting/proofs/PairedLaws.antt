-- Where devices of a flat deck stand for original ones line by line, the deck is restored: link 5, but for the pairing.
use Rattle.std.proofs.Common.{◌≡◌, ◌∙◌, ◌+◌, ℕ, false, List, [], ◌∷◌, map, length, Option, None, Some, Ok, refl, sym, ap, subst, inl, inr}
use Rattle.std.specs.Prelude.{Contains, zip, filter_map, not}
use Rattle.std.specs.Option.{option_map}
use Rattle.std.specs.List.{AllByRecursion}
use Rattle.std.proofs.lemmas.Bool.{eq-eqb}
use Rattle.gl_match.proofs.Lists.{Once, in_map, from_map, from_flat_map, in_cons, in_none}
use Rattle.gl_text.specs.LogicalLines.{same_text}
use Rattle.gl_text.specs.Cards.{Device as Card, first_byte}
use Rattle.gl_text.specs.Decks.{is_in}
use Rattle.gl_text.specs.Flattening.{Flat}
use Rattle.gl_base.specs.BaseCircuit.{nets_of}
use Rattle.gl_base.specs.Rounds.{cards_of}
use Rattle.gl_base.proofs.OnceLaws.{found}
use Rattle.gl_base.proofs.TextLaws.{exact, itself, each_once, names_were, node_is_net}
use Rattle.gl_lifting.specs.NameMaps.{NameMap}
use Rattle.gl_text.specs.PlainFlats.{plain, plain_by}
use Rattle.gl_lifting.specs.Renaming.{RestoreFault, missing, extra, net_merge, letter_changed, device_merge, old_name, device_back, new_names, first_line, is_for_none, is_merged, has_other_letter, restore_fault, restore, unless_fault, renamed, first_fault}
use Rattle.gl_lifting.specs.Pairing.{StandsFor, ArePaired}
use Rattle.gl_lifting.proofs.SoughtLaws.{name_of, found_by_name, one_of_name, none_found, no_line, line_of_old, beside_line, beside_device, beside_right}
use Rattle.gl_lists.proofs.Cons.{head_is, tail_is}
use Rattle.gl_lists.proofs.Each.{each_in as one_of}

abbrev old_names : List (List ℕ × List ℕ) → List (List ℕ)
old_names lines = map (λ (m : List ℕ × List ℕ). m.1) lines

abbrev card_by : List ℕ → List (List ℕ) → Option (List ℕ) → List ℕ → Card
card_by name nodes model tail = record { name = name; nodes = nodes; model = model; tail = tail }

-- what stands for an original device is it, under the old names
pub back_is : (m : NameMap) (devices : List Card) (n : List ℕ × List ℕ) (c : Card) → Once (map name_of devices) → n.1 ≡ c.name → StandsFor m devices n c → device_back m devices n ≡ Some c
back_is m devices n c o e s =
    let by : Card → Card = λ d. record { name = n.1; nodes = map (old_name m.nets) d.nodes; model = d.model; tail = d.tail } in
    let k = s.card in
    let same : by k ≡ c = ap (λ x. card_by x (map (old_name m.nets) k.nodes) k.model k.tail) e ∙ ap (λ x. card_by c.name x k.model k.tail) s.nodes ∙ ap (λ x. card_by c.name c.nodes x k.tail) s.model ∙ ap (λ x. card_by c.name c.nodes c.model x) s.tail in
    ap (option_map by) (found_by_name devices k n.0 o s.stands s.named) ∙ ap Some same

-- so all of them are, in the map's order
all_back : (m : NameMap) (devices : List Card) (ns : List (List ℕ × List ℕ)) (cs : List Card) → Once (map name_of devices) → old_names ns ≡ map name_of cs → AllByRecursion (λ (p : (List ℕ × List ℕ) × Card). StandsFor m devices p.0 p.1) (zip ns cs) → filter_map (device_back m devices) ns ≡ cs
all_back m devices [] [] o e h = refl
all_back m devices [] (c ∷ cs) o e h = absurd cc
all_back m devices (n ∷ ns) [] o e h = absurd cc
all_back m devices (n ∷ ns) (c ∷ cs) o e h =
    let one = back_is m devices n c o (head_is n.1 c.name (old_names ns) (map name_of cs) e) h.0 in
    ap (λ (x : Option Card). put x (filter_map (device_back m devices) ns)) one
    ∙ ap (λ ds. c ∷ ds) (all_back m devices ns cs o (tail_is n.1 c.name (old_names ns) (map name_of cs) e) h.1)
  where
    put : Option Card → List Card → List Card
    put None ds = ds
    put (Some d) ds = d ∷ ds

-- lines of one old name are one, where old names differ
one_of_old : (ls : List (List ℕ × List ℕ)) (a b : List ℕ × List ℕ) → Once (old_names ls) → Contains ls a → Contains ls b → a.1 ≡ b.1 → a ≡ b
one_of_old [] a b o ha hb e = absurd (in_none a ha)
one_of_old (l ∷ ls) a b o ha hb e = elim (in_cons l ls a ha) [
  | inl at_a ↦ elim (in_cons l ls b hb) [
    | inl at_b ↦ sym at_a ∙ at_b
    | inr later ↦ absurd (o.0 (subst (λ z. Contains (old_names ls) z) (sym e ∙ sym (ap second at_a)) (in_map second ls b later)))
  ]
  | inr late_a ↦ elim (in_cons l ls b hb) [
    | inl at_b ↦ absurd (o.0 (subst (λ z. Contains (old_names ls) z) (e ∙ sym (ap second at_b)) (in_map second ls a late_a)))
    | inr late_b ↦ one_of_old ls a b o.1 late_a late_b e
  ]
]
  where
    second : List ℕ × List ℕ → List ℕ
    second n = n.1

-- the first of seven faults
abbrev faults : Option (List ℕ) → Option (List ℕ) → Option ℕ → Option ℕ → Option ℕ → Option ℕ → Option ℕ → Option RestoreFault
faults a b c d e f g = first_fault (option_map missing a ∷ option_map missing b ∷ option_map extra c ∷ option_map extra d ∷ option_map net_merge e ∷ option_map letter_changed f ∷ option_map device_merge g ∷ [])

no_faults : (a b : Option (List ℕ)) (c d e f g : Option ℕ) → a ≡ None → b ≡ None → c ≡ None → d ≡ None → e ≡ None → f ≡ None → g ≡ None → faults a b c d e f g ≡ None
no_faults a b c d e f g p q r s t u v =
    ap (λ x. faults x b c d e f g) p ∙ ap (λ x. faults None x c d e f g) q ∙ ap (λ x. faults None None x d e f g) r ∙ ap (λ x. faults None None None x e f g) s
    ∙ ap (λ x. faults None None None None x f g) t ∙ ap (λ x. faults None None None None None x g) u ∙ ap (λ x. faults None None None None None None x) v

module _ (f : Flat) (m : NameMap) (g : Flat) (paired : ArePaired f m g) (differ : Once (map name_of (cards_of f))) (olds : old_names m.devices ≡ map name_of (cards_of g)) (nets : old_names m.nets ≡ nets_of (cards_of g)) (full : Contains (nets_of (cards_of g)) [] → ⊥) where
  -- the old name of a net of the deck is a net of the original
  pub old_stands : (x : List ℕ) → Contains (nets_of (cards_of f)) x → Contains (nets_of (cards_of g)) (old_name m.nets x)
  old_stands x h =
      let at = from_flat_map (λ (d : Card). d.nodes) (cards_of f) x (names_were _ x h) in
      let line = from_map (λ (n : List ℕ × List ℕ). n.0) m.devices at.0.name (paired.known at.0 at.1) in
      let mate = beside_line m.devices (cards_of g) olds line.0 line.1 in
      let s : StandsFor m (cards_of f) line.0 mate.0 = one_of (λ (p : (List ℕ × List ℕ) × Card). StandsFor m (cards_of f) p.0 p.1) (zip m.devices (cards_of g)) (line.0, mate.0) paired.each mate.1 in
      let same : at.0 ≡ s.card = one_of_name (cards_of f) at.0 s.card differ at.1 s.stands (sym line.2 ∙ sym s.named) in
      let node = in_map (old_name m.nets) at.0.nodes x at.2 in
      let moved : map (old_name m.nets) at.0.nodes ≡ mate.0.nodes = ap (λ (d : Card). map (old_name m.nets) d.nodes) same ∙ s.nodes in
      node_is_net (cards_of g) mate.0 (old_name m.nets x) (beside_right m.devices (cards_of g) line.0 mate.0 mate.1) (subst (λ ns. Contains ns (old_name m.nets x)) moved node)

  -- so each net of the deck has a line
  net_known : (x : List ℕ) → Contains (nets_of (cards_of f)) x → Contains (new_names m.nets) x
  net_known x h =
      let r = line_of_old m.nets x (λ e. full (subst (λ z. Contains (nets_of (cards_of g)) z) e (old_stands x h))) in
      subst (λ z. Contains (new_names m.nets) z) r.2 (in_map (λ (n : List ℕ × List ℕ). n.0) m.nets r.0 r.1)

  -- and each line of a net is for one of the deck
  net_stands : (n : List ℕ × List ℕ) → Contains m.nets n → Contains (nets_of (cards_of f)) n.0
  net_stands n h =
      let old = subst (λ ns. Contains ns n.1) nets (in_map (λ (l : List ℕ × List ℕ). l.1) m.nets n h) in
      let at = from_flat_map (λ (d : Card). d.nodes) (cards_of g) n.1 (names_were _ n.1 old) in
      let mate = beside_device m.devices (cards_of g) olds at.0 at.1 in
      let s : StandsFor m (cards_of f) mate.0 at.0 = one_of (λ (p : (List ℕ × List ℕ) × Card). StandsFor m (cards_of f) p.0 p.1) (zip m.devices (cards_of g)) (mate.0, at.0) paired.each mate.1 in
      let x = from_map (old_name m.nets) s.card.nodes n.1 (subst (λ ns. Contains ns n.1) (sym s.nodes) at.2) in
      let r = line_of_old m.nets x.0 (λ e. full (subst (λ z. Contains (nets_of (cards_of g)) z) (sym x.2 ∙ e) old)) in
      let same : r.0 ≡ n = one_of_old m.nets r.0 n (subst Once (sym nets) (each_once _)) r.1 h (r.3 ∙ x.2) in
      let new : x.0 ≡ n.0 = sym r.2 ∙ ap (λ (l : List ℕ × List ℕ). l.0) same in
      subst (λ z. Contains (nets_of (cards_of f)) z) new (node_is_net (cards_of f) s.card x.0 s.stands x.1)

  -- what stands for the original device of a line
  stander : (n : List ℕ × List ℕ) → Contains m.devices n → (c : Card) × StandsFor m (cards_of f) n c
  stander n h =
      let mate = beside_line m.devices (cards_of g) olds n h in
      (mate.0, one_of (λ (p : (List ℕ × List ℕ) × Card). StandsFor m (cards_of f) p.0 p.1) (zip m.devices (cards_of g)) (n, mate.0) paired.each mate.1)

  in_new : (ls : List (List ℕ × List ℕ)) (x : List ℕ) → Contains (new_names ls) x → not (is_in x (new_names ls)) ≡ false
  in_new ls x h = ap not (found same_text exact itself (new_names ls) x h)

  no_fault : ((k : ℕ) → first_line is_merged k [] m.nets ≡ None) → ((k : ℕ) → first_line is_merged k [] m.devices ≡ None) → restore_fault f m ≡ None
  no_fault nets_apart devices_apart =
      no_faults _ _ _ _ _ _ _
      (none_found _ (map name_of (cards_of f)) (λ x h. let r = from_map name_of (cards_of f) x h in in_new m.devices x (subst (λ z. Contains (new_names m.devices) z) r.2 (paired.known r.0 r.1))))
      (none_found _ (nets_of (cards_of f)) (λ x h. in_new m.nets x (net_known x h)))
      (no_line (is_for_none (map name_of (cards_of f))) 2 [] m.devices (λ b n h. let s = (stander n h).1 in ap not (found same_text exact itself (map name_of (cards_of f)) n.0 (subst (λ z. Contains (map name_of (cards_of f)) z) s.named (in_map name_of (cards_of f) s.card s.stands)))))
      (no_line (is_for_none (nets_of (cards_of f))) (2 + length m.devices) [] m.nets (λ b n h. ap not (found same_text exact itself (nets_of (cards_of f)) n.0 (net_stands n h))))
      (nets_apart (2 + length m.devices))
      (no_line has_other_letter 2 [] m.devices (λ b n h. ap not (eq-eqb (first_byte n.0) (first_byte n.1) (stander n h).1.letter)))
      (devices_apart 2)

  pub paired_back : ((k : ℕ) → first_line is_merged k [] m.nets ≡ None) → ((k : ℕ) → first_line is_merged k [] m.devices ≡ None) → plain_by f (cards_of g) ≡ plain g → restore f m ≡ Ok (plain g)
  paired_back nets_apart devices_apart shell =
      ap (λ o. unless_fault o (renamed f m)) (no_fault nets_apart devices_apart)
      ∙ ap Ok (ap (plain_by f) (all_back m (cards_of f) m.devices (cards_of g) differ olds paired.each) ∙ shell)
