-- Side facts of a lawful history of bytes: composites can be numbered, and where there is one the deck has a net; so all parts suit.
use Rattle.std.proofs.Common.{◌≡◌, ◌≤◌, ◌<◌, ◌^◌, ◌+◌, ℕ, List, [], ◌∷◌, length, eqb, refl, sym, ap, subst, arith}
use Rattle.std.specs.Prelude.{Contains}
use Rattle.std.proofs.lemmas.List.{length-map}
use Rattle.std.proofs.lemmas.List.Elements.{Contains-get_or}
use Rattle.gl_match.proofs.Lists.{in_head}
use Rattle.gl_text.specs.Cards.{Device as Card, dev, device, other, kinds, by_byte, first_byte}
use Rattle.gl_text.specs.Flattening.{Flat, flat_card}
use Rattle.gl_printed.specs.ReadCards.{IsFine}
use Rattle.gl_base.specs.BaseCircuit.{nets_of}
use Rattle.gl_base.specs.Libraries.{Library}
use Rattle.gl_base.specs.Rails.{run_rails}
use Rattle.gl_base.specs.Rounds.{cards_of}
use Rattle.gl_base.proofs.TextLaws.{node_is_net}
use Rattle.gl_lifting.specs.Runs.{run_of}
use Rattle.gl_lifting.specs.Histories.{History}
use Rattle.gl_lifting.specs.Lifted.{Options}
use Rattle.gl_lifting.specs.Chain.{IsLawfulOf}
use Rattle.gl_lifting.specs.Suited.{HasSuited}
use Rattle.gl_lifting.proofs.TurnedNameLaws.{by_letter, no_device}
use Rattle.gl_lifting.proofs.FlatCardLaws.{in_each, cards_fine}
use Rattle.gl_lifting.proofs.OriginLaws.{devices_once, composites_once}
use Rattle.gl_lifting.proofs.ReadBytesLaws.{flat_known, read_libraries}
use Rattle.gl_lifting.proofs.SuitedHistoryLaws.{history_suits}
use Rattle.gl_lifting.proofs.ThreeLinkLaws.{cells_told}
use Rattle.gl_lifting.proofs.CountLaws.{flat_few}
use Rattle.gl_lifting.proofs.LibraryLaws.{library_clear}
use Rattle.gl_lifting.proofs.SizeLaws.{composites_few, each_most, each_none}

-- a device card's letter demands a node
letter_some : (b nodes count : ℕ) → by_byte (kinds other) b ≡ device nodes count → 0 < nodes
letter_some b nodes count =
    let P : ℕ → Type 0 = λ x. by_byte (kinds other) x ≡ device nodes count → 0 < nodes in
    by_letter 109 b P (λ e. some 4 6 e (omega arith)) (λ m. by_letter 100 b P (λ e. some 2 4 e (omega arith)) (λ d. by_letter 114 b P (λ e. some 2 3 e (omega arith)) (λ r. by_letter 99 b P (λ e. some 2 3 e (omega arith)) (λ c. by_letter 108 b P (λ e. some 2 3 e (omega arith)) (λ l.
    by_letter 118 b P (λ e. some 2 3 e (omega arith)) (λ v. by_letter 105 b P (λ e. some 2 3 e (omega arith)) (λ i. λ e. absurd (no_device (eqb 120 b) (eqb 46 b) nodes count (rw (m, d, r, c, l, v, i) at e)))))))))
  where
    same : (a k : ℕ) → device a k ≡ device nodes count → a ≡ nodes
    same a k e = cc

    some : (a k : ℕ) → device a k ≡ device nodes count → 0 < a → 0 < nodes
    some a k e lt = omega (arith, same a k e, lt)

module _ (deck_bytes library_bytes : List ℕ) (o : Options) (flat : Flat) (library : Library) (h : History) (stem : List ℕ) (is : IsLawfulOf deck_bytes library_bytes o flat library h stem) where
  -- composites can be numbered
  pub few_composites : length h.last.composites + 3 ≤ 2 ^ 64
  few_composites =
      let run = run_of flat library o.keep in
      let devices = flat_few is.deck (run_rails is.deck.globals library.deck.globals) o.top flat is.flat_is in
      let long : length run.source.devices ≡ length flat.devices = length-map flat.devices flat_card in
      let few = composites_few 200000 run h (cells_told library_bytes library is.library_is) is.lawful (omega (arith, devices, long)) in
      omega (arith, few, each_most h.rounds, is.lawful.levels, (library_clear library_bytes library is.library_is).levels)

  -- where there is one, the deck has a net
  pub some_net : 0 < length h.last.composites → 0 < length (nets_of (cards_of flat))
  some_net lt = go (cards_of flat) refl where
    go : (xs : List Card) → cards_of flat ≡ xs → 0 < length (nets_of (cards_of flat))
    go [] e =
        let few = composites_few 0 (run_of flat library o.keep) h (cells_told library_bytes library is.library_is) is.lawful (let none = ap length e in omega (arith, none)) in
        absurd (omega (arith, few, each_none h.rounds, lt))
    go (c ∷ xs) e =
        let there : Contains (cards_of flat) c = subst (λ (ys : List Card). Contains ys c) (sym e) (in_head c xs) in
        let fine = in_each (λ (x : Card). IsFine (dev x)) (cards_of flat) c (cards_fine flat (flat_known deck_bytes library_bytes o flat library h stem is)) there in
        let node = node_is_net (cards_of flat) c _ there (Contains-get_or c.nodes 0 [] (letter_some (first_byte c.name) (length c.nodes) _ (fine.is_read.kind.letter other))) in
        omega (arith, node.1)

  -- all parts suit
  pub all_suit : HasSuited (run_of flat library o.keep).source flat library h
  all_suit = history_suits flat library o.keep h (read_libraries library_bytes library is.library_is).0 some_net is.lawful (devices_once (run_of flat library o.keep) h is.lawful) (composites_once (run_of flat library o.keep) h is.lawful) few_composites
