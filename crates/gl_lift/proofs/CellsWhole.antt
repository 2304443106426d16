-- The searched cells of a library that was read are whole, at every level.
use Rattle.std.proofs.Common.{◌≡◌, ◌<◌, ℕ, List, length, get_or, Bool, true, Option, Some, None, refl, sym, ap, ◌∙◌, subst, arith}
use Rattle.std.specs.Prelude.{Contains, All, filter, zip, slice_get}
use Rattle.std.proofs.lemmas.List.Elements.{Contains-get_or}
use Rattle.std.proofs.lemmas.Option.{slice_get-get_or}
use Rattle.std.proofs.lemmas.Slice.Zip.{length-zip, get_or-zip}
use Rattle.gl_lists.proofs.Each.{each_to, each_in}
use Rattle.gl_lists.proofs.Membership.{from_map, from_filter}
use Rattle.gl_text.specs.Decks.{Body, dev_at, call_at, Sub}
use Rattle.gl_printed.specs.ReadDecks.{FindsSub, FindsSubWithin, IsReadSub}
use Rattle.gl_base.specs.Libraries.{Skip, Cell, Library}
use Rattle.gl_base.specs.Rounds.{is_searched}
use Rattle.gl_cells.specs.KnownLibraries.{IsKnownLibrary}
use Rattle.gl_lib.specs.Sources.{IsWhole, all_searched}

-- an X card that finds its subcircuit within another finds it
finds : (subs : List Sub) (name : List ℕ) (b : Body) → FindsSubWithin subs name b → FindsSub subs b
finds subs name (dev_at line d) h = tt
finds subs name (call_at line c) h = (h.0, h.1)

searched_none : (skip : Option Skip) → is_searched skip ≡ true → skip ≡ None
searched_none None h = refl
searched_none (Some skip) h = absurd cc

module _ (library : Library) (known : IsKnownLibrary library) where
  -- a cell of which it is told that it is not skipped
  pair_whole : (p : Sub × Cell) → Contains (zip library.deck.subs library.cells) p → p.1.skip ≡ None → IsWhole library.deck.subs p.0
  pair_whole p at none =
      let subs = library.deck.subs in
      let cells = library.cells in
      let k = at.0 in
      let both = length-zip subs cells in
      let in_subs : k < length subs = omega (arith, at.1, both) in
      let in_cells : k < length cells = omega (arith, at.1, both) in
      let read : (get_or subs k p.0, get_or cells k p.1) ≡ p = sym (get_or-zip subs cells k p in_subs in_cells) ∙ at.2 in
      let sub_is : slice_get subs k ≡ Some p.0 = slice_get-get_or subs k p.0 in_subs ∙ ap (λ (q : Sub × Cell). Some q.0) read in
      let cell_is : slice_get cells k ≡ Some p.1 = slice_get-get_or cells k p.1 in_cells ∙ ap (λ (q : Sub × Cell). Some q.1) read in
      let there : Contains subs p.0 = (k, in_subs, ap (λ (q : Sub × Cell). q.0) read) in
      let own = each_in (IsReadSub subs) subs p.0 known.is_known.read.subs there in
      record {
        searched = known.searched k p.0 p.1 sub_is cell_is none;
        calls = each_to (FindsSubWithin subs p.0.head.name) (FindsSub subs) (λ b h. finds subs p.0.head.name b h) p.0.cards own.calls;
      }

  cell_whole : (s : Sub) → Contains (all_searched library) s → IsWhole library.deck.subs s
  cell_whole s at =
      let test : Sub × Cell → Bool = λ c. is_searched c.1.skip in
      let pairs = zip library.deck.subs library.cells in
      let a = from_map (λ (c : Sub × Cell). c.0) (filter test pairs) s at in
      let b = from_filter test pairs a.0 a.1 in
      subst (IsWhole library.deck.subs) a.2 (pair_whole a.0 b.0 (searched_none a.0.1.skip b.1))

  pub cells_whole : All (IsWhole library.deck.subs) (all_searched library)
  cells_whole k d lt = cell_whole (get_or (all_searched library) k d) (Contains-get_or (all_searched library) k d lt)
