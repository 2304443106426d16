-- The deck and the library of two files.
use Rattle.std.proofs.Common.{◌≡◌, ◌≤◌, [], length, true, Ok, Err, Some, None, rules, refl, sym, ap, ◌∙◌, subst}
use Rattle.std.specs.Prelude.{codes, Result}
use Rattle.std.proofs.lemmas.List.Elements.{All-from_recursion}
use Rattle.gl_text.specs.Decks.{Deck, Sub, read_deck}
use Rattle.gl_text.specs.Flattening.{Flat, flatten}
use Rattle.gl_base.specs.Libraries.{PORTS, Library, read_library}
use Rattle.gl_flat.specs.PlainFlats.{plain}
use Rattle.gl_lib.specs.Sources.{IsWhole, HasWholeCells, AreSound, all_searched}
use Rattle.gl_lib.specs.Samples.{sample_deck, sample_file, sample_library, inverter_sub, inverter_read, buffer_file, buffer_library}

-- the value of an answer, or another where there is none
abbrev value : {V E : Type 0} → V → Result V E → V
value other (Ok v) = v
value other (Err e) = other

abbrev no_deck : Deck
no_deck = record { title = []; globals = []; models = []; subs = []; top = []; passed = [] }

abbrev no_flat : Flat
no_flat = record { title = []; rails = []; models = []; top = None; devices = []; passed = [] }

pub sample_is : (deck : Deck) (flat : Flat) → read_deck true sample_file ≡ Ok deck → flatten deck deck.globals (Some (codes "top")) ≡ Ok flat → plain flat ≡ sample_deck
sample_is deck flat d f =
    let deck_is : value no_deck (read_deck true sample_file) ≡ deck = ap (value no_deck) d in
    let flat_is : value no_flat (flatten (value no_deck (read_deck true sample_file)) (value no_deck (read_deck true sample_file)).globals (Some (codes "top"))) ≡ flat =
    ap (value no_flat) ((λ i. flatten (deck_is i) (deck_is i).globals (Some (codes "top"))) ∙ f) in
    ap plain (sym flat_is)

-- ---- the libraries

sample_cells : HasWholeCells sample_library
sample_cells = record {
  names_differ = refl;
  ports = All-from_recursion (λ (s : Sub). length s.head.ports ≤ PORTS) sample_library.deck.subs (search rules);
  small = search rules;
  as_many = refl;
  whole = All-from_recursion (IsWhole sample_library.deck.subs) (all_searched sample_library) (
    record { searched = search rules; calls = (tt, (tt, tt)) },
    (
      record { searched = search rules; calls = (tt, tt) },
      (
        record {
          searched = search rules;
          calls = ((inverter_sub, record { found = refl; as_many = refl }), ((inverter_sub, record { found = refl; as_many = refl }), (tt, tt)));
        },
        tt,
      ),
    ),
  );
}

pub sample_sound : AreSound sample_deck sample_library
sample_sound = record { source = search rules; cells = sample_cells }

buffer_cells : HasWholeCells buffer_library
buffer_cells = record {
  names_differ = refl;
  ports = All-from_recursion (λ (s : Sub). length s.head.ports ≤ PORTS) buffer_library.deck.subs (search rules);
  small = search rules;
  as_many = refl;
  whole = All-from_recursion (IsWhole buffer_library.deck.subs) (all_searched buffer_library) (
    record { searched = search rules; calls = (tt, (tt, tt)) },
    (
      record {
        searched = search rules;
        calls = ((inverter_read, record { found = refl; as_many = refl }), ((inverter_read, record { found = refl; as_many = refl }), tt));
      },
      tt,
    ),
  );
}

buffer_sound : AreSound sample_deck buffer_library
buffer_sound = record { source = search rules; cells = buffer_cells }

pub library_is : (library : Library) → read_library buffer_file ≡ Ok library → AreSound sample_deck library
library_is library e = subst (AreSound sample_deck) (ap (value buffer_library) e) buffer_sound
