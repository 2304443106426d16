-- A map that is read has names.
use Rattle.std.proofs.Common.{◌≡◌, ◌+◌, ℕ, List, [], ◌∷◌, ◌++◌, map, cond, true, false, Bool, Option, Some, None, Result, Ok, Err, refl, sym, ap, ◌∙◌, subst, append_assoc}
use Rattle.std.specs.Prelude.{◌&&◌, codes}
use Rattle.std.specs.List.{AllByRecursion, list_any}
use Rattle.std.proofs.lemmas.Bool.{and_parts}
use Rattle.std.proofs.lemmas.List.{append-nil, map-append}
use Rattle.std.proofs.lemmas.List.Elements.{filter_map-append}
use Rattle.gl_lists.proofs.Each.{by_cond}
use Rattle.gl_text.specs.LogicalLines.{same_text, title_of, after_title}
use Rattle.gl_text.specs.Decks.{has_twice}
use Rattle.gl_printed.proofs.NamesTwice.{twice_more}
use Rattle.gl_lifting.specs.NameMaps.{NameMap}
use Rattle.gl_lifting.specs.MapReading.{MapFault, Row, of_device, of_net, ending, other, bad_header, bad_line, no_end, double_new, device_names, net_names, first_bad, is_double, is_ending, is_misplaced, is_map_name, map_by, map_by_rows, map_lines, names_row, read_map, refused_at, row_of, words_of}
use Rattle.gl_lifting.specs.Renaming.{new_names}
use Rattle.gl_lifting.specs.Chain.{HasNames}
use Rattle.gl_map.specs.Rows.{rows_in}
use Rattle.gl_map.proofs.LineLaws.{read_by_header}
use Rattle.gl_map.proofs.CheckLaws.{not_refused}
use Rattle.gl_map.proofs.DoubleLaws.{devices_in, nets_in, double_device, double_net}

-- both are names
abbrev AreNames : List ℕ × List ℕ → Type 0
AreNames n = (is_map_name n.0 ≡ true) × (is_map_name n.1 ≡ true)

-- the names of a row are names
abbrev IsNamed : Row → Type 0
IsNamed (of_device new old) = AreNames (new, old)
IsNamed (of_net new old) = AreNames (new, old)
IsNamed ending = Unit {0}
IsNamed other = Unit {0}

names_named : (word new old : List ℕ) → IsNamed (names_row word new old)
names_named word new old =
    by_cond IsNamed (is_map_name new && is_map_name old) _ other
    (λ both. let p = and_parts (is_map_name new) (is_map_name old) both in
    by_cond IsNamed (same_text word (codes "device")) (of_device new old) _ (λ e. p) (λ e. by_cond IsNamed (same_text word (codes "net")) (of_net new old) other (λ f. p) (λ f. tt)))
    (λ e. tt)

row_named : (words : List (List ℕ)) → IsNamed (row_of words)
row_named [] = tt
row_named (w ∷ []) = by_cond IsNamed (same_text w (codes "end")) ending other (λ e. tt) (λ e. tt)
row_named (w ∷ x ∷ []) = tt
row_named (w ∷ x ∷ y ∷ []) = names_named w x y
row_named (w ∷ x ∷ y ∷ z ∷ zs) = tt

lines_named : (lines : List (List ℕ)) → AllByRecursion IsNamed (map (λ l. row_of (words_of l)) lines)
lines_named [] = tt
lines_named (l ∷ ls) = (row_named (words_of l), lines_named ls)

devices_named : (rows : List Row) → AllByRecursion IsNamed rows → AllByRecursion AreNames (devices_in rows)
devices_named [] h = tt
devices_named (of_device n o ∷ rows) h = (h.0, devices_named rows h.1)
devices_named (of_net n o ∷ rows) h = devices_named rows h.1
devices_named (ending ∷ rows) h = devices_named rows h.1
devices_named (other ∷ rows) h = devices_named rows h.1

nets_named : (rows : List Row) → AllByRecursion IsNamed rows → AllByRecursion AreNames (nets_in rows)
nets_named [] h = tt
nets_named (of_net n o ∷ rows) h = (h.0, nets_named rows h.1)
nets_named (of_device n o ∷ rows) h = nets_named rows h.1
nets_named (ending ∷ rows) h = nets_named rows h.1
nets_named (other ∷ rows) h = nets_named rows h.1

-- ---- no new name twice

abbrev AreApart : List Row → Type 0
AreApart rows = (has_twice (new_names (devices_in rows)) ≡ false) × (has_twice (new_names (nets_in rows)) ≡ false)

abbrev NoTwice : List (List ℕ) → Type 0
NoTwice names = has_twice names ≡ false

abbrev device_news : List Row → List (List ℕ)
device_news rows = new_names (devices_in rows)

abbrev net_news : List Row → List (List ℕ)
net_news rows = new_names (nets_in rows)

devices_more : (before : List Row) (row : Row) → device_news (before ++ row ∷ []) ≡ device_news before ++ device_news (row ∷ [])
devices_more before row = ap new_names (filter_map-append device_names before (row ∷ [])) ∙ map-append (λ (n : List ℕ × List ℕ). n.0) (devices_in before) (devices_in (row ∷ []))

nets_more : (before : List Row) (row : Row) → net_news (before ++ row ∷ []) ≡ net_news before ++ net_news (row ∷ [])
nets_more before row = ap new_names (filter_map-append net_names before (row ∷ [])) ∙ map-append (λ (n : List ℕ × List ℕ). n.0) (nets_in before) (nets_in (row ∷ []))

none_more : (names : List (List ℕ)) → NoTwice names → NoTwice (names ++ [])
none_more names h = subst NoTwice (sym (append-nil names)) h

apart_more : (before : List Row) (row : Row) → is_double before row ≡ false → AreApart before → AreApart (before ++ row ∷ [])
apart_more before (of_device n o) off h = (
  subst NoTwice (sym (devices_more before (of_device n o))) (twice_more (device_news before) n h.0 (sym (double_device before n o) ∙ off)),
  subst NoTwice (sym (nets_more before (of_device n o))) (none_more (net_news before) h.1),
)
apart_more before (of_net n o) off h = (
  subst NoTwice (sym (devices_more before (of_net n o))) (none_more (device_news before) h.0),
  subst NoTwice (sym (nets_more before (of_net n o))) (twice_more (net_news before) n h.1 (sym (double_net before n o) ∙ off)),
)
apart_more before ending off h = (
  subst NoTwice (sym (devices_more before ending)) (none_more (device_news before) h.0),
  subst NoTwice (sym (nets_more before ending)) (none_more (net_news before) h.1),
)
apart_more before other off h = (
  subst NoTwice (sym (devices_more before other)) (none_more (device_news before) h.0),
  subst NoTwice (sym (nets_more before other)) (none_more (net_news before) h.1),
)

-- rows none of which is double
all_apart : (k : ℕ) (before rows : List Row) → first_bad is_double k before rows ≡ None → AreApart before → AreApart (before ++ rows)
all_apart k before [] e h = subst AreApart (sym (append-nil before)) h
all_apart k before (row ∷ rows) e h = go (is_double before row) refl e (all_apart (k + 1) (before ++ row ∷ []) rows) where
  go : (b : Bool) → is_double before row ≡ b → cond b (Some k) (first_bad is_double (k + 1) (before ++ row ∷ []) rows) ≡ None
      → (first_bad is_double (k + 1) (before ++ row ∷ []) rows ≡ None → AreApart (before ++ row ∷ []) → AreApart ((before ++ row ∷ []) ++ rows)) → AreApart (before ++ row ∷ rows)
  go true on g ih = absurd cc
  go false off g ih = subst AreApart (append_assoc before (row ∷ []) rows) (ih g (apart_more before row off h))

-- ---- the whole map

has_names : (rows : List Row) → AllByRecursion IsNamed rows → first_bad is_double 2 [] rows ≡ None → HasNames (map_by rows)
has_names rows named e = let apart = all_apart 2 [] rows e (refl, refl) in record {
  devices = devices_named rows named;
  nets = nets_named rows named;
  devices_differ = apart.0;
  nets_differ = apart.1;
}

by_refusal : {A : Type 0} (fault : ℕ → MapFault) (o : Option ℕ) (r : Result A MapFault) (w : A) → refused_at fault o r ≡ Ok w → r ≡ Ok w
by_refusal fault None r w e = e
by_refusal fault (Some n) r w e = absurd cc

by_end : {A : Type 0} (b : Bool) (fault : MapFault) (r : Result A MapFault) (w : A) → cond b r (Err fault) ≡ Ok w → r ≡ Ok w
by_end true fault r w e = e
by_end false fault r w e = absurd cc

-- the map of rows that is not refused
pub map_is : (rows : List Row) (m : NameMap) → map_by_rows rows ≡ Ok m → (first_bad is_double 2 [] rows ≡ None) × (map_by rows ≡ m)
map_is rows m e =
    let placed = by_refusal bad_line (first_bad is_misplaced 2 [] rows) _ m e in
    let ended = by_end (list_any is_ending rows) no_end _ m placed in
    not_refused double_new (first_bad is_double 2 [] rows) (map_by rows) m ended

-- the rows of a map that is read
pub rows_are : (bytes : List ℕ) (m : NameMap) → read_map bytes ≡ Ok m → map_by_rows (rows_in (after_title bytes)) ≡ Ok m
rows_are bytes m e = by_end (same_text (title_of bytes) (codes "gatelift map 1")) bad_header _ m (sym (read_by_header bytes) ∙ e)

pub read_has_names : (bytes : List ℕ) (m : NameMap) → read_map bytes ≡ Ok m → HasNames m
read_has_names bytes m e =
    let rows = rows_in (after_title bytes) in
    let p = map_is rows m (rows_are bytes m e) in
    subst HasNames p.1 (has_names rows (lines_named (map_lines (after_title bytes))) p.0)
