-- The key of a pattern in a circuit, as a function.
use Rattle.std.proofs.Common.{◌≡◌, ◌≤◌, ◌<◌, ◌+◌, ◌++◌, ◌∙◌, ℕ, length, take, get_or, map, List, [], ◌∷◌, Option, None, Some, Bool, true, false, cond, eqb, refl, ap, subst, arith, inl, inr}
use Rattle.std.specs.Prelude.{All, Contains, not, filter, fold}
use Rattle.std.specs.List.{range_with_len, flat_map}
use Rattle.std.proofs.lemmas.Bool.{cases_Bool, not_from_false}
use Rattle.std.proofs.lemmas.List.Elements.{All-head, All-tail, All-weaker, All-more, Contains-append_left}
use Rattle.gl_text.specs.Decks.{Sub}
use Rattle.gl_match.specs.declared.role.Vertex.{Vertex}
use Rattle.gl_match.specs.declared.role.Vertex.TheVariants.{Dev, Net}
use Rattle.gl_match.specs.Cells.{Cell}
use Rattle.gl_match.specs.Graph.{Circuit, Pattern, FitsInto, role_at}
use Rattle.gl_match.proofs.Lists.{in_head, in_none, in_map, in_filter, in_flat_map}
use Rattle.gl_match.proofs.AtLaws.{in_range}
use Rattle.gl_graph.specs.Built.{IsBuilt, IsBuiltPattern}
use Rattle.gl_graph.specs.FitCells.{FitsIfAny, IsForCircuit}
use Rattle.gl_course.specs.KeyNotes.{KeyNote, IsKey, IsDeepEnough}
use Rattle.gl_course.specs.SpoilTests.{has_vertex, is_inner, spoiled_at}
use Rattle.gl_course.specs.LikeTests.{row_of}
use Rattle.gl_course.specs.CourseTests.{first_level, next_level, levels_from, key_vertices, notes_of, lesser_note, least_note}
use Rattle.gl_course.proofs.VertexLaws.{has_says, spoiled_says}
use Rattle.gl_course.proofs.KeyLaws.{key_says, key_if}
use Rattle.gl_base.specs.Reports.{line}
use Rattle.gl_lifting.specs.Runs.{Run, pattern_in}
use Rattle.gl_history.specs.Searching.{pattern_at}
use Rattle.gl_probe.specs.Keys.{key_in}
use Rattle.gl_probe.specs.Probes.{key_words, key_line, TellKeys}
use Rattle.gl_probe.specs.Shown.{IsDeepFor, IsDeepForAll}

-- the key is what the function gives
pub key_found : (c : Circuit) (p : Pattern) (k : KeyNote) → IsBuilt c → IsBuiltPattern p → IsKey c p k → key_in c p ≡ Some k
unfolding key_in
key_found c p k bc bp h = key_if c p k (record { circuit = bc.nets; pattern = bp.nets }) h

-- and what it gives is the key
pub key_told : (c : Circuit) (p : Pattern) (k : KeyNote) → IsBuilt c → IsBuiltPattern p → key_in c p ≡ Some k → IsKey c p k
unfolding key_in
key_told c p k bc bp e = key_says c p k (record { circuit = bc.nets; pattern = bp.nets }) e

-- a list of notes that is not empty has a least one
least_there : (notes : List KeyNote) (note : KeyNote) → Contains notes note → (k : KeyNote) × (least_note notes ≡ Some k)
least_there [] note h = absurd (in_none note h)
least_there (n ∷ ns) note h = (fold lesser_note n ns, refl)

-- no device is spoiled at depth 0
unspoiled : (p : Pattern) (d : ℕ) → has_vertex (spoiled_at p 0) (Dev d) ≡ false
unspoiled p d = elim (cases_Bool (has_vertex (spoiled_at p 0) (Dev d))) [
  | inl on ↦ absurd (spoiled_says p 0 (Dev d) (has_says (spoiled_at p 0) (Dev d) on)).1
  | inr off ↦ off
]

-- so the first device has a note
first_note : (c : Circuit) (p : Pattern) → 0 < length p.devices → (note : KeyNote) × Contains (flat_map (notes_of p) (levels_from c p 16 (first_level c p))) note
first_note c p filled =
    let l = first_level c p in
    let made : Vertex → KeyNote = λ v. record { vertex = v; depth = l.depth; candidates = length (row_of l.rows v) } in
    let is_free : Vertex → Bool = λ v. not (has_vertex l.spoiled v) in
    let devices = map (λ d. Dev d) (range_with_len 0 (length p.devices)) in
    let nets = map (λ n. Net n) (filter (λ n. is_inner (role_at p n)) (range_with_len 0 (length p.roles))) in
    let stands : Contains (key_vertices p) (Dev 0) = Contains-append_left devices nets (Dev 0) (in_map (λ d. Dev d) (range_with_len 0 (length p.devices)) 0 (in_range (length p.devices) 0 filled)) in (
      made (Dev 0),
      in_flat_map (notes_of p) (levels_from c p 16 l) l (made (Dev 0)) (in_head l (levels_from c p 15 (next_level c p l)))
          (in_map made (filter is_free (key_vertices p)) (Dev 0) (in_filter is_free (key_vertices p) (Dev 0) stands (not_from_false (has_vertex l.spoiled (Dev 0)) (unspoiled p 0)))),
    )

-- each pattern has a key
pub key_there : (c : Circuit) (p : Pattern) → IsBuiltPattern p → (k : KeyNote) × (key_in c p ≡ Some k)
unfolding key_in
key_there c p bp = let n = first_note c p bp.filled in least_there (flat_map (notes_of p) (levels_from c p 16 (first_level c p))) n.0 n.1

-- the lines of cells tell their keys
pub keys_told : (run : Run) (level : ℕ) (c : Circuit) (cells : List Sub) → IsBuilt c → All (λ (cell : Sub). IsBuiltPattern (pattern_in run cell)) cells → TellKeys run level c cells (flat_map (λ (cell : Sub). key_line level cell (key_in c (pattern_in run cell))) cells)
keys_told run level c [] bc h = record { keys = []; each = tt; lines = refl }
keys_told run level c (cell ∷ cells) bc h =
    let p = pattern_in run cell in
    let bp = All-head (λ (x : Sub). IsBuiltPattern (pattern_in run x)) cell cells h in
    let k = key_there c p bp in
    let later = keys_told run level c cells bc (All-tail (λ (x : Sub). IsBuiltPattern (pattern_in run x)) cell cells h) in
    let rest = flat_map (λ (x : Sub). key_line level x (key_in c (pattern_in run x))) cells in
    record {
      keys = k.0 ∷ later.keys;
      each = (key_told c p k.0 bc bp k.1, later.each);
      lines = ap (λ (o : Option KeyNote). key_line level cell o ++ rest) k.1 ∙ ap (λ (t : List ℕ). line (key_words level cell k.0) ++ t) later.lines;
    }

-- the pattern of a cell of a level fits
pub fits_at : (c : Circuit) (level : ℕ) (cell : Cell) (p : Pattern) → IsForCircuit c cell → pattern_at level cell ≡ Some p → FitsInto c p
fits_at c level cell p h e = by (eqb cell.level level) cell.pattern h.pattern e
  where
    by : (b : Bool) (o : Option Pattern) → FitsIfAny c cell.kind o → cond b o None ≡ Some p → FitsInto c p
    by false o h e = absurd (let no : None ≡ Some p = e in cc)
    by true None h e = absurd (let no : None ≡ Some p = e in cc)
    by true (Some q) h e = subst (FitsInto c) (let same : q ≡ p = cc in same) h.fits

-- and the depth is enough for it
pub deep_at : (level depth : ℕ) (cell : Cell) (p : Pattern) → IsDeepFor depth (pattern_at level cell) → pattern_at level cell ≡ Some p → IsDeepEnough p depth
deep_at level depth cell p h e = subst (IsDeepFor depth) e h

-- a depth that is enough, and a greater one
pub deeper : (a b : ℕ) (o : Option Pattern) → a ≤ b → IsDeepFor a o → IsDeepFor b o
deeper a b None le h = tt
deeper a b (Some p) le h = λ i v shallow may free. let within : i ≤ a = h i v shallow may free in omega (arith, within, le)

-- of all cells
pub all_deeper : (a b level : ℕ) (cells : List Cell) → a ≤ b → IsDeepForAll level a cells → IsDeepForAll level b cells
all_deeper a b level cells le h = All-weaker (λ (cell : Cell). IsDeepFor a (pattern_at level cell)) (λ (cell : Cell). IsDeepFor b (pattern_at level cell)) (λ cell deep. deeper a b (pattern_at level cell) le deep) cells h

-- of one cell more
pub one_more_deep : (level i old own new : ℕ) (cells : List Cell) (cell : Cell) → i < length cells → cell ≡ get_or cells i cell → old ≤ new → own ≤ new → IsDeepForAll level old (take i cells) → IsDeepFor own (pattern_at level cell) → IsDeepForAll level new (take (i + 1) cells)
one_more_deep level i old own new cells cell lt is le le' before here =
    All-more (λ (x : Cell). IsDeepFor new (pattern_at level x)) cells i cell lt (all_deeper old new level (take i cells) le before) (subst (λ (x : Cell). IsDeepFor new (pattern_at level x)) is (deeper own new (pattern_at level cell) le' here))
