-- Subcircuits whose calls go down.
use Rattle.std.specs.Prelude.{ℕ, ◌<◌, List}
use Rattle.std.specs.List.{AllByRecursion}
use Rattle.gl_text.specs.Decks.{Sub, callees}

-- each call of a subcircuit goes down
abbrev pub Down : (List ℕ → ℕ) → List Sub → Type 0
Down level subs = AllByRecursion (λ (s : Sub). AllByRecursion (λ n. level n < level s.head.name) (callees s.cards)) subs
