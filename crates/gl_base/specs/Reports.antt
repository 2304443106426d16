-- The words and lines of a report. The format is this project's own.
use Rattle.std.specs.Prelude.{ℕ, List, [], ◌∷◌, ◌++◌, map, codes, slice_index_or}
use Rattle.std.specs.List.{zip, join_with_byte}
use Rattle.std.specs.Fmt.{decimal}

-- the name of a number
abbrev pub name_at : List (List ℕ) → ℕ → List ℕ
name_at names number = slice_index_or names number []

-- a line: its words with one blank between each two, and a newline
abbrev pub line : List (List ℕ) → List ℕ
line words = join_with_byte 32 words ++ codes "\n"

-- `NAME=IMAGE`
abbrev pub part : List ℕ × List ℕ → List ℕ
part pair = pair.0 ++ codes "=" ++ pair.1

-- one part for each name, with its image
abbrev pub parts : List (List ℕ) → List (List ℕ) → List (List ℕ)
parts names images = map part (zip names images)

-- `cell NAME ports P instances I`
abbrev pub cell_words : List ℕ → ℕ → ℕ → List (List ℕ)
cell_words name ports instances = codes "cell" ∷ name ∷ codes "ports" ∷ decimal ports ∷ codes "instances" ∷ decimal instances ∷ []

-- the number of an instance, what became of it, the parts of its ports, a bar, and the parts of its devices
abbrev pub instance_words : ℕ → List (List ℕ) → List (List ℕ) → List (List ℕ) → List (List ℕ)
instance_words number fate ports images = decimal number ∷ fate ++ ports ++ codes "|" ∷ images
