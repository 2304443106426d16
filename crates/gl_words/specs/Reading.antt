-- What a command's reading of words gives, by the meaning of the commands that `clap` reads.
use Rattle.std.specs.Prelude.{ℕ, List, [], ◌∷◌, Option, Some, None}
use Rattle.clap.specs.Words.{App, Row, Kinds, fault_of, matches_of, rows_of, found_of}
use Rattle.clap.specs.declared.parser.matches.ArgMatches.{ArgMatches}

-- the rows, where nothing is refused
abbrev pub unless_refused : Kinds → List Row → Option (List Row)
unless_refused [] rows = Some rows
unless_refused (kind ∷ kinds) rows = None

-- what the words give, the first being the program's name; nothing where the command refuses them
unfoldable pub words_read : App → List (List ℕ) → Option (List Row)
words_read app words = unless_refused (fault_of app words) (matches_of app words)

-- what was read
abbrev pub rows_in : ArgMatches → List Row
rows_in matches = rows_of (found_of matches)
