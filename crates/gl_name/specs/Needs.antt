-- How many underscores a stem needs so that it stands in no name: one more than stand behind an `xg`, and none without `xg`.
use Rattle.std.specs.Prelude.{ℕ, suc, max, ◌==◌, ◌&&◌, List, [], ◌∷◌, map, if◌then◌else◌}
use Rattle.gl_base.specs.Libraries.{greatest}

-- the underscores at the start
abbrev pub underscores : List ℕ → ℕ
underscores [] = 0
underscores (byte ∷ bytes) = if byte == 95 then suc (underscores bytes) else 0

-- what an `xg` at the start needs
abbrev pub need_at : List ℕ → ℕ
need_at [] = 0
need_at (x ∷ []) = 0
need_at (x ∷ g ∷ bytes) = if x == 120 && g == 103 then suc (underscores bytes) else 0

-- what a name needs: the most of all its places
abbrev pub need : List ℕ → ℕ
need [] = 0
need (byte ∷ bytes) = max (need_at (byte ∷ bytes)) (need bytes)

-- what names need
abbrev pub need_of_names : List (List ℕ) → ℕ
need_of_names names = greatest (map need names)
