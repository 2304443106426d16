-- The key of a pattern in a circuit, as a function. This project's own.
use Rattle.std.specs.Prelude.{ℕ, Option}
use Rattle.gl_match.specs.Graph.{Circuit, Pattern}
use Rattle.gl_course.specs.KeyNotes.{KeyNote}
use Rattle.gl_course.specs.CourseTests.{key_note}

-- the key of a pattern in a circuit: the least note of all; none where no vertex may be the key
unfoldable pub key_in : Circuit → Pattern → Option KeyNote
key_in c p = key_note c p
